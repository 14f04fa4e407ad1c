-- How far a text can still become that of a moniker.
use Rattle.std.proofs.Common.{◌≡◌, ℕ, ◌+◌, ◌<◌, ◌≤◌, List, [], ◌∷◌, length, take, get_or, Some, None, true, false, true≢false, refl, sym, ap, subst, ◌∙◌, arith}
use Rattle.std.proofs.lemmas.List.{length-take-le, take_all}
use Rattle.cm_names.specs.declared.grammar.MonikerState.{MonikerState}
use Rattle.cm_names.specs.declared.grammar.MonikerState.TheVariants.{Start, Whole, Root, Part, First, Colon, Second}
use Rattle.cm_names.specs.Prefixes.{HasCompletion, IsLongestPrefix}
use Rattle.cm_names.specs.MonikerInside.{IsMonikerText}
use Rattle.cm_names.specs.MonikerStates.{next, may_end}
use Rattle.cm_names.proofs.lemmas.prefixes.Prefixes.{state_after, Accepts, one_more, can_begin, cannot_begin, cannot_end}
use Rattle.cm_names.proofs.lemmas.prefixes.MonikerGrammar.{reads_monikers}

-- the bytes so far lead here, and there is room for what is wanting
pub record IsUnderWay (xs : List ℕ) (i : ℕ) (p : MonikerState) : Type 0 where
  pub leads : state_after next Start (take i xs) ≡ Some p
  pub room : may_end p ≡ false → i < 4096

-- a letter ends what may not end yet
letter : (p : MonikerState) → may_end p ≡ false → Accepts next may_end p (97 ∷ [])
letter Start e = record { last = First 1; leads = refl; ends = refl }
letter Whole e = absurd (true≢false e)
letter Root e = absurd (true≢false e)
letter Part e = record { last = First 1; leads = refl; ends = refl }
letter (First n) e = absurd (true≢false e)
letter Colon e = record { last = Second 1; leads = refl; ends = refl }
letter (Second n) e = absurd (true≢false e)

-- What leads to a place, with room for what is wanting, can be completed to a moniker's text.
prefix : (xs : List ℕ) (i : ℕ) (p : MonikerState) → i ≤ length xs → i ≤ 4096 → IsUnderWay xs i p → HasCompletion IsMonikerText (take i xs)
prefix xs i p le short way =
    let n : length (take i xs) ≡ i = length-take-le i xs le in
    elim (may_end p) as (λ b. may_end p ≡ b → HasCompletion IsMonikerText (take i xs)) [
      | true ↦ λ e. can_begin reads_monikers (take i xs) p way.leads [] (record { last = p; leads = refl; ends = e }) (omega arith)
      | false ↦ λ e. let room : i < 4096 = way.room e in can_begin reads_monikers (take i xs) p way.leads (97 ∷ []) (letter p e) (omega arith)
    ] refl

-- Where the next byte leads nowhere, the bytes before it are the longest prefix of a moniker.
pub stuck : (xs : List ℕ) (i : ℕ) (p : MonikerState) → i < length xs → length xs ≤ 4096 → IsUnderWay xs i p → next p (get_or xs i 0) ≡ None → IsLongestPrefix IsMonikerText xs i
stuck xs i p lt short way e = record {
  within = omega arith;
  begins = prefix xs i p (omega arith) (omega arith) way;
  stops = λ _ more. cannot_begin reads_monikers (take (i + 1) xs) (one_more next Start xs i p None lt way.leads e) more;
}

-- the next byte is the last that there is room for, and no moniker ends with it
pub full : (xs : List ℕ) (i : ℕ) (p q : MonikerState) → i < length xs → length xs ≤ 4096 → IsUnderWay xs i p → next p (get_or xs i 0) ≡ Some q → may_end q ≡ false → i ≡ 4095 → IsLongestPrefix IsMonikerText xs i
full xs i p q lt short way e ends last = record {
  within = omega arith;
  begins = prefix xs i p (omega arith) (omega arith) way;
  stops = λ _ more. let n : length (take (i + 1) xs) ≡ i + 1 = length-take-le (i + 1) xs (omega arith) in cannot_end reads_monikers (take (i + 1) xs) q (one_more next Start xs i p (Some q) lt way.leads e) ends (omega arith) more;
}

-- Where the next byte leads on, one byte more is under way.
pub further : (xs : List ℕ) (i : ℕ) (p q : MonikerState) → i < length xs → IsUnderWay xs i p → next p (get_or xs i 0) ≡ Some q → (may_end q ≡ false → i + 1 < 4096) → IsUnderWay xs (i + 1) q
further xs i p q lt way e room =
    record { leads = one_more next Start xs i p (Some q) lt way.leads e; room = room }

-- all of it leads to a place where a moniker may not end
pub unended : (xs : List ℕ) (i : ℕ) (p : MonikerState) → i ≡ length xs → length xs ≤ 4096 → IsUnderWay xs i p → IsLongestPrefix IsMonikerText xs (length xs)
unended xs i p e short way = record {
  within = omega arith;
  begins = subst (λ n. HasCompletion IsMonikerText (take n xs)) e (prefix xs i p (omega arith) (omega arith) way);
  stops = λ lt _. absurd (omega arith);
}

-- A text at whose end the reader stands where no moniker may end is no moniker's text.
pub not_ended : (xs : List ℕ) (i : ℕ) (p : MonikerState) → i ≡ length xs → IsUnderWay xs i p → may_end p ≡ false → IsMonikerText xs → ⊥
not_ended xs i p e way ends h =
    let read = reads_monikers.accepted xs h in
    let led : Some p ≡ Some read.last = sym way.leads ∙ ap (state_after next Start) (take_all i xs (omega arith)) ∙ read.leads in
    let same : p ≡ read.last = cc in
    absurd (true≢false (sym (ap may_end same ∙ read.ends) ∙ ends))

-- all of it is the text of a moniker
pub ended : (xs : List ℕ) (i : ℕ) (p : MonikerState) → i ≡ length xs → length xs ≤ 4096 → IsUnderWay xs i p → may_end p ≡ true → IsMonikerText xs
ended xs i p e short way ends =
    reads_monikers.is_kind xs (record { last = p; leads = sym (ap (state_after next Start) (take_all i xs (omega arith))) ∙ way.leads; ends = ends }) short
