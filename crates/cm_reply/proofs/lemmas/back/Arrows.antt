-- Where the last arrow of a line stands.
use Rattle.std.proofs.Common.{◌≡◌, ◌≢◌, ℕ, ◌+◌, ◌<◌, ◌≤◌, List, [], ◌∷◌, ◌++◌, length, take, drop, codes, Option, Some, None, IsUtf8, refl, sym, ap, subst, ◌∙◌, arith, length-append, inl, inr}
use Rattle.std.specs.Str.Pattern.{LacksTextAt}
use Rattle.std.proofs.lemmas.Bool.{cases_lt, cases_eq}
use Rattle.std.proofs.lemmas.List.{take-append-drop, length-take-le}
use Rattle.std.proofs.Math.Seq.{drop-append_seam, take-append_seam}
use Rattle.std.proofs.lemmas.List.{length-drop}
use Rattle.memchr.specs.Find.{FindsLastNeedle, OccursAt}
use Rattle.memchr.proofs.lemmas.MatchLemmas.{OccursAt-split, OccursAt-from_part}
use Rattle.cm_world.specs.declared.event.Event.{Event}
use Rattle.cm_reply.specs.Lists.{TextBytes}
use Rattle.cm_reply.specs.Lines.{arrow, asked_text, IsEntryLine}
use Rattle.cm_reply.specs.LinesInside.{IsCutAtLast, IsSomeEntryLine}
use Rattle.cm_reply.specs.Reading.{IsAskable, text_of_asked}
use Rattle.cm_reply.specs.declared.entry_words.EntryFault.{EntryFault}
use Rattle.cm_reply.specs.declared.entry_words.EntryFault.TheVariants.{NotAnEntry, Memory}
use Rattle.cm_reply.specs.declared.reading.Asked.{Asked}

-- ---- one arrow

-- an arrow that begins at a place
occurs : (t rest : TextBytes) (i : ℕ) → drop i t ≡ arrow ++ rest → OccursAt t arrow i
occurs t rest i e =
    let long : i + 4 ≤ length t = omega (arith, ap length e, length-drop i t, length-append arrow rest) in
    OccursAt-from_part t arrow i long (ap (take 4) e)

-- The last arrow that is found parts a line into what stands before it and what stands behind it.
pub cut_last : (t : TextBytes) (k : ℕ) → FindsLastNeedle t arrow (Some k) → IsCutAtLast t (take k t) (drop (k + 4) t)
cut_last t k h =
    let fits : k + 4 ≤ length t = h.1.fits in
    let long : length (take k t) ≡ k = length-take-le k t (omega arith) in
    record {
      whole = sym (take-append-drop k t) ∙ ap (λ r. take k t ++ r) (OccursAt-split t arrow k h.1);
      last = λ a r e. elim (cases_lt k (length a)) [
        | inl behind ↦
            let it : OccursAt t arrow (length a) = occurs t r (length a) (ap (drop (length a)) e ∙ drop-append_seam a (arrow ++ r)) in
            let inside : length a + 4 ≤ length t = it.fits in
            absurd (h.0.after (length a) (omega arith) (omega arith) it)
        | inr before ↦ omega (arith, long, before)
      ];
    }

-- A text in which no last arrow is found is no prefix, arrow and rest.
pub no_arrow : (t prefix rest : TextBytes) → FindsLastNeedle t arrow None → t ≡ prefix ++ (arrow ++ rest) → ⊥
no_arrow t prefix rest none e =
    let at : drop (length prefix) t ≡ arrow ++ rest = ap (drop (length prefix)) e ∙ drop-append_seam prefix (arrow ++ rest) in
    let it : OccursAt t arrow (length prefix) = occurs t rest (length prefix) at in
    let inside : length prefix + 4 ≤ length t = it.fits in
    none (length prefix) (omega arith) (omega arith) it

-- ---- a line is parted in one way

-- What stands behind the prefix at which a text is cut is the arrow and the rest.
at_place : (t a r : TextBytes) → IsCutAtLast t a r → drop (length a) t ≡ arrow ++ r
at_place t a r h = ap (drop (length a)) h.whole ∙ drop-append_seam a (arrow ++ r)

-- The first bytes of a text, up to the arrow where it is cut, are the prefix.
in_prefix : (t a r : TextBytes) → IsCutAtLast t a r → take (length a) t ≡ a
in_prefix t a r h = ap (take (length a)) h.whole ∙ take-append_seam a (arrow ++ r)

-- Two cuts of a text at its last arrow have prefixes of one length.
same_place : (t a b r s : TextBytes) → IsCutAtLast t a r → IsCutAtLast t b s → length a ≡ length b
same_place t a b r s h k = omega (arith, h.last b s k.whole, k.last a r h.whole)

-- A text is cut at its last arrow in one way at most.
pub one_cut : (t a b r s : TextBytes) → IsCutAtLast t a r → IsCutAtLast t b s → (a ≡ b) × (r ≡ s)
one_cut t a b r s h k =
    let place : length a ≡ length b = same_place t a b r s h k in
    let both : arrow ++ r ≡ arrow ++ s = sym (at_place t a r h) ∙ ap (λ n. drop n t) place ∙ at_place t b s k in
    (sym (in_prefix t a r h) ∙ ap (λ n. take n t) place ∙ in_prefix t b s k, ap (drop 4) both)

-- ---- entries

-- The line of an entry is cut at its last arrow, into what was asked and the reply.
cut_of : (t : TextBytes) (n c : ℕ) (e : Event) (r : TextBytes) → IsEntryLine t n c e r → IsCutAtLast t (asked_text n c e) r
cut_of t n c e r h = record { whole = h.whole; last = h.last }

-- a line that is cut so, whose prefix is asked, is an entry's
pub entry_is : (t prefix rest : TextBytes) (a : Asked) → IsCutAtLast t prefix rest → IsUtf8 rest → IsAskable a → prefix ≡ text_of_asked a → IsEntryLine t a.number a.caller a.event rest
entry_is t prefix rest a cut utf8 is same =
    let here : IsCutAtLast t (text_of_asked a) rest = subst (λ x. IsCutAtLast t x rest) same cut in
    record { of_64_bits = is.of_64_bits; of_32_bits = is.of_32_bits; legible = is.legible; utf8 = utf8; whole = here.whole; last = here.last }

-- what is so of the prefix and the rest of an entry's line
pub record IsParted (prefix rest : TextBytes) : Type 0 where
  pub asked : Asked
  pub askable : IsAskable asked
  pub prefix_is : prefix ≡ text_of_asked asked
  pub utf8 : IsUtf8 rest

-- The prefix of an entry's line, cut at its last arrow, is what was asked, and the rest is UTF-8.
pub parted : (t prefix rest : TextBytes) → IsCutAtLast t prefix rest → IsSomeEntryLine t → IsParted prefix rest
parted t prefix rest cut some =
    let n : ℕ = some.0 in
    let c : ℕ = some.1 in
    let e : Event = some.2 in
    let r : TextBytes = some.3 in
    let line : IsEntryLine t n c e r = some.4 in
    let same : (prefix ≡ asked_text n c e) × (rest ≡ r) = one_cut t prefix (asked_text n c e) rest r cut (cut_of t n c e r line) in
    record {
      asked = record { number = n; caller = c; event = e };
      askable = record { of_64_bits = line.of_64_bits; of_32_bits = line.of_32_bits; legible = line.legible };
      prefix_is = same.0;
      utf8 = subst IsUtf8 (sym same.1) line.utf8;
    }

-- a line without an arrow is none's
pub no_entry : (t : TextBytes) → ((prefix rest : TextBytes) → t ≡ prefix ++ (arrow ++ rest) → ⊥) → IsSomeEntryLine t → ⊥
no_entry t none some = none (asked_text some.0 some.1 some.2) some.3 some.4.whole

-- A fault of a line other than lack of memory is that it tells of no entry.
pub fault_is : (f : EntryFault) → f ≢ Memory → f ≡ NotAnEntry
fault_is NotAnEntry h = refl
fault_is Memory h = absurd (h refl)

-- a fault that is another than that there is none, is out of memory
pub memory_is : (f : EntryFault) → (f ≡ NotAnEntry → ⊥) → f ≡ Memory
memory_is NotAnEntry h = absurd (h refl)
memory_is Memory h = refl
