-- Texts that are read piece by piece: each piece leads from a place to the next one.
use Rattle.std.proofs.Common.{◌≡◌, ◌⊎◌, inl, inr, ⊎_elim, ℕ, zero, suc, ◌+◌, ◌<◌, ◌≤◌, List, [], ◌∷◌, ◌++◌, length, take, true, false, ◌==◌, refl, sym, ap, subst, ◌∙◌, arith, append_assoc, append-nil, length-append, eqb-true, min, add-one}
use Rattle.std.proofs.lemmas.List.Splits.{slice_split_none, slice_split_at}
use Rattle.std.proofs.Math.Seq.{take-append-add, take-append_seam, take-length}
use Rattle.std.proofs.lemmas.List.{take-append-le, length-take, get_or-take}
use Rattle.std.proofs.lemmas.List.Elements.{All-cons, All-nil, All-append}
use Rattle.cm_names.specs.Prefixes.{HasCompletion}
use Rattle.cm_facts.proofs.Numbers.{eq_self}
use Rattle.cm_command.specs.Counts.{CountsPrefixes}
pub use Rattle.cm_command.specs.Pieces.{pieces, PiecesLead, Wants, SaysText}
use Rattle.cm_command.proofs.lemmas.bytes.Pieces.{Lacks}

-- the text may end there, or goes on behind a separator
abbrev pub GoesOn : {S V : Type 0} → ℕ → (S → List ℕ → S → Type 0) → (S → V → Type 0) → S → Type 0
GoesOn {S} {V} k steps ends s = ((v : V) × ends s v) ⊎ ((u : List ℕ) × SaysText k steps ends s u)

-- Each piece leads to one place, lacks the separator, and leads to where a text ends or goes on.
pub record IsMachine {S V : Type 0} (k : ℕ) (steps : S → List ℕ → S → Type 0) (ends : S → V → Type 0) : Type 0 where
  pub one_way : (s : S) (w : List ℕ) (a b : S) → steps s w a → steps s w b → a ≡ b
  pub clean : (s : S) (w : List ℕ) (a : S) → steps s w a → Lacks k w
  pub goes : (s : S) (w : List ℕ) (a : S) → steps s w a → GoesOn k steps ends a

-- A piece that leads to where the text may end is a text that says something.
pub says_word : {S V : Type 0} (k : ℕ) (steps : S → List ℕ → S → Type 0) (ends : S → V → Type 0) (s a : S) (w : List ℕ) (v : V) → Lacks k w → steps s w a → ends a v → SaysText k steps ends s w
says_word k steps ends s a w v clean st e =
    (v, subst (λ ws. PiecesLead steps ends s ws v) (sym (slice_split_none (λ b. b == k) w clean)) (a, st, e))

-- A piece that leads on, a separator, and a text that says something from there on say something.
pub says_more : {S V : Type 0} (k : ℕ) (steps : S → List ℕ → S → Type 0) (ends : S → V → Type 0) (s a : S) (w r : List ℕ) → Lacks k w → steps s w a → SaysText k steps ends a r → SaysText k steps ends s (w ++ k ∷ r)
says_more k steps ends s a w r clean st h =
    (h.0, subst (λ ws. PiecesLead steps ends s ws h.0) (sym (slice_split_at (λ b. b == k) w k r clean (eq_self k))) (a, st, h.1))

-- A text of one piece that says something is a piece which leads to where the text may end.
pub word_says : {S V : Type 0} (k : ℕ) (steps : S → List ℕ → S → Type 0) (ends : S → V → Type 0) (s : S) (w : List ℕ) → Lacks k w → SaysText k steps ends s w → (a : S) × steps s w a × ((v : V) × ends a v)
word_says k steps ends s w clean h =
    let led = subst (λ ws. PiecesLead steps ends s ws h.0) (slice_split_none (λ b. b == k) w clean) h.1 in
    (led.0, led.1, (h.0, led.2))

-- Where a text of more pieces says something, the first leads on, and the rest says something.
pub more_says : {S V : Type 0} (k : ℕ) (steps : S → List ℕ → S → Type 0) (ends : S → V → Type 0) (s : S) (w r : List ℕ) → Lacks k w → SaysText k steps ends s (w ++ k ∷ r) → (a : S) × steps s w a × SaysText k steps ends a r
more_says k steps ends s w r clean h =
    let led = subst (λ ws. PiecesLead steps ends s ws h.0) (slice_split_at (λ b. b == k) w k r clean (eq_self k)) h.1 in
    (led.0, led.1, (h.0, led.2))

-- the first piece of a text
pub record First (k : ℕ) (t : List ℕ) : Type 0 where
  pub piece : List ℕ
  pub clean : Lacks k piece
  pub whole : (t ≡ piece) ⊎ ((more : List ℕ) × (t ≡ piece ++ k ∷ more))

-- Each text has a first piece.
pub first : (k : ℕ) (t : List ℕ) → First k t
first k [] = record { piece = []; clean = All-nil (λ c. (c == k) ≡ false); whole = inl refl }
first k (b ∷ bs) =
    elim (b == k) as (λ x. (b == k) ≡ x → First k (b ∷ bs)) [
      | true ↦ λ e. record { piece = []; clean = All-nil (λ c. (c == k) ≡ false); whole = inr (bs, ap (λ c. c ∷ bs) (eqb-true b k e)) }
      | false ↦ λ e. let rest = first k bs in record { piece = b ∷ rest.piece; clean = All-cons (λ c. (c == k) ≡ false) b rest.piece e rest.clean; whole = ⊎_elim (λ w. inl (ap (λ t. b ∷ t) w)) (λ w. inr (w.0, ap (λ t. b ∷ t) w.1)) rest.whole }
    ] refl

-- a piece that may still become one is a prefix of what the text may say
pub wants_says : {S V : Type 0} (k : ℕ) (steps : S → List ℕ → S → Type 0) (ends : S → V → Type 0) → IsMachine k steps ends → (s : S) (p : List ℕ) → HasCompletion (Wants steps s) p → HasCompletion (SaysText k steps ends s) p
wants_says k steps ends m s p h =
    let st = h.1.1 in
    let clean = m.clean s (p ++ h.0) h.1.0 st in
    ⊎_elim (λ e. (h.0, says_word k steps ends s h.1.0 (p ++ h.0) e.0 clean st e.1)) (λ u. (h.0 ++ k ∷ u.0, subst (SaysText k steps ends s) (append_assoc p h.0 (k ∷ u.0)) (says_more k steps ends s h.1.0 (p ++ h.0) u.0 clean st u.1))) (m.goes s (p ++ h.0) h.1.0 st)

-- A piece that can be completed to a text which says something can be to a piece which leads on.
pub says_wants : {S V : Type 0} (k : ℕ) (steps : S → List ℕ → S → Type 0) (ends : S → V → Type 0) (s : S) (p : List ℕ) → Lacks k p → HasCompletion (SaysText k steps ends s) p → HasCompletion (Wants steps s) p
says_wants k steps ends s p clean h =
    let f = first k h.0 in
    let whole : Lacks k (p ++ f.piece) = All-append (λ b. (b == k) ≡ false) p f.piece clean f.clean in
    ⊎_elim (λ e. let w = word_says k steps ends s (p ++ f.piece) whole (subst (λ r. SaysText k steps ends s (p ++ r)) e h.1) in (f.piece, (w.0, w.1))) (λ e. let w = more_says k steps ends s (p ++ f.piece) e.0 whole (subst (SaysText k steps ends s) (ap (λ r. p ++ r) e.1 ∙ sym (append_assoc p f.piece (k ∷ e.0))) h.1) in (f.piece, (w.0, w.1))) f.whole

-- What can be completed behind a whole piece and a separator can be completed from the state behind them.
pub prefix_says : {S V : Type 0} (k : ℕ) (steps : S → List ℕ → S → Type 0) (ends : S → V → Type 0) → IsMachine k steps ends → (s a : S) (w q : List ℕ) → steps s w a → HasCompletion (SaysText k steps ends s) (w ++ k ∷ q) → HasCompletion (SaysText k steps ends a) q
prefix_says k steps ends m s a w q st h =
    let more = more_says k steps ends s w (q ++ h.0) (m.clean s w a st) (subst (SaysText k steps ends s) (append_assoc w (k ∷ q) h.0) h.1) in
    (h.0, subst (λ x. SaysText k steps ends x (q ++ h.0)) (m.one_way s w more.0 a more.1 st) more.2)

-- What can be completed to something behind a piece can be with that piece before it.
pub says_prefix : {S V : Type 0} (k : ℕ) (steps : S → List ℕ → S → Type 0) (ends : S → V → Type 0) → IsMachine k steps ends → (s a : S) (w q : List ℕ) → steps s w a → HasCompletion (SaysText k steps ends a) q → HasCompletion (SaysText k steps ends s) (w ++ k ∷ q)
says_prefix k steps ends m s a w q st h =
    (h.0, subst (SaysText k steps ends s) (sym (append_assoc w (k ∷ q) h.0)) (says_more k steps ends s a w (q ++ h.0) (m.clean s w a st) st h.1))

-- ---- how many prefixes the text has

-- A prefix of an item and more, one item longer, begins with that item.
take_first : (k m : ℕ) (r : List ℕ) → take (m + 1) (k ∷ r) ≡ k ∷ take m r
take_first k m r = ap (λ n. take n (k ∷ r)) (add-one m)

-- A prefix that goes past a word and the separator has both and a prefix of what follows.
take_past : (w : List ℕ) (k m : ℕ) (r : List ℕ) → take (length w + (m + 1)) (w ++ k ∷ r) ≡ w ++ k ∷ take m r
take_past w k m r = take-append-add w (k ∷ r) (m + 1) ∙ ap (λ t. w ++ t) (take_first k m r)

-- a prefix of a clean text is clean
take_clean : (k i : ℕ) (w : List ℕ) → Lacks k w → Lacks k (take i w)
take_clean k i w h j d lt =
    let n : length (take i w) ≡ min i (length w) = length-take i w in
    let below : j < i = omega arith in
    subst (λ b. (b == k) ≡ false) (sym (get_or-take i w j d below)) (h j d (omega arith))

-- a text that begins with a piece and goes on behind a separator or ends
abbrev pub BeginsWithPiece : ℕ → List ℕ → List ℕ → Type 0
BeginsWithPiece k w t = (t ≡ w) ⊎ ((more : List ℕ) × (t ≡ w ++ k ∷ more))

-- A prefix no longer than the first piece of a text is a prefix of that piece.
short_prefix : (k i : ℕ) (w t : List ℕ) → i ≤ length w → BeginsWithPiece k w t → take i t ≡ take i w
short_prefix k i w t le h =
    ⊎_elim (λ e. ap (take i) e) (λ m. ap (take i) m.1 ∙ take-append-le i w (k ∷ m.0) le) h

-- A number that is at most one more than another is within it, or is one more.
pub le_or_past : (n len : ℕ) → n ≤ len + 1 → (n ≤ len) ⊎ (n ≡ len + 1)
le_or_past n len h = grind arith

-- No prefix past the count of what a first piece that leads nowhere may begin is completed.
stops_by : {S V : Type 0} (k : ℕ) (steps : S → List ℕ → S → Type 0) (ends : S → V → Type 0) → IsMachine k steps ends → (s : S) (w t : List ℕ) (n : ℕ) → Lacks k w → (Wants steps s w → ⊥) → CountsPrefixes (Wants steps s) w n → BeginsWithPiece k w t → n ≤ length t → HasCompletion (SaysText k steps ends s) (take n t) → (n ≤ length w) ⊎ (n ≡ length w + 1) → ⊥
stops_by k steps ends m s w t n clean never h begins le more (inl within) =
    h.stops within (says_wants k steps ends s (take n w) (take_clean k n w clean) (subst (HasCompletion (SaysText k steps ends s)) (short_prefix k n w t within begins) more))
stops_by k steps ends m s w t n clean never h begins le more (inr past) =
    ⊎_elim (λ e. absurd (omega (arith, ap length e))) (λ r. let prefix : take n t ≡ w ++ k ∷ [] = ap (λ i. take i t) past ∙ ap (take (length w + 1)) r.1 ∙ take-append-add w (k ∷ r.0) 1 in let says = more_says k steps ends s w more.0 clean (subst (SaysText k steps ends s) (ap (λ x. x ++ more.0) prefix ∙ append_assoc w (k ∷ []) more.0) more.1) in never (says.0, says.1)) begins

-- Where a piece leads nowhere, as many prefixes of the text begin one that is said as of the piece.
pub counts_piece : {S V : Type 0} (k : ℕ) (steps : S → List ℕ → S → Type 0) (ends : S → V → Type 0) → IsMachine k steps ends → (s : S) (w t : List ℕ) (n : ℕ) → Lacks k w → (Wants steps s w → ⊥) → CountsPrefixes (Wants steps s) w n → BeginsWithPiece k w t → CountsPrefixes (SaysText k steps ends s) t n
counts_piece k steps ends m s w t n clean never h begins = record {
  within = ⊎_elim (λ e. omega (arith, h.within, ap length e)) (λ r. omega (arith, h.within, ap length r.1, length-append w (k ∷ r.0))) begins;
  begins = λ i e. let le : i ≤ length w = omega (arith, h.within) in subst (HasCompletion (SaysText k steps ends s)) (sym (short_prefix k i w t le begins)) (wants_says k steps ends m s (take i w) (h.begins i e));
  stops = λ le more. stops_by k steps ends m s w t n clean never h begins le more (le_or_past n (length w) h.within);
}

-- Of three numbers, the second of which is one, the last two can be added first.
three : (a b : ℕ) → a + 1 + b ≡ a + (b + 1)
three a b = omega arith

-- A prefix past a piece that leads on completes, where the prefix behind it is one that is counted.
begins_by : {S V : Type 0} (k : ℕ) (steps : S → List ℕ → S → Type 0) (ends : S → V → Type 0) → IsMachine k steps ends → (s a : S) (w r : List ℕ) (n i : ℕ) → steps s w a → CountsPrefixes (SaysText k steps ends a) r n → length w + 1 + n ≡ i + 1 → HasCompletion (SaysText k steps ends s) (take i (w ++ k ∷ r))
begins_by k steps ends m s a w r zero i st h e =
    let here : i ≡ length w = omega arith in
    subst (HasCompletion (SaysText k steps ends s)) (sym (ap (λ j. take j (w ++ k ∷ r)) here ∙ take-append_seam w (k ∷ r))) (wants_says k steps ends m s w ([], (a, subst (λ x. steps s x a) (sym (append-nil w)) st)))
begins_by k steps ends m s a w r (suc n) i st h e =
    let here : i ≡ length w + (n + 1) = omega arith in
    subst (HasCompletion (SaysText k steps ends s)) (sym (ap (λ j. take j (w ++ k ∷ r)) here ∙ take_past w k n r)) (says_prefix k steps ends m s a w (take n r) st (h.begins n (omega arith)))

-- the piece leads on, and more follows
pub counts_more : {S V : Type 0} (k : ℕ) (steps : S → List ℕ → S → Type 0) (ends : S → V → Type 0) → IsMachine k steps ends → (s a : S) (w r : List ℕ) (n : ℕ) → steps s w a → CountsPrefixes (SaysText k steps ends a) r n → CountsPrefixes (SaysText k steps ends s) (w ++ k ∷ r) (length w + 1 + n)
counts_more k steps ends m s a w r n st h = record {
  within = omega (arith, h.within, length-append w (k ∷ r));
  begins = λ i e. begins_by k steps ends m s a w r n i st h e;
  stops = λ le more. h.stops (omega (arith, length-append w (k ∷ r))) (prefix_says k steps ends m s a w (take n r) st (subst (HasCompletion (SaysText k steps ends s)) (ap (λ j. take j (w ++ k ∷ r)) (three (length w) n) ∙ take_past w k n r) more));
}

-- the piece leads to a place where the text may not end
pub counts_end : {S V : Type 0} (k : ℕ) (steps : S → List ℕ → S → Type 0) (ends : S → V → Type 0) → IsMachine k steps ends → (s a : S) (w : List ℕ) → steps s w a → CountsPrefixes (SaysText k steps ends s) w (length w + 1)
counts_end k steps ends m s a w st = record {
  within = omega arith;
  begins = λ i e. let here : i ≡ length w = omega arith in subst (HasCompletion (SaysText k steps ends s)) (sym (ap (λ j. take j w) here ∙ take-length w)) (wants_says k steps ends m s w ([], (a, subst (λ x. steps s x a) (sym (append-nil w)) st)));
  stops = λ le more. absurd (omega arith);
}
