-- Words that are read back, and where a text is cut.
use Rattle.std.proofs.Common.{◌≡◌, ℕ, ◌+◌, ◌<◌, ◌^◌, List, [], ◌∷◌, ◌++◌, ◌==◌, true≢false, All, length, get_or, decimal, refl, sym, ap, subst, ◌∙◌, arith, length-append, Bor, Option, Some, None}
use Rattle.std.specs.List.{slice_split}
use Rattle.std.proofs.lemmas.List.Splits.{slice_split_at}
use Rattle.std.proofs.Math.Seq.{get_or-append_seam}
use Rattle.cm_facts.proofs.Numbers.{eq_self}
use Rattle.cm_command.specs.Numbers.{IsNumberText, value_behind}
use Rattle.cm_command.specs.NumbersInside.{IsU64Text}
use Rattle.cm_command.specs.Counts.{IsWordFault, IsSureFault}
use Rattle.cm_command.specs.declared.tokens.WordFault.{WordFault}
use Rattle.cm_command.specs.declared.tokens.WordFault.TheVariants as word_fault
use Rattle.cm_command.proofs.lemmas.bytes.Pieces.{Lacks}
use Rattle.cm_command.proofs.lemmas.bytes.Cuts.{IsCut, piece_alone, piece_and_rest}
use Rattle.cm_command.proofs.lemmas.scripts.Lane.{decimal_lacks}
use Rattle.cm_command.proofs.lemmas.written.WritesLine.{decimal_is}
use Rattle.cm_reply.specs.Reading.{fault_of}
use Rattle.cm_reply.specs.declared.entry_words.EntryFault.{EntryFault}
use Rattle.cm_reply.specs.declared.entry_words.EntryFault.TheVariants.{Memory}

-- ---- numbers

-- a number that a text is, is the one that it was written for
pub number_is : (t : List ℕ) (n m : ℕ) → m < 2 ^ 64 → t ≡ decimal m → IsNumberText t n → n ≡ m
number_is t n m small e h = sym h.1 ∙ ap (value_behind 0) e ∙ (decimal_is m small).1

-- A text that is a number of 64 bits in decimal is the text of such a number.
is_number : (t : List ℕ) (m : ℕ) → m < 2 ^ 64 → t ≡ decimal m → IsU64Text t
is_number t m small e = (m, subst (λ x. IsNumberText x m) (sym e) (decimal_is m small), small)

-- a number's text has no fault
pub number_faults : (t : List ℕ) (m : ℕ) (f : WordFault) (g : EntryFault) → m < 2 ^ 64 → t ≡ decimal m → IsSureFault IsU64Text t f → g ≡ fault_of f → g ≡ Memory
number_faults t m (word_fault.Bad n) g small e h is = absurd (h.0 (is_number t m small e))
number_faults t m word_fault.Memory g small e h is = is

-- a word of the kind has no other fault than lack of memory
pub word_faults : (P : List ℕ → Type 0) (t : List ℕ) (f : WordFault) (g : EntryFault) → P t → IsWordFault P t f → g ≡ fault_of f → g ≡ Memory
word_faults P t (word_fault.Bad n) g is h e = absurd (h.0 is)
word_faults P t word_fault.Memory g is h e = e

-- ---- cuts

-- A text is cut in one way at its first separator.
pub cut_once : (k : ℕ) (a b x y : List ℕ) → Lacks k a → Lacks k b → a ++ k ∷ x ≡ b ++ k ∷ y → (a ≡ b) × (x ≡ y)
cut_once k a b x y la lb e =
    let l : slice_split (λ c. c == k) (a ++ k ∷ x) ≡ a ∷ slice_split (λ c. c == k) x = slice_split_at (λ c. c == k) a k x la (eq_self k) in
    let r : slice_split (λ c. c == k) (b ++ k ∷ y) ≡ b ∷ slice_split (λ c. c == k) y = slice_split_at (λ c. c == k) b k y lb (eq_self k) in
    let both : a ∷ slice_split (λ c. c == k) x ≡ b ∷ slice_split (λ c. c == k) y = sym l ∙ ap (slice_split (λ c. c == k)) e ∙ r in
    let first : a ≡ b = cc both in
    (first, cut_same k a x y (e ∙ ap (λ z. z ++ k ∷ y) (sym first)))
  where
    cut_same : (k : ℕ) (a x y : List ℕ) → a ++ k ∷ x ≡ a ++ k ∷ y → x ≡ y
    cut_same k [] x y e = cc e
    cut_same k (c ∷ cs) x y e = cut_same k cs x y (cc e)

-- a text without the separator isn't cut
pub not_cut : (k : ℕ) (t b x : List ℕ) → Lacks k t → t ≡ b ++ k ∷ x → ⊥
not_cut k t b x clean e =
    let lt : length b < length t = omega (arith, ap length e, length-append b (k ∷ x)) in
    let at : get_or t (length b) 0 ≡ k = ap (λ z. get_or z (length b) 0) e ∙ get_or-append_seam b k x 0 in
    true≢false (sym (ap (λ c. c == k) at ∙ eq_self k) ∙ clean (length b) 0 lt)

-- the digits of a number have no space
pub digits_lack : (n : ℕ) → n < 2 ^ 64 → Lacks 32 (decimal n)
digits_lack n small = decimal_lacks (decimal n) (decimal_is n small).0

-- a word without a space that stands before the first one, and what is behind it
pub word_is : (t w v more x : List ℕ) → Lacks 32 v → Lacks 32 w → t ≡ w ++ 32 ∷ more → t ≡ v ++ 32 ∷ x → (w ≡ v) × (more ≡ x)
word_is t w v more x other clean whole e = cut_once 32 w v more x clean other (sym whole ∙ e)

-- A text that was cut at its first space is parted into the word before it and the rest, and in no other way.
pub word_cut : (o : Option (Bor (List ℕ))) (r : Bor (List ℕ)) (t w v x : List ℕ) → o ≡ Some r → IsCut 32 t w o → Lacks 32 w → Lacks 32 v → t ≡ v ++ 32 ∷ x → (w ≡ v) × (r.now ≡ x)
word_cut o r t w v x is cut clean other e = word_is t w v r.now x other clean (piece_and_rest 32 o r t w is cut) e

-- A text that is cut into one word alone, in which there is no space, has no space.
pub word_uncut : (o : Option (Bor (List ℕ))) (t w v x : List ℕ) → o ≡ None → IsCut 32 t w o → Lacks 32 w → t ≡ v ++ 32 ∷ x → ⊥
word_uncut o t w v x is cut clean e = not_cut 32 t v x (subst (Lacks 32) (sym (piece_alone 32 o t w is cut)) clean) e
