-- Lemmas on bytes that are cut where a line ends.
use Rattle.std.proofs.Common.{◌≡◌, ◌≢◌, ◌<◌, ◌⊎◌, inl, inr, ℕ, true, List, [], ◌∷◌, ◌++◌, length, length-append, refl, ap, sym, ◌∙◌, append_assoc, append-nil, arith}
use Rattle.std.proofs.lemmas.Bool.Decides.{nat_tests}
use Rattle.cm_io.specs.Lines.{lines}
use Rattle.cm_io.specs.LinesInside.{IsFirstLine, IsUnbroken, Reader}
use Rattle.cm_io.proofs.lemmas.Line.{lines-first, lines-last, lines-nil, unbroken-tail, unbroken-head}
use Rattle.cm_reply.specs.Lists.{TextBytes}
use Rattle.cm_session.specs.Links.{BeginsWithBytes, in_prefix_of_some, whole_lines}

-- ---- the lines that 0x0A ends

-- No bytes have no whole lines.
whole-nil : whole_lines [] ≡ []
unfolding whole_lines
whole-nil = refl

-- A byte that is no line feed is put before the first whole line, if there is one.
whole-in_prefix : (byte : ℕ) (bytes : TextBytes) → byte ≢ 10 → whole_lines (byte ∷ bytes) ≡ in_prefix_of_some byte (whole_lines bytes)
unfolding whole_lines
whole-in_prefix byte bytes h = grind (arith, nat_tests)

-- A line feed in front is an empty whole line, and the others follow.
whole-ended : (bytes : TextBytes) → whole_lines (10 ∷ bytes) ≡ [] ∷ whole_lines bytes
unfolding whole_lines
whole-ended bytes = refl

-- Bytes without a line feed have no whole line.
whole-unbroken : (bytes : TextBytes) → IsUnbroken bytes → whole_lines bytes ≡ []
whole-unbroken [] h = whole-nil
whole-unbroken (byte ∷ bytes) h =
    whole-in_prefix byte bytes (unbroken-head byte bytes h) ∙ ap (in_prefix_of_some byte) (whole-unbroken bytes (unbroken-tail byte bytes h))

-- Bytes without a line feed, one behind them, and a rest are a whole line and those of the rest.
whole-first : (line rest : TextBytes) → IsUnbroken line → whole_lines (line ++ 10 ∷ rest) ≡ line ∷ whole_lines rest
whole-first [] rest h = whole-ended rest
whole-first (byte ∷ line) rest h =
    whole-in_prefix byte (line ++ 10 ∷ rest) (unbroken-head byte line h) ∙ ap (in_prefix_of_some byte) (whole-first line rest (unbroken-tail byte line h))

-- ---- where bytes are cut

-- `gone` ends where a line ends, and has these lines
pub record AtLine (gone : TextBytes) (done : List TextBytes) : Type 0 where
  pub all : (f : TextBytes) → lines (gone ++ f) ≡ done ++ lines f
  pub whole : (f : TextBytes) → whole_lines (gone ++ f) ≡ done ++ whole_lines f

-- `gone` goes up to the source's end, and has these lines, of which the last isn't ended
pub record AtEnd (gone : TextBytes) (done : List TextBytes) (reader : Reader) : Type 0 where
  pub all : lines gone ≡ done
  pub whole : BeginsWithBytes done (whole_lines gone)
  pub none : reader.held ≡ []
  pub over : reader.over ≡ true

-- the lines `done` were taken of the bytes, and the reader holds the others
pub record Cut (bytes : TextBytes) (reader : Reader) (done : List TextBytes) : Type 0 where
  pub gone : TextBytes
  pub parted : bytes ≡ gone ++ reader.held
  pub at : AtLine gone done ⊎ AtEnd gone done reader

-- Of no bytes no line was cut, where the reader holds nothing.
pub cut-none : (reader : Reader) → reader.held ≡ [] → Cut [] reader []
cut-none reader e = record {
  gone = [];
  parted = sym e;
  at = inl (record { all = λ f. refl; whole = λ f. refl });
}

-- Bytes that end where a line ends do so with a line more.
at-line : (gone line : TextBytes) (done : List TextBytes) → AtLine gone done → IsUnbroken line → AtLine (gone ++ (line ++ 10 ∷ [])) (done ++ line ∷ [])
at-line gone line done at unbroken =
    let shifted : (f : TextBytes) → (gone ++ (line ++ 10 ∷ [])) ++ f ≡ gone ++ (line ++ 10 ∷ f) =
    λ f. append_assoc gone (line ++ 10 ∷ []) f ∙ ap (λ (l : TextBytes). gone ++ l) (append_assoc line (10 ∷ []) f) in
    record {
      all = λ f. ap lines (shifted f) ∙ at.all (line ++ 10 ∷ f) ∙ ap (λ (ls : List TextBytes). done ++ ls) (lines-first line f unbroken) ∙ sym (append_assoc done (line ∷ []) (lines f));
      whole = λ f. ap whole_lines (shifted f) ∙ at.whole (line ++ 10 ∷ f) ∙ ap (λ (ls : List TextBytes). done ++ ls) (whole-first line f unbroken) ∙ sym (append_assoc done (line ∷ []) (whole_lines f));
    }

-- Bytes that end where a line ends go up to the source's end with a last line, not ended.
at-end : (gone line : TextBytes) (done : List TextBytes) (reader : Reader) → AtLine gone done → IsUnbroken line → 0 < length line → reader.held ≡ [] → reader.over ≡ true
    → AtEnd (gone ++ line) (done ++ line ∷ []) reader
at-end gone line done reader at unbroken some none over = record {
  all = at.all line ∙ ap (λ (ls : List TextBytes). done ++ ls) (lines-last line unbroken some);
  whole =
      (line ∷ [], ap (λ (ls : List TextBytes). ls ++ line ∷ []) (sym (append-nil done) ∙ sym (at.whole line ∙ ap (λ (ls : List TextBytes). done ++ ls) (whole-unbroken line unbroken))));
  none = none;
  over = over;
}

-- Bytes and what was given behind them are what is gone, and then what is held with what was given.
parted-more : (bytes given held gone : TextBytes) → bytes ≡ gone ++ held → bytes ++ given ≡ gone ++ (held ++ given)
parted-more bytes given held gone e = ap (λ (l : TextBytes). l ++ given) e ∙ append_assoc gone held given

-- Where nothing is held and nothing was given, nothing is there to take.
none-taken : (given held : TextBytes) → held ≡ [] → given ≡ [] → held ++ given ≡ []
none-taken given held e e' = ap (λ (l : TextBytes). l ++ given) e ∙ e'

-- Where nothing was taken, no line is the first one.
no-line : (taken : TextBytes) (reader : Reader) (line : TextBytes) → taken ≡ [] → IsFirstLine taken reader line → ⊥
no-line taken reader line e (unbroken, inl h) = absurd (omega (arith, ap length (sym h ∙ e), length-append line (10 ∷ reader.held)))
no-line taken reader line e (unbroken, inr (h, some, none, over)) = absurd (omega (arith, some, ap length (sym h ∙ e)))

-- The first line of what a reader held and what was given to it is cut behind the lines before it.
pub cut-more : (bytes given : TextBytes) (before after : Reader) (done : List TextBytes) (line : TextBytes) → Cut bytes before done → (before.over ≡ true → given ≡ [])
    → IsFirstLine (before.held ++ given) after line → Cut (bytes ++ given) after (done ++ line ∷ [])
cut-more bytes given before after done line cut still (unbroken, how) =
    let whole = parted-more bytes given before.held cut.gone cut.parted in
    elim cut.at [
      | inl at ↦ elim how [
        | inl e ↦ record {
          gone = cut.gone ++ (line ++ 10 ∷ []);
          parted = whole ∙ ap (λ (l : TextBytes). cut.gone ++ l) (e ∙ sym (append_assoc line (10 ∷ []) after.held)) ∙ sym (append_assoc cut.gone (line ++ 10 ∷ []) after.held);
          at = inl (at-line cut.gone line done at unbroken);
        }
        | inr (e, some, none, over) ↦ record {
          gone = cut.gone ++ line;
          parted = whole ∙ ap (λ (l : TextBytes). cut.gone ++ l) e ∙ sym (append-nil (cut.gone ++ line)) ∙ ap (λ (l : TextBytes). (cut.gone ++ line) ++ l) (sym none);
          at = inr (at-end cut.gone line done after at unbroken some none over);
        }
      ]
      | inr end ↦ absurd (no-line (before.held ++ given) after line (none-taken given before.held end.none (still end.over)) (unbroken, how))
    ]

-- the lines that were taken come first of all
pub cut-begins : (bytes given : TextBytes) (before : Reader) (done : List TextBytes) → Cut bytes before done → (before.over ≡ true → given ≡ []) → BeginsWithBytes (lines (bytes ++ given)) done
cut-begins bytes given before done cut still =
    let whole = parted-more bytes given before.held cut.gone cut.parted in
    elim cut.at [
      | inl at ↦ (lines (before.held ++ given), ap lines whole ∙ at.all (before.held ++ given))
      | inr end ↦ ([], ap lines (whole ∙ ap (λ (l : TextBytes). cut.gone ++ l) (none-taken given before.held end.none (still end.over)) ∙ append-nil cut.gone) ∙ end.all ∙ sym (append-nil done))
    ]

-- Where nothing was read at the end and nothing is held, the lines that were taken are all.
pub cut-end : (bytes given : TextBytes) (before : Reader) (done : List TextBytes) → Cut bytes before done → before.held ++ given ≡ [] → lines (bytes ++ given) ≡ done
cut-end bytes given before done cut none =
    let whole : bytes ++ given ≡ cut.gone = parted-more bytes given before.held cut.gone cut.parted ∙ ap (λ (l : TextBytes). cut.gone ++ l) none ∙ append-nil cut.gone in
    elim cut.at [
      | inl at ↦ ap lines (whole ∙ sym (append-nil cut.gone)) ∙ at.all [] ∙ ap (λ (ls : List TextBytes). done ++ ls) lines-nil ∙ append-nil done
      | inr end ↦ ap lines whole ∙ end.all
    ]

-- the lines that are whole were taken, where none of them is left
pub cut-fault : (bytes given : TextBytes) (before : Reader) (done : List TextBytes) → Cut bytes before done → (before.over ≡ true → given ≡ []) → IsUnbroken (before.held ++ given)
    → BeginsWithBytes done (whole_lines (bytes ++ given))
cut-fault bytes given before done cut still unbroken =
    let whole = parted-more bytes given before.held cut.gone cut.parted in
    elim cut.at [
      | inl at ↦
          ([], sym (append-nil (whole_lines (bytes ++ given)) ∙ ap whole_lines whole ∙ at.whole (before.held ++ given) ∙ ap (λ (ls : List TextBytes). done ++ ls) (whole-unbroken (before.held ++ given) unbroken) ∙ append-nil done))
      | inr end ↦
          (end.whole.0, end.whole.1 ∙ ap (λ (l : TextBytes). whole_lines l ++ end.whole.0) (sym (whole ∙ ap (λ (l : TextBytes). cut.gone ++ l) (none-taken given before.held end.none (still end.over)) ∙ append-nil cut.gone)))
    ]

-- the lines that were taken are whole ones, or the last of them isn't and the source came to its end
pub cut-ended : (bytes given : TextBytes) (before : Reader) (done : List TextBytes) → Cut bytes before done → BeginsWithBytes (whole_lines (bytes ++ given)) done ⊎ (before.over ≡ true)
cut-ended bytes given before done cut =
    elim cut.at [
      | inl at ↦ inl (whole_lines (before.held ++ given), ap whole_lines (parted-more bytes given before.held cut.gone cut.parted) ∙ at.whole (before.held ++ given))
      | inr end ↦ inr end.over
    ]

-- A line feed ended each line that was cut so far, or the reader is over.
pub cut-ended-so-far : (bytes : TextBytes) (reader : Reader) (done : List TextBytes) → Cut bytes reader done → BeginsWithBytes (whole_lines bytes) done ⊎ (reader.over ≡ true)
cut-ended-so-far bytes reader done cut =
    elim cut.at [
      | inl at ↦ inl (whole_lines reader.held, ap whole_lines cut.parted ∙ at.whole reader.held)
      | inr end ↦ inr end.over
    ]

-- With what is read, one line more is cut off, which stands behind those that are done.
pub cut-next : (bytes given : TextBytes) (before after : Reader) (done : List TextBytes) (line : TextBytes) → Cut bytes before done → (before.over ≡ true → given ≡ [])
    → IsFirstLine (before.held ++ given) after line → (rest : List TextBytes) × (lines (bytes ++ given) ≡ done ++ line ∷ rest)
cut-next bytes given before after done line cut still first =
    let more = cut-more bytes given before after done line cut still first in
    let begins = cut-begins (bytes ++ given) [] after (done ++ line ∷ []) more (λ _. refl) in
    (begins.0, ap lines (sym (append-nil (bytes ++ given))) ∙ begins.1 ∙ append_assoc done (line ∷ []) begins.0)
