-- Each text has tokens or a fault, and what is computed is what stands there.
use Rattle.std.proofs.Common.{◌≡◌, ℕ, zero, suc, ◌+◌, ◌<◌, ◌≤◌, List, [], ◌∷◌, ◌++◌, length, true, Result, Ok, Err, refl, sym, ap, ◌∙◌, arith, rules, inl, inr, ◌⊎◌, subst}
use Rattle.std.proofs.lemmas.List.{append_assoc, length-append}
use Rattle.cm_text.specs.Token.{Token, mark, quoted, word, Piece, token, space, line_comment, block_comment, piece_bytes, tokens_of}
use Rattle.cm_text.specs.TokenInside.{bytes_of}
use Rattle.cm_text.specs.Split.{is_piece, may_follow, SplitsInto, AreTokensOf, IsTextFault}
use Rattle.cm_text.specs.Pieces.{First, stray, unclosed, piece, first_piece, tokens}
use Rattle.cm_text.specs.Facts.{TextsAreCovered, FaultsAreUnique, TokensExcludeFaults}
use Rattle.cm_text.specs.declared.fault.TextFault.{TextFault}
use Rattle.cm_text.specs.declared.fault.TextFault.TheVariants.{BadToken, Unclosed, Memory as OutOfMemory}
use Rattle.cm_text.proofs.lemmas.pieces.Piece.{are_computed}
use Rattle.cm_text.proofs.lemmas.pieces.Fault.{faults_are_computed}
use Rattle.cm_text.proofs.lemmas.pieces.Sound.{Stands, first_stands, first_stray, first_unclosed}

-- a piece has bytes
pub piece_is_long : (p : Piece) → is_piece p ≡ true → 0 < length (piece_bytes p)
piece_is_long (token (mark b)) h = omega arith
piece_is_long (token (quoted q cs)) h = omega arith
piece_is_long (token (word [])) h = absurd (grind (arith, rules))
piece_is_long (token (word (b ∷ bs))) h = omega arith
piece_is_long (space b) h = omega arith
piece_is_long (line_comment bs) h = omega arith
piece_is_long (block_comment bs) h = omega arith

-- what a text's rest begins with, the text begins with behind its first piece
pub begins_more : (p : Piece) (text rest : List ℕ) (ps : List Piece) (s : Stands p text) → SplitsInto s.rest ps rest → SplitsInto text (p ∷ ps) rest
begins_more p text rest ps s b = record {
  bytes = append_assoc (piece_bytes p) (bytes_of ps) rest ∙ ap (λ xs. piece_bytes p ++ xs) b.bytes ∙ sym s.bytes;
  pieces = rw s.piece (rw (ap (may_follow p) b.bytes ∙ s.follows) b.pieces);
}

-- The text has tokens, or a fault.
abbrev pub Covered : List ℕ → Type 0
Covered text = ((ts : List Token) × AreTokensOf text ts) ⊎ ((e : TextFault) × IsTextFault text e)

-- With a piece in front the bytes of pieces are longer by those of that piece.
longer : (p : Piece) (ps : List Piece) (at : ℕ) → at ≡ length (bytes_of ps) → length (piece_bytes p) + at ≡ length (bytes_of (p ∷ ps))
longer p ps at h = ap (λ n. length (piece_bytes p) + n) h ∙ sym (length-append (piece_bytes p) (bytes_of ps))

-- Where what is left behind a first piece has a fault, the text has one.
fault_more : (p : Piece) (text : List ℕ) (s : Stands p text) (e : TextFault) → IsTextFault s.rest e → (f : TextFault) × IsTextFault text f
fault_more p text s (BadToken at) h = (BadToken (length (piece_bytes p) + at), (p ∷ h.0, h.1, begins_more p text h.1 h.0 s h.2, longer p h.0 at h.3, h.4))
fault_more p text s (Unclosed at) h = (Unclosed (length (piece_bytes p) + at), (p ∷ h.0, h.1, begins_more p text h.1 h.0 s h.2, longer p h.0 at h.3, h.4))
fault_more p text s OutOfMemory h = absurd h

-- Where what is left behind a first piece has tokens or a fault, the text has them.
covered_more : (p : Piece) (text : List ℕ) (s : Stands p text) → Covered s.rest → Covered text
covered_more p text s (inl t) = inl (tokens_of (p ∷ t.1.ps), record { ps = p ∷ t.1.ps; whole = begins_more p text [] t.1.ps s t.1.whole; tokens = refl })
covered_more p text s (inr f) = inr (fault_more p text s f.0 f.1)

-- A text has tokens or a fault where every rest that is short enough has.
covered_by_first : (b : ℕ) (bs : List ℕ) (f : First) → first_piece b bs ≡ f → ((rest : List ℕ) → length rest ≤ length bs → Covered rest) → Covered (b ∷ bs)
covered_by_first b bs stray e more = inr (BadToken 0, ([], b ∷ bs, record { bytes = refl; pieces = refl }, refl, first_stray b bs e))
covered_by_first b bs unclosed e more = inr (Unclosed 0, ([], b ∷ bs, record { bytes = refl; pieces = refl }, refl, first_unclosed b bs e))
covered_by_first b bs (piece p) e more =
    let s = first_stands b bs p e in
    let size : length (b ∷ bs) ≡ length (piece_bytes p) + length s.rest = ap length s.bytes ∙ length-append (piece_bytes p) s.rest in
    let long : 0 < length (piece_bytes p) = piece_is_long p s.piece in
    let shorter : length s.rest ≤ length bs = omega arith in
    covered_more p (b ∷ bs) s (more s.rest shorter)

-- A text of at most so many bytes has tokens or a fault.
covered_within : (n : ℕ) (text : List ℕ) → length text ≤ n → Covered text
covered_within n [] h = inl ([], record { ps = []; whole = record { bytes = refl; pieces = refl }; tokens = refl })
covered_within zero (b ∷ bs) h = absurd (omega arith)
covered_within (suc n) (b ∷ bs) h = covered_by_first b bs (first_piece b bs) refl (λ rest k. covered_within n rest (omega arith))

-- Each text has tokens or a fault.
pub are_covered : TextsAreCovered
are_covered text = covered_within (length text) text (omega arith)

-- ---- what is computed stands there

-- Tokens as a result of reading.
abbrev ok : List Token → Result (List Token) TextFault
ok ts = Ok ts

-- A fault as a result of reading.
abbrev err : TextFault → Result (List Token) TextFault
err e = Err e

-- The tokens that are computed for a text that has tokens or a fault are its tokens.
tokens_by_cover : (text : List ℕ) (ts : List Token) → Covered text → tokens text ≡ ok ts → AreTokensOf text ts
tokens_by_cover text ts (inl t) h =
    let same : t.0 ≡ ts = ap (λ r. elim r as (λ _. List Token) [ Ok us ↦ us | Err e ↦ ts ]) (sym (are_computed text t.0 t.1) ∙ h) in
    subst (λ us. AreTokensOf text us) same t.1
tokens_by_cover text ts (inr f) h = absurd (let e = sym (faults_are_computed text f.0 f.1) ∙ h in grind (arith, rules))

-- The tokens that are computed of a text are those that it has by the grammar.
pub computed_tokens : (text : List ℕ) (ts : List Token) → tokens text ≡ ok ts → AreTokensOf text ts
computed_tokens text ts h = tokens_by_cover text ts (are_covered text) h

-- The fault that is computed for a text that has tokens or a fault is its fault.
fault_by_cover : (text : List ℕ) (e : TextFault) → Covered text → tokens text ≡ err e → IsTextFault text e
fault_by_cover text e (inl t) h = absurd (let g = sym (are_computed text t.0 t.1) ∙ h in grind (arith, rules))
fault_by_cover text e (inr f) h =
    let same : f.0 ≡ e = ap (λ r. elim r as (λ _. TextFault) [ Ok us ↦ e | Err g ↦ g ]) (sym (faults_are_computed text f.0 f.1) ∙ h) in
    subst (λ g. IsTextFault text g) same f.1

-- The fault that is computed of a text is the one that it has by the grammar.
pub computed_fault : (text : List ℕ) (e : TextFault) → tokens text ≡ err e → IsTextFault text e
computed_fault text e h = fault_by_cover text e (are_covered text) h

-- ---- one fault at most

-- A text has one fault at most.
pub faults_are_unique : FaultsAreUnique
faults_are_unique text e f h g = ap (λ r. elim r as (λ _. TextFault) [ Ok us ↦ e | Err x ↦ x ]) (sym (faults_are_computed text e h) ∙ faults_are_computed text f g)

-- A text with tokens has no fault.
pub tokens_exclude_faults : TokensExcludeFaults
tokens_exclude_faults text ts e h g = let both = sym (are_computed text ts h) ∙ faults_are_computed text e g in grind (arith, rules)
