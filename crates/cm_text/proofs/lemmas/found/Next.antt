-- What stands behind the first piece of a text.
use Rattle.std.proofs.Common.{◌≡◌, ℕ, ◌-◌, List, [], ◌∷◌, length, true, false, not, ◌==◌, Option, Some, None, refl, sym, ap, ◌∙◌, subst, arith, rules, drop, take, take_while}
use Rattle.std.proofs.Transfers.{drop-appended}
use Rattle.std.specs.Str.{IsUtf8, IsCharBoundary}
use Rattle.std.specs.List.{list_all}
use Rattle.std.proofs.lemmas.Bool.{and_parts}
use Rattle.std.proofs.lemmas.List.{take_rest, take-append-le, take_all}
use Rattle.cm_text.specs.Bytes.{begins_with, begins_key, continues_key, is_word_byte}
use Rattle.cm_text.specs.Token.{Token, word, Piece, token, piece_bytes}
use Rattle.cm_text.specs.Split.{SplitsInto}
use Rattle.cm_text.specs.Json.{is_bare_key}
use Rattle.cm_text.specs.Scan.{outline, first_of_text}
use Rattle.cm_text.specs.Next.{BehindBlank, BehindKey}
use Rattle.cm_text.specs.declared.token.Token.{Token as CodeToken}
use Rattle.cm_text.proofs.lemmas.pieces.Piece.{run_more}
use Rattle.cm_text.proofs.lemmas.pieces.Sound.{Stands, runs, some_bytes_there}
use Rattle.cm_text.proofs.lemmas.pieces.Cut.{stands_cut}
use Rattle.cm_text.proofs.lemmas.pieces.Cover.{begins_more}
use Rattle.cm_text.proofs.lemmas.found.Outline.{found, is_found}
use Rattle.cm_text.proofs.lemmas.found.Loop.{some_token_of}

-- a piece that stands at a text's beginning, and the rest
splits_there : (p : Piece) (text rest : List ℕ) (n : ℕ) → Stands p text → length (piece_bytes p) ≡ n → rest ≡ drop n text
    → SplitsInto text (p ∷ []) rest
splits_there p text rest n s size cut =
    let same : s.rest ≡ rest =
    sym (cut ∙ ap (λ k. drop k text) (sym size) ∙ drop-appended (piece_bytes p) text s.rest s.bytes) in
    subst (λ r. SplitsInto text (p ∷ []) r) same (begins_more p text s.rest [] s (record { bytes = refl; pieces = refl }))

-- Where the code has no token, none is stood for.
pub no_token : (o : Option CodeToken) → o ≡ None → some_token_of o ≡ None
no_token o e = ap some_token_of e

-- Where a piece is found that is no token, the text begins with a space or a comment.
pub blank_passed : (text rest : List ℕ) (t : Option Token) (n : ℕ) → rest ≡ drop n text → t ≡ None
    → found t n ≡ outline 0 (first_of_text text) → BehindBlank text rest
blank_passed text rest t n cut none h =
    let f = is_found text t 0 n h in
    record { blank = f.p; no_token = f.token ∙ none; splits = splits_there f.p text rest n f.stands f.size cut }

-- ---- keys

-- Bytes that all continue a key are all bytes of words.
word_bytes : (k : List ℕ) → list_all continues_key k ≡ true → list_all is_word_byte k ≡ true
word_bytes [] h = refl
word_bytes (b ∷ bs) h =
    let both = and_parts (continues_key b) (list_all continues_key bs) h in
    rw both.0 (word_bytes bs both.1)

-- A text that begins a key has a run of key bytes, which isn't empty and begins one.
key_begins : (text : List ℕ) → begins_with begins_key text ≡ true
    → (begins_with begins_key (take_while continues_key text) ≡ true)
    × (not (length (take_while continues_key text) == 0) ≡ true)
key_begins [] h = absurd (grind (arith, rules))
key_begins (b ∷ bs) h =
    let first : begins_key b ≡ true = h in
    let more = run_more continues_key b bs (rw first refl) in
    (ap (begins_with begins_key) more ∙ h, ap (λ l. not (length l == 0)) more ∙ some_bytes_there _)

-- the longest run of a key's bytes, where no byte of a word follows it
pub record KeyRun (text : List ℕ) (n : ℕ) : Type 0 where
  pub stands : Stands (token (word (take n text))) text
  pub bare : is_bare_key (take n text) ≡ true
  pub size : length (take n text) ≡ n

-- The bytes of a key that a text begins with are its longest run, where no byte of a word follows.
pub key_run : (bytes text behind : List ℕ) (n : ℕ) → bytes ≡ text → begins_with begins_key bytes ≡ true
    → n ≡ length (take_while continues_key bytes) → behind ≡ take (length bytes - n) (drop n bytes)
    → begins_with is_word_byte behind ≡ false → KeyRun text n
key_run bytes text behind n v first size there ends =
    let key = take_while continues_key bytes in
    let r = runs continues_key bytes in
    let k = key_begins bytes first in
    let cut : drop n bytes ≡ r.rest = ap (λ i. drop i bytes) size ∙ drop-appended key bytes r.rest r.bytes in
    let taken : take n text ≡ key =
    ap (take n) (sym v) ∙ ap (λ i. take i bytes) size ∙ ap (take (length key)) r.bytes
    ∙ take-append-le (length key) key r.rest (omega arith) ∙ take_all (length key) key (omega arith) in
    let closed : begins_with is_word_byte r.rest ≡ false =
    ap (begins_with is_word_byte) (sym (there ∙ take_rest bytes n ∙ cut)) ∙ ends in
    let stands : Stands (token (word key)) text = record {
      rest = r.rest;
      bytes = sym v ∙ r.bytes;
      piece = rw (k.1, word_bytes key r.passes) refl;
      follows = ap not closed;
    } in
    record {
      stands = subst (λ l. Stands (token (word l)) text) (sym taken) stands;
      bare = ap is_bare_key taken ∙ rw (k.0, r.passes) refl;
      size = ap length taken ∙ sym size;
    }

-- A text may be cut behind a key that it begins with.
pub key_cut : (text : List ℕ) (n : ℕ) → IsUtf8 text → KeyRun text n → IsCharBoundary text n
key_cut text n u r = subst (IsCharBoundary text) r.size (stands_cut (token (word (take n text))) text u r.stands)

-- A text that begins with the run of a key's bytes begins with that key, and the rest follows.
pub key_passed : (text key rest : List ℕ) (n : ℕ) → KeyRun text n → key ≡ take (n - 0) text → rest ≡ drop n text
    → BehindKey text key rest
key_passed text key rest n r is cut =
    let none : n - 0 ≡ n = omega arith in
    subst (λ k. BehindKey text k rest) (sym (is ∙ ap (λ i. take i text) none)) (record {
      bare = r.bare;
      splits = splits_there (token (word (take n text))) text rest n r.stands r.size cut;
    })
