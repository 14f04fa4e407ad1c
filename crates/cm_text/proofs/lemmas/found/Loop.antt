-- A step of the reader: the first piece of what is left, and the rest.
use Rattle.std.proofs.Common.{◌≡◌, ℕ, zero, suc, ◌+◌, ◌-◌, ◌<◌, ◌≤◌, List, [], ◌∷◌, length, Option, Some, None, Result, Ok, Err, refl, sym, ap, ◌∙◌, arith, rules, drop, subst, true, option_map}
use Rattle.std.proofs.lemmas.Option.{none-some}
use Rattle.std.specs.Str.{IsUtf8, IsCharBoundary}
use Rattle.std.proofs.lemmas.Str.{IsCharBoundary-from_rest}
use Rattle.std.proofs.lemmas.List.{length-append, drop-drop, length-drop, drop_all}
use Rattle.cm_text.specs.Token.{Token, Piece, token, space, line_comment, block_comment, piece_bytes, piece_token}
use Rattle.cm_text.specs.Split.{is_token, is_piece, IsTextFault}
use Rattle.cm_text.specs.Pieces.{First, stray, unclosed, piece, first_piece, piece_then, with_piece, pieces, tokens_result, tokens_from, tokens}
use Rattle.cm_text.specs.Json.{json_of, json_result, json_of_tokens}
use Rattle.cm_text.specs.Facts.{IsJsonOf}
use Rattle.cm_text.specs.Scan.{outline, first_of_text, token_of}
use Rattle.cm_text.specs.declared.token.Token.{Token as CodeToken}
use Rattle.cm_text.specs.Writing.{json_then, json_left}
use Rattle.cm_text.specs.declared.writer.JsonWriter.{JsonWriter}
use Rattle.cm_text.specs.declared.fault.TextFault.{TextFault}
use Rattle.cm_text.specs.declared.fault.TextFault.TheVariants.{BadToken, Unclosed}
use Rattle.cm_text.proofs.lemmas.found.Outline.{Found, found, fault, is_found, found_cut}
use Rattle.cm_text.proofs.lemmas.pieces.Cover.{piece_is_long, computed_tokens, computed_fault}

-- ---- passing over a piece

-- Nothing left makes no pieces, whatever was passed.
past_end : (passed at : ℕ) → pieces passed at [] ≡ Ok []
unfolding pieces
past_end zero at = refl
past_end (suc n) at = refl

-- The pieces behind so many passed bytes are those of what is left, so much further on.
skipped : (n at : ℕ) (bs : List ℕ) → pieces n at bs ≡ pieces 0 (at + n) (drop n bs)
unfolding pieces
skipped zero at bs = ap (λ k. pieces 0 k bs) (omega arith)
skipped (suc n) at [] = sym (past_end 0 (at + suc n))
skipped (suc n) at (b ∷ bs) = skipped n (at + 1) bs ∙ ap (λ k. pieces 0 k (drop n bs)) (omega arith)

-- A token, if there is one, before the tokens of a result.
with_token : Option Token → Result (List Token) TextFault → Result (List Token) TextFault
with_token None r = r
with_token (Some t) (Ok ts) = Ok (t ∷ ts)
with_token (Some t) (Err e) = Err e

-- The tokens of a piece before others are the piece's, if it has one, and those of the others.
token_of_piece : (p : Piece) (r : Result (List Piece) TextFault) → tokens_result (with_piece p r) ≡ with_token (piece_token p) (tokens_result r)
unfolding with_token
token_of_piece (token t) (Ok ps) = refl
token_of_piece (token t) (Err e) = refl
token_of_piece (space b) (Ok ps) = refl
token_of_piece (space b) (Err e) = refl
token_of_piece (line_comment bs) (Ok ps) = refl
token_of_piece (line_comment bs) (Err e) = refl
token_of_piece (block_comment bs) (Ok ps) = refl
token_of_piece (block_comment bs) (Err e) = refl

-- The pieces of a text are its first one and those of what is left behind its bytes.
behind_piece : (b : ℕ) (bs : List ℕ) (p : Piece) (at n : ℕ) → first_piece b bs ≡ piece p → suc n ≡ length (piece_bytes p) → pieces 0 at (b ∷ bs) ≡ with_piece p (pieces 0 (at + suc n) (drop (suc n) (b ∷ bs)))
unfolding pieces
behind_piece b bs p at n e size =
    let less : length (piece_bytes p) - 1 ≡ n = omega arith in
    let place : at + 1 + n ≡ at + suc n = omega arith in
    ap (λ f. piece_then at f (λ k. pieces k (at + 1) bs)) e
    ∙ ap (λ k. with_piece p (pieces k (at + 1) bs)) less
    ∙ ap (with_piece p) (skipped n (at + 1) bs ∙ ap (λ k. pieces 0 k (drop n bs)) place)

-- The tokens of a text with a found piece are its token and those behind so many of its bytes.
step_by_size : (b : ℕ) (bs : List ℕ) (t : Option Token) (at n : ℕ) → Found (b ∷ bs) t n → tokens_from at (b ∷ bs) ≡ with_token t (tokens_from (at + n) (drop n (b ∷ bs)))
step_by_size b bs t at zero f = absurd (let long = piece_is_long f.p f.stands.piece in let size = f.size in omega arith)
step_by_size b bs t at (suc n) f =
    ap tokens_result (behind_piece b bs f.p at n f.first (sym f.size))
    ∙ token_of_piece f.p (pieces 0 (at + suc n) (drop (suc n) (b ∷ bs)))
    ∙ ap (λ o. with_token o (tokens_from (at + suc n) (drop (suc n) (b ∷ bs)))) f.token

-- The tokens of what is left are those of the piece found and of what stands behind it.
found_step : (rest : List ℕ) (t : Option Token) (at n : ℕ) → Found rest t n → tokens_from at rest ≡ with_token t (tokens_from (at + n) (drop n rest))
found_step [] t at n f = absurd (let long = piece_is_long f.p f.stands.piece in let h = ap length f.stands.bytes ∙ length-append (piece_bytes f.p) f.stands.rest in omega arith)
found_step (b ∷ bs) t at n f = step_by_size b bs t at n f

-- A fault as the result for tokens.
abbrev failed : TextFault → Result (List Token) TextFault
failed e = Err e

-- The same fault of a piece is the same result for tokens.
same_fault : (e g : TextFault) → fault e ≡ fault g → failed e ≡ failed g
same_fault e g h = ap (λ r. elim r as (λ _. Result (List Token) TextFault) [ Ok x ↦ failed e | Err x ↦ failed x ]) h

-- Where the first piece is a fault, the tokens of the text are that fault.
fault_by_first : (b : ℕ) (bs : List ℕ) (at : ℕ) (e : TextFault) (f : First) → first_piece b bs ≡ f → fault e ≡ outline at f → tokens_from at (b ∷ bs) ≡ failed e
unfolding pieces
fault_by_first b bs at e stray h g = ap (λ f. tokens_result (piece_then at f (λ k. pieces k (at + 1) bs))) h ∙ sym (same_fault e (BadToken at) g)
fault_by_first b bs at e unclosed h g = ap (λ f. tokens_result (piece_then at f (λ k. pieces k (at + 1) bs))) h ∙ sym (same_fault e (Unclosed at) g)
fault_by_first b bs at e (piece p) h g = absurd (grind (arith, rules))

-- Where the first of a text that isn't empty is a fault, its tokens are that fault.
fault_step : (rest : List ℕ) (at : ℕ) (e : TextFault) → 0 < length rest → fault e ≡ outline at (first_of_text rest) → tokens_from at rest ≡ Err e
fault_step [] at e l h = absurd (omega arith)
fault_step (b ∷ bs) at e l h = fault_by_first b bs at e (first_piece b bs) refl h

-- ---- the loop

-- a token of a found piece is one
token_found : (text : List ℕ) (t : Token) (n : ℕ) (p : Piece) → is_piece p ≡ true → piece_token p ≡ Some t → is_token t ≡ true
token_found text t n (token u) h e = let same : u ≡ t = ap (λ o. elim o as (λ _. Token) [ None ↦ u | Some x ↦ x ]) e in ap is_token (sym same) ∙ h
token_found text t n (space b) h e = absurd (none-some t e)
token_found text t n (line_comment bs) h e = absurd (none-some t e)
token_found text t n (block_comment bs) h e = absurd (none-some t e)

-- The token of a piece that was found is a proper one.
pub is_token_found : (text : List ℕ) (t : Token) (at n : ℕ) → found (Some t) n ≡ outline at (first_of_text text) → is_token t ≡ true
is_token_found text t at n h = let f = is_found text (Some t) at n h in token_found text t n f.p f.stands.piece f.token

-- A piece that was found has bytes.
found_long : (text : List ℕ) (t : Option Token) (at n : ℕ) → found t n ≡ outline at (first_of_text text) → 0 < n
found_long text t at n h = let f = is_found text t at n h in let long = piece_is_long f.p f.stands.piece in let size = f.size in omega arith

-- the place behind a piece is in the text, further on, and the text may be cut there
pub next_cut : (text rest : List ℕ) (t : Option Token) (at n : ℕ) → rest ≡ drop at text → at ≤ length text → IsUtf8 rest → found t n ≡ outline at (first_of_text rest) → IsCharBoundary text (at + n)
next_cut text rest t at n v there u h = IsCharBoundary-from_rest text at n there (subst (λ ys. IsCharBoundary ys n) v (found_cut rest t at n u h))

-- The place behind a piece that was found is further on, and in the text.
pub next_place : (text rest : List ℕ) (t : Option Token) (at n : ℕ) → rest ≡ drop at text → at ≤ length text → IsUtf8 rest → found t n ≡ outline at (first_of_text rest) → (at < at + n) × (at + n ≤ length text)
next_place text rest t at n v there u h =
    let cut = next_cut text rest t at n v there u h in
    let long = found_long rest t at n h in
    (omega arith, cut.0)

-- The token that the code's token stands for, if there is one.
abbrev pub some_token_of : Option CodeToken → Option Token
some_token_of o = option_map token_of o

-- what a writer makes of the tokens that are left, with and without the next one
Takes : JsonWriter → JsonWriter → Option Token → Type 0
Takes w v t = (r : Result (List Token) TextFault) → json_left v r ≡ json_left w (with_token t r)

-- A writer that takes a token makes of the tokens left what the earlier made of it and them.
takes_token : (w v : JsonWriter) (t : Token) → ((ts : List Token) → json_then v ts ≡ json_then w (t ∷ ts)) → (r : Result (List Token) TextFault) → json_left v r ≡ json_left w (with_token (Some t) r)
unfolding with_token
takes_token w v t h (Ok ts) = ap (λ x. Ok x) (h ts)
takes_token w v t h (Err e) = refl

-- After the found piece what is left makes the same whole with the writer that took its token.
next_json : (w v : JsonWriter) (text rest : List ℕ) (whole : Result (List ℕ) TextFault) (t : Option Token) (at n : ℕ) → Takes w v t → rest ≡ drop at text → found t n ≡ outline at (first_of_text rest) → json_left w (tokens_from at (drop at text)) ≡ whole → json_left v (tokens_from (at + n) (drop (at + n) text)) ≡ whole
unfolding Takes
next_json w v text rest whole t at n takes bytes h before =
    let place : drop (at + n) text ≡ drop n (drop at text) = sym (drop-drop n at text) in
    takes (tokens_from (at + n) (drop (at + n) text))
    ∙ ap (λ ys. json_left w (with_token t (tokens_from (at + n) ys))) (place ∙ ap (drop n) (sym bytes))
    ∙ ap (json_left w) (sym (found_step rest t at n (is_found rest t at n h)))
    ∙ ap (λ ys. json_left w (tokens_from at ys)) bytes
    ∙ before

-- With the next token taken, the writer comes with the tokens that are left to the same result.
pub next_token : (w v : JsonWriter) (text rest : List ℕ) (whole : Result (List ℕ) TextFault) (o : Option CodeToken) (t : CodeToken) (at n : ℕ) → o ≡ Some t → ((ts : List Token) → json_then v ts ≡ json_then w (token_of t ∷ ts)) → rest ≡ drop at text → found (some_token_of o) n ≡ outline at (first_of_text rest) → json_left w (tokens_from at (drop at text)) ≡ whole → json_left v (tokens_from (at + n) (drop (at + n) text)) ≡ whole
unfolding Takes
next_token w v text rest whole o t at n is takes bytes h before =
    next_json w v text rest whole (Some (token_of t)) at n (takes_token w v (token_of t) takes) bytes (ap (λ x. found (some_token_of x) n) (sym is) ∙ h) before

-- Behind a piece that is no token, the writer comes with what is left to the same result.
pub next_gap : (w : JsonWriter) (text rest : List ℕ) (whole : Result (List ℕ) TextFault) (o : Option CodeToken) (at n : ℕ) → o ≡ None → rest ≡ drop at text → found (some_token_of o) n ≡ outline at (first_of_text rest) → json_left w (tokens_from at (drop at text)) ≡ whole → json_left w (tokens_from (at + n) (drop (at + n) text)) ≡ whole
unfolding Takes with_token
next_gap w text rest whole o at n is bytes h before =
    next_json w w text rest whole None at n (λ r. refl) bytes (ap (λ x. found (some_token_of x) n) (sym is) ∙ h) before

-- ---- the beginning and the ends

-- What a writer at its beginning makes of tokens is the JSON of the result.
begun : (w : JsonWriter) → ((ts : List Token) → json_then w ts ≡ json_of_tokens ts) → (r : Result (List Token) TextFault) → json_left w r ≡ json_result r
begun w h (Ok ts) = ap (λ x. Ok x) (h ts)
begun w h (Err e) = refl

-- At first a writer comes with all tokens of a text to the JSON of the text.
pub json_begins : (w : JsonWriter) (text : List ℕ) → ((ts : List Token) → json_then w ts ≡ json_of_tokens ts) → json_left w (tokens_from 0 text) ≡ json_of text
json_begins w text h = begun w h (tokens_from 0 text)

-- Where the first piece of what is left has a fault, the text's JSON comes to that fault.
pub json_fails : (w : JsonWriter) (text rest : List ℕ) (at : ℕ) (e : TextFault) → at < length text → rest ≡ drop at text → fault e ≡ outline at (first_of_text rest) → json_left w (tokens_from at (drop at text)) ≡ json_of text → json_of text ≡ Err e
json_fails w text rest at e there bytes h before =
    let some : 0 < length rest = omega (arith, ap length bytes, length-drop at text) in
    sym before ∙ ap (λ ys. json_left w (tokens_from at ys)) (sym bytes) ∙ ap (json_left w) (fault_step rest at e some h)

-- Where nothing is left of a text, its JSON is what the writer makes of no further tokens.
pub json_ends : (w : JsonWriter) (text json : List ℕ) (at : ℕ) → length text ≤ at → json ≡ json_then w [] → json_left w (tokens_from at (drop at text)) ≡ json_of text → json_of text ≡ Ok json
json_ends w text json at there written before =
    sym before ∙ ap (λ ys. json_left w (tokens_from at ys)) (drop_all at text there) ∙ ap (λ r. json_left w (tokens_result r)) (past_end 0 at) ∙ ap (λ x. Ok x) (sym written)

-- ---- the definition in its own words

-- JSON as the result of the whole.
abbrev made : List ℕ → Result (List ℕ) TextFault
made json = Ok json

-- A fault as the result of the whole.
abbrev unmade : TextFault → Result (List ℕ) TextFault
unmade e = Err e

-- Where the result of a text's tokens makes JSON, that is the text's JSON.
json_by_tokens : (text json : List ℕ) (r : Result (List Token) TextFault) → tokens text ≡ r → json_result r ≡ made json → IsJsonOf text json
json_by_tokens text json (Ok ts) e h = (ts, computed_tokens text ts e, sym (ap (λ r. elim r as (λ _. List ℕ) [ Ok x ↦ x | Err f ↦ json ]) h))
json_by_tokens text json (Err f) e h = absurd (grind (arith, rules))

-- The JSON that is computed of a text is that of the tokens that it has by the grammar.
pub is_json : (text json : List ℕ) → json_of text ≡ made json → IsJsonOf text json
is_json text json h = json_by_tokens text json (tokens text) refl h

-- Where the result of a text's tokens makes a fault, that is the text's fault.
fault_by_tokens : (text : List ℕ) (e : TextFault) (r : Result (List Token) TextFault) → tokens text ≡ r → json_result r ≡ unmade e → IsTextFault text e
fault_by_tokens text e (Ok ts) g h = absurd (grind (arith, rules))
fault_by_tokens text e (Err f) g h = let same : f ≡ e = ap (λ r. elim r as (λ _. TextFault) [ Ok x ↦ e | Err x ↦ x ]) h in subst (IsTextFault text) same (computed_fault text f g)

-- The fault that is told in the place of a text's JSON is the one that it has by the grammar.
pub is_fault : (text : List ℕ) (e : TextFault) → json_of text ≡ unmade e → IsTextFault text e
is_fault text e h = fault_by_tokens text e (tokens text) refl h
