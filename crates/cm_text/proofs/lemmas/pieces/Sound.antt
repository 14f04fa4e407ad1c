-- What is computed as a text's first piece does stand there, and so each text has tokens or a fault.
use Rattle.std.proofs.Common.{◌≡◌, ℕ, suc, List, [], ◌∷◌, ◌++◌, length, Bool, true, false, not, ◌&&◌, ◌||◌, ◌==◌, Option, Some, None, option_map, refl, sym, ap, ◌∙◌, arith, rules, eqb-true, inl, inr, take_while, subst}
use Rattle.std.proofs.lemmas.Option.{none-some}
use Rattle.std.specs.List.{list_all, flat_map}
use Rattle.std.proofs.lemmas.List.{append_assoc}
use Rattle.std.specs.Cmp.{first_so, second_so}
use Rattle.cm_text.specs.Bytes.{is_mark, is_space, is_quote, is_word_byte, is_in_line, begins_with, closes_comment}
use Rattle.cm_text.specs.Token.{Char, mark, quoted, word, Piece, token, space, line_comment, block_comment, char_bytes, piece_bytes}
use Rattle.cm_text.specs.Split.{has_end, is_piece, may_follow, NeverCloses, NeverEnds, begins_nothing}
use Rattle.cm_text.specs.Pieces.{chars, comment, stray, unclosed, piece, string_piece, block_piece, comment_piece, Class, mark_byte, space_byte, quote_byte, word_byte, slash, other, class, first_of, first_piece}
use Rattle.cm_text.proofs.lemmas.pieces.Piece.{run_more, run_ends, chars_of, begins_same, comment_here, comment_later}
use Rattle.cm_text.proofs.lemmas.pieces.Fault.{Closes, closes}

-- ---- runs

-- Bytes begin with a run of those that pass, and a rest whose first doesn't.
pub record Run (p : ℕ → Bool) (bs : List ℕ) : Type 0 where
  pub rest : List ℕ
  pub bytes : bs ≡ take_while p bs ++ rest
  pub passes : list_all p (take_while p bs) ≡ true
  pub ends : begins_with p rest ≡ false

-- Bytes with one more in front begin with a run, where the bytes do.
run_by_test : (p : ℕ → Bool) (b : ℕ) (bs : List ℕ) (t : Bool) → p b ≡ t → Run p bs → Run p (b ∷ bs)
run_by_test p b bs true e r = record {
  rest = r.rest;
  bytes = ap (λ xs. b ∷ xs) r.bytes ∙ ap (λ xs. xs ++ r.rest) (sym (run_more p b bs e));
  passes = ap (list_all p) (run_more p b bs e) ∙ rw e r.passes;
  ends = r.ends;
}
run_by_test p b bs false e r = record {
  rest = b ∷ bs;
  bytes = ap (λ xs. xs ++ b ∷ bs) (sym (run_ends p (b ∷ bs) e));
  passes = ap (list_all p) (run_ends p (b ∷ bs) e);
  ends = e;
}

-- Bytes begin with the run of those that pass a test, and a byte that doesn't pass ends it.
pub runs : (p : ℕ → Bool) (bs : List ℕ) → Run p bs
runs p [] = record { rest = []; bytes = refl; passes = refl; ends = refl }
runs p (b ∷ bs) = run_by_test p b bs (p b) refl (runs p bs)

-- ---- comments

-- Bytes begin with a comment's text, the first star and slash, and a rest.
pub record Comment (bs cs : List ℕ) : Type 0 where
  pub rest : List ℕ
  pub bytes : bs ≡ cs ++ 42 ∷ 47 ∷ rest
  pub first : has_end (cs ++ 42 ∷ []) ≡ false

-- Bytes that are there.
abbrev pub some_bytes : List ℕ → Option (List ℕ)
some_bytes cs = Some cs

-- Some bytes that are the same are of the same list.
same_bytes : (x y : List ℕ) → some_bytes x ≡ some_bytes y → x ≡ y
same_bytes x y e = ap (λ o. elim o as (λ _. List ℕ) [ None ↦ x | Some z ↦ z ]) e

-- Bytes that begin with a star and a slash have the empty comment before these.
star_slash : (b : ℕ) (bs : List ℕ) → closes_comment (b ∷ bs) ≡ true → Comment (b ∷ bs) []
star_slash b [] h = absurd (grind (arith, rules))
star_slash b (c ∷ bs) h = record {
  rest = bs;
  bytes = ap (λ x. x ∷ c ∷ bs) (eqb-true b 42 (first_so (b == 42) (c == 47) h)) ∙ ap (λ x. 42 ∷ x ∷ bs) (eqb-true c 47 (second_so (b == 42) (c == 47) h));
  first = refl;
}

-- A comment's text is so for a text that is the same.
moved_comment : (bs cs ds : List ℕ) → cs ≡ ds → Comment bs cs → Comment bs ds
moved_comment bs cs ds e c = record { rest = c.rest; bytes = c.bytes ∙ ap (λ xs. xs ++ 42 ∷ 47 ∷ c.rest) e; first = ap (λ xs. has_end (xs ++ 42 ∷ [])) (sym e) ∙ c.first }

-- With a byte in front that begins no end, the comment is longer by that byte.
longer : (b : ℕ) (bs cs : List ℕ) → closes_comment (b ∷ bs) ≡ false → Comment bs cs → Comment (b ∷ bs) (b ∷ cs)
longer b bs cs e c =
    let same : closes_comment (b ∷ (cs ++ 42 ∷ [])) ≡ closes_comment (b ∷ bs) = ap (λ t. (b == 42) && t) (begins_same (λ x. x == 47) cs 42 [] (47 ∷ c.rest) ∙ ap (begins_with (λ x. x == 47)) (sym c.bytes)) in
    let here : closes_comment (b ∷ (cs ++ 42 ∷ [])) ≡ false = same ∙ e in
    record { rest = c.rest; bytes = ap (λ xs. b ∷ xs) c.bytes; first = rw here c.first }

-- A byte that begins no end, before the comment that was found, is a comment where that is one.
with_byte : (b : ℕ) (bs cs : List ℕ) (o : Option (List ℕ)) → closes_comment (b ∷ bs) ≡ false → ((ds : List ℕ) → o ≡ some_bytes ds → Comment bs ds) → option_map (λ ds. b ∷ ds) o ≡ some_bytes cs → Comment (b ∷ bs) cs
with_byte b bs cs None e f h = absurd (none-some cs h)
with_byte b bs cs (Some ds) e f h = moved_comment (b ∷ bs) (b ∷ ds) cs (same_bytes (b ∷ ds) cs h) (longer b bs ds e (f ds refl))

-- The comment that is found from a byte on is one, where that found behind the byte is.
comment_by_test : (b : ℕ) (bs cs : List ℕ) (t : Bool) → closes_comment (b ∷ bs) ≡ t → ((ds : List ℕ) → comment bs ≡ some_bytes ds → Comment bs ds) → comment (b ∷ bs) ≡ some_bytes cs → Comment (b ∷ bs) cs
comment_by_test b bs cs true e f h = moved_comment (b ∷ bs) [] cs (same_bytes [] cs (sym (comment_here b bs e) ∙ h)) (star_slash b bs e)
comment_by_test b bs cs false e f h = with_byte b bs cs (comment bs) e f (sym (comment_later b bs e) ∙ h)

-- No comment is found in no bytes.
no_comment : (cs : List ℕ) → comment [] ≡ some_bytes cs → ⊥
unfolding comment
no_comment cs h = none-some cs h

-- A comment that is found does stand there, and its first star and slash behind it.
pub comment_closes : (bs cs : List ℕ) → comment bs ≡ some_bytes cs → Comment bs cs
comment_closes [] cs h = absurd (no_comment cs h)
comment_closes (b ∷ bs) cs h = comment_by_test b bs cs (closes_comment (b ∷ bs)) refl (λ ds e. comment_closes bs ds e) h

-- Where none is found with a byte in front, none was found.
mapped_none : (b : ℕ) (o : Option (List ℕ)) → option_map (λ cs. b ∷ cs) o ≡ None → o ≡ None
mapped_none b None h = refl
mapped_none b (Some cs) h = absurd (none-some (b ∷ cs) (sym h))

-- Where no comment is found from a byte on, no end stands there, if the same holds behind it.
open_by_test : (b : ℕ) (bs : List ℕ) (t : Bool) → closes_comment (b ∷ bs) ≡ t → (comment bs ≡ None → has_end bs ≡ false) → comment (b ∷ bs) ≡ None → has_end (b ∷ bs) ≡ false
open_by_test b bs true e f h = absurd (none-some [] (sym h ∙ comment_here b bs e))
open_by_test b bs false e f h = rw e (f (mapped_none b (comment bs) (sym (comment_later b bs e) ∙ h)))

-- Where no comment is found, no star and slash follow each other in the bytes.
pub comment_open : (bs : List ℕ) → comment bs ≡ None → has_end bs ≡ false
comment_open [] h = refl
comment_open (b ∷ bs) h = open_by_test b bs (closes_comment (b ∷ bs)) refl (comment_open bs) h

-- ---- the class of a byte

-- A byte of the class of marks is a mark.
class_mark : (b : ℕ) → class b ≡ mark_byte → is_mark b ≡ true
class_mark b h = grind (arith, rules)

-- A byte of the class of spaces is a space.
class_space : (b : ℕ) → class b ≡ space_byte → is_space b ≡ true
class_space b h = grind (arith, rules)

-- A byte of the class of quotes is a quote.
class_quote : (b : ℕ) → class b ≡ quote_byte → is_quote b ≡ true
class_quote b h = grind (arith, rules)

-- A byte of the class of words is a word's byte.
class_word : (b : ℕ) → class b ≡ word_byte → is_word_byte b ≡ true
class_word b h = grind (arith, rules)

-- A byte of the slash's class is the slash.
class_slash : (b : ℕ) → class b ≡ slash → b ≡ 47
class_slash b h = grind (arith, rules)

-- A byte of no other class begins nothing.
class_other : (b : ℕ) (bs : List ℕ) → class b ≡ other → begins_nothing b bs ≡ true
class_other b bs h = grind (arith, rules)

-- ---- the first piece

-- a text begins with the piece, which may stand there
pub record Stands (p : Piece) (text : List ℕ) : Type 0 where
  pub rest : List ℕ
  pub bytes : text ≡ piece_bytes p ++ rest
  pub piece : is_piece p ≡ true
  pub follows : may_follow p rest ≡ true

-- A piece that is the same as one that stands at a text's beginning stands there.
moved_stands : (p q : Piece) (text : List ℕ) → piece p ≡ piece q → Stands p text → Stands q text
moved_stands p q text e s =
    let same : p ≡ q = ap (λ f. elim f as (λ _. Piece) [ stray ↦ p | unclosed ↦ p | piece x ↦ x ]) e in
    record { rest = s.rest; bytes = s.bytes ∙ ap (λ x. piece_bytes x ++ s.rest) same; piece = ap is_piece (sym same) ∙ s.piece; follows = ap (λ x. may_follow x s.rest) (sym same) ∙ s.follows }

-- A string that was found and closes stands at its text's beginning.
string_stands : (q : ℕ) (bs : List ℕ) (p : Piece) (o : Option (List Char)) → is_quote q ≡ true → ((cs : List Char) → o ≡ Some cs → Closes q bs cs) → string_piece q o ≡ piece p → Stands p (q ∷ bs)
string_stands q bs p None quote f h = absurd (grind (arith, rules))
string_stands q bs p (Some cs) quote f h =
    let c = f cs refl in
    moved_stands (token (quoted q cs)) p (q ∷ bs) h (record {
      rest = c.rest;
      bytes = ap (λ xs. q ∷ xs) (c.bytes ∙ sym (append_assoc (flat_map char_bytes cs) (q ∷ []) c.rest));
      piece = rw quote c.chars;
      follows = refl;
    })

-- A comment between stars that was found stands at its text's beginning.
block_stands : (bs : List ℕ) (p : Piece) (o : Option (List ℕ)) → ((cs : List ℕ) → o ≡ some_bytes cs → Comment bs cs) → block_piece o ≡ piece p → Stands p (47 ∷ 42 ∷ bs)
block_stands bs p None f h = absurd (grind (arith, rules))
block_stands bs p (Some cs) f h =
    let c = f cs refl in
    moved_stands (block_comment cs) p (47 ∷ 42 ∷ bs) h (record {
      rest = c.rest;
      bytes = ap (λ xs. 47 ∷ 42 ∷ xs) (c.bytes ∙ sym (append_assoc cs (42 ∷ 47 ∷ []) c.rest));
      piece = rw c.first refl;
      follows = refl;
    })

-- A comment to the line's end stands behind two slashes, up to where the line ends.
line_stands : (bs : List ℕ) → Stands (line_comment (take_while is_in_line bs)) (47 ∷ 47 ∷ bs)
line_stands bs = let r = runs is_in_line bs in record { rest = r.rest; bytes = ap (λ xs. 47 ∷ 47 ∷ xs) r.bytes; piece = r.passes; follows = ap not r.ends }

-- A number that is one above another isn't zero.
pub some_bytes_there : (n : ℕ) → not (suc n == 0) ≡ true
some_bytes_there n = grind (arith, rules)

-- A word stands where a byte of words begins a text, as long as such bytes follow.
word_stands : (b : ℕ) (bs : List ℕ) → is_word_byte b ≡ true → Stands (token (word (b ∷ take_while is_word_byte bs))) (b ∷ bs)
word_stands b bs h = let r = runs is_word_byte bs in record { rest = r.rest; bytes = ap (λ xs. b ∷ xs) r.bytes; piece = rw (some_bytes_there (length (take_while is_word_byte bs))) (rw h r.passes); follows = ap not r.ends }

-- Behind a slash another one begins the comment of a line.
line_piece : (c : ℕ) (bs : List ℕ) → (c == 47) ≡ true → comment_piece (c ∷ bs) ≡ piece (line_comment (take_while is_in_line bs))
line_piece c bs e = rw (comment_piece, e) refl

-- A slash and a star begin a comment between stars.
star_piece : (c : ℕ) (bs : List ℕ) → (c == 47) ≡ false → (c == 42) ≡ true → comment_piece (c ∷ bs) ≡ block_piece (comment bs)
star_piece c bs e f = rw (comment_piece, e) (rw f refl)

-- A slash before neither a slash nor a star is stray.
stray_piece : (c : ℕ) (bs : List ℕ) → (c == 47) ≡ false → (c == 42) ≡ false → comment_piece (c ∷ bs) ≡ stray
stray_piece c bs e f = rw (comment_piece, e) (rw f refl)

-- The comment found behind a slash and a further byte stands there.
comment_by_byte : (c : ℕ) (bs : List ℕ) (p : Piece) (t u : Bool) → (c == 47) ≡ t → (c == 42) ≡ u → comment_piece (c ∷ bs) ≡ piece p → Stands p (47 ∷ c ∷ bs)
comment_by_byte c bs p true u e f h =
    let here : c ≡ 47 = eqb-true c 47 e in
    rw here (moved_stands (line_comment (take_while is_in_line bs)) p (47 ∷ 47 ∷ bs) (sym (line_piece c bs e) ∙ h) (line_stands bs))
comment_by_byte c bs p false true e f h =
    let here : c ≡ 42 = eqb-true c 42 f in
    rw here (block_stands bs p (comment bs) (λ cs g. comment_closes bs cs g) (sym (star_piece c bs e f) ∙ h))
comment_by_byte c bs p false false e f h = absurd (let g = sym (stray_piece c bs e f) ∙ h in grind (arith, rules))

-- The comment found behind a slash stands there.
comment_stands : (bs : List ℕ) (p : Piece) → comment_piece bs ≡ piece p → Stands p (47 ∷ bs)
comment_stands [] p h = absurd (grind (arith, rules))
comment_stands (c ∷ bs) p h = comment_by_byte c bs p (c == 47) (c == 42) refl refl h

-- The piece found by the class of the first byte stands at the text's beginning.
stands_by_class : (b : ℕ) (bs : List ℕ) (p : Piece) (k : Class) → class b ≡ k → first_of k b bs ≡ piece p → Stands p (b ∷ bs)
stands_by_class b bs p mark_byte e h = moved_stands (token (mark b)) p (b ∷ bs) h (record { rest = bs; bytes = refl; piece = class_mark b e; follows = refl })
stands_by_class b bs p space_byte e h = moved_stands (space b) p (b ∷ bs) h (record { rest = bs; bytes = refl; piece = class_space b e; follows = refl })
stands_by_class b bs p quote_byte e h = string_stands b bs p (chars b false bs) (class_quote b e) (λ cs g. closes b bs false cs g) h
stands_by_class b bs p word_byte e h = moved_stands (token (word (b ∷ take_while is_word_byte bs))) p (b ∷ bs) h (word_stands b bs (class_word b e))
stands_by_class b bs p slash e h = let here : b ≡ 47 = class_slash b e in rw here (comment_stands bs p h)
stands_by_class b bs p other e h = absurd (grind (arith, rules))

-- the first piece of a text does stand there
pub first_stands : (b : ℕ) (bs : List ℕ) (p : Piece) → first_piece b bs ≡ piece p → Stands p (b ∷ bs)
first_stands b bs p h = stands_by_class b bs p (class b) refl h

-- ---- no first piece

-- A string isn't stray.
string_not_stray : (q : ℕ) (o : Option (List Char)) → string_piece q o ≡ stray → ⊥
string_not_stray q None h = grind (arith, rules)
string_not_stray q (Some cs) h = grind (arith, rules)

-- A comment between stars isn't stray.
block_not_stray : (o : Option (List ℕ)) → block_piece o ≡ stray → ⊥
block_not_stray None h = grind (arith, rules)
block_not_stray (Some cs) h = grind (arith, rules)

-- Where a slash and a further byte are stray, that byte is neither a slash nor a star.
not_comment : (c : ℕ) (bs : List ℕ) (t u : Bool) → (c == 47) ≡ t → (c == 42) ≡ u → comment_piece (c ∷ bs) ≡ stray → ((c == 47) || (c == 42)) ≡ false
not_comment c bs true u e f h = absurd (let g = sym (line_piece c bs e) ∙ h in grind (arith, rules))
not_comment c bs false true e f h = absurd (block_not_stray (comment bs) (sym (star_piece c bs e f) ∙ h))
not_comment c bs false false e f h = rw e f

-- A slash that is stray begins nothing.
slash_alone : (bs : List ℕ) → comment_piece bs ≡ stray → begins_nothing 47 bs ≡ true
slash_alone [] h = refl
slash_alone (c ∷ bs) h = ap not (not_comment c bs (c == 47) (c == 42) refl refl h)

-- A byte that is stray by its class begins nothing.
stray_by_class : (b : ℕ) (bs : List ℕ) (k : Class) → class b ≡ k → first_of k b bs ≡ stray → begins_nothing b bs ≡ true
stray_by_class b bs mark_byte e h = absurd (grind (arith, rules))
stray_by_class b bs space_byte e h = absurd (grind (arith, rules))
stray_by_class b bs quote_byte e h = absurd (string_not_stray b (chars b false bs) h)
stray_by_class b bs word_byte e h = absurd (grind (arith, rules))
stray_by_class b bs slash e h = let here : b ≡ 47 = class_slash b e in rw here (slash_alone bs h)
stray_by_class b bs other e h = class_other b bs e

-- Where a text's first piece is a stray byte, nothing that is a piece begins there.
pub first_stray : (b : ℕ) (bs : List ℕ) → first_piece b bs ≡ stray → begins_nothing b bs ≡ true
first_stray b bs h = stray_by_class b bs (class b) refl h

-- A string that is unclosed has no characters found.
string_open : (q : ℕ) (o : Option (List Char)) → string_piece q o ≡ unclosed → o ≡ None
string_open q None h = refl
string_open q (Some cs) h = absurd (grind (arith, rules))

-- A comment between stars that is unclosed has no text found.
block_open : (o : Option (List ℕ)) → block_piece o ≡ unclosed → o ≡ None
block_open None h = refl
block_open (Some cs) h = absurd (grind (arith, rules))

-- Where no characters are found behind a quote, its string never closes.
never_closes : (q : ℕ) (bs : List ℕ) → is_quote q ≡ true → chars q false bs ≡ None → NeverCloses q bs
never_closes q bs quote h cs rest all e = none-some cs (sym h ∙ ap (chars q false) e ∙ chars_of q cs rest quote all)

-- An unclosed comment behind a slash and a further byte never ends.
comment_never : (c : ℕ) (bs : List ℕ) (t u : Bool) → (c == 47) ≡ t → (c == 42) ≡ u → comment_piece (c ∷ bs) ≡ unclosed → NeverEnds (47 ∷ c ∷ bs)
comment_never c bs true u e f h = absurd (let g = sym (line_piece c bs e) ∙ h in grind (arith, rules))
comment_never c bs false true e f h =
    inr (bs, ap (λ x. 47 ∷ x ∷ bs) (eqb-true c 42 f), ap not (comment_open bs (block_open (comment bs) (sym (star_piece c bs e f) ∙ h))))
comment_never c bs false false e f h = absurd (let g = sym (stray_piece c bs e f) ∙ h in grind (arith, rules))

-- An unclosed comment behind a slash never ends.
slash_never : (bs : List ℕ) → comment_piece bs ≡ unclosed → NeverEnds (47 ∷ bs)
slash_never [] h = absurd (grind (arith, rules))
slash_never (c ∷ bs) h = comment_never c bs (c == 47) (c == 42) refl refl h

-- What is unclosed by the class of its first byte never ends.
unclosed_by_class : (b : ℕ) (bs : List ℕ) (k : Class) → class b ≡ k → first_of k b bs ≡ unclosed → NeverEnds (b ∷ bs)
unclosed_by_class b bs mark_byte e h = absurd (grind (arith, rules))
unclosed_by_class b bs space_byte e h = absurd (grind (arith, rules))
unclosed_by_class b bs quote_byte e h = inl (class_quote b e, never_closes b bs (class_quote b e) (string_open b (chars b false bs) h))
unclosed_by_class b bs word_byte e h = absurd (grind (arith, rules))
unclosed_by_class b bs slash e h = let here : b ≡ 47 = class_slash b e in subst (λ x. NeverEnds (x ∷ bs)) (sym here) (slash_never bs h)
unclosed_by_class b bs other e h = absurd (grind (arith, rules))

-- Where a text's first piece is unclosed, a string or a comment begins there and never ends.
pub first_unclosed : (b : ℕ) (bs : List ℕ) → first_piece b bs ≡ unclosed → NeverEnds (b ∷ bs)
first_unclosed b bs h = unclosed_by_class b bs (class b) refl h
