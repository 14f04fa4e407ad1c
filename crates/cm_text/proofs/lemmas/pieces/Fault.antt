-- A text's fault is the one that is computed.
use Rattle.std.proofs.Common.{◌≡◌, ℕ, ◌+◌, List, [], ◌∷◌, ◌++◌, length, Bool, true, false, not, ◌&&◌, ◌||◌, ◌==◌, Option, Some, None, option_map, Err, IsTrue, refl, sym, ap, ◌∙◌, arith, eqb-true, inl, inr}
use Rattle.std.proofs.lemmas.Option.{none-some}
use Rattle.std.specs.List.{list_all, flat_map}
use Rattle.std.specs.Cmp.{first_so, second_so}
use Rattle.std.proofs.lemmas.Bool.{not-true}
use Rattle.cm_facts.proofs.Booleans.{or_false_first, or_false_second}
use Rattle.cm_text.specs.Bytes.{is_mark, is_space, is_quote, is_word_byte, begins_with}
use Rattle.cm_text.specs.Token.{Char, plain, taken, Piece, char_bytes}
use Rattle.cm_text.specs.TokenInside.{bytes_of}
use Rattle.cm_text.specs.Split.{is_char, has_end, SplitsInto, NeverCloses, NeverEnds, BeginsNothing, begins_nothing}
use Rattle.cm_text.specs.Pieces.{chars, comment, stray, unclosed, string_piece, block_piece, comment_piece, piece_then, first_piece, with_piece, pieces, tokens, tokens_result}
use Rattle.cm_text.specs.Facts.{FaultsAreComputed}
use Rattle.cm_text.specs.declared.fault.TextFault.{TextFault}
use Rattle.cm_text.specs.declared.fault.TextFault.TheVariants.{BadToken, Unclosed, Memory as OutOfMemory}
use Rattle.cm_text.proofs.lemmas.Byte.{quote_class}
use Rattle.cm_text.proofs.lemmas.pieces.Piece.{with_pieces, first_ones, same_option}

-- ---- faults

-- the characters found do stand there
pub record Closes (q : ℕ) (bs : List ℕ) (cs : List Char) : Type 0 where
  pub rest : List ℕ
  pub bytes : bs ≡ flat_map char_bytes cs ++ q ∷ rest
  pub chars : IsTrue (list_all (is_char q) cs)

-- A string that never closes is unclosed, where characters that are found do close it.
never_unclosed : (q : ℕ) (bs : List ℕ) → NeverCloses q bs → (r : Option (List Char)) → ((cs : List Char) → r ≡ Some cs → Closes q bs cs) → string_piece q r ≡ unclosed
never_unclosed q bs h None f = refl
never_unclosed q bs h (Some cs) f = let c = f cs refl in absurd (h cs c.rest c.chars c.bytes)

-- A slash with neither a slash nor a star behind it begins no piece.
no_slash_piece : (bs : List ℕ) → begins_with (λ c. (c == 47) || (c == 42)) bs ≡ false → comment_piece bs ≡ stray
no_slash_piece [] h = refl
no_slash_piece (c ∷ cs) h = rw (comment_piece, or_false_first (c == 47) (c == 42) h) (rw (or_false_second (c == 47) (c == 42) h) refl)

-- A byte of none of the classes, which begins no comment, is stray.
stray_at : (b : ℕ) (bs : List ℕ) (e : Bool) → (b == 47) ≡ e → is_mark b ≡ false → is_space b ≡ false → is_quote b ≡ false → is_word_byte b ≡ false → (e && begins_with (λ c. (c == 47) || (c == 42)) bs) ≡ false → first_piece b bs ≡ stray
stray_at b bs true e m s q w h = rw m (rw s (rw q (rw w (rw e (no_slash_piece bs h)))))
stray_at b bs false e m s q w h = rw m (rw s (rw q (rw w (rw e refl))))

-- Bytes in which no star and slash follow each other have no comment that ends.
pub no_end : (cs : List ℕ) → has_end cs ≡ false → comment cs ≡ None
unfolding comment
no_end [] h = refl
no_end (b ∷ bs) h =
    rw (comment, or_false_first ((b == 42) && begins_with (λ c. c == 47) bs) (has_end bs) h) (ap (option_map (λ cs. b ∷ cs)) (no_end bs (or_false_second ((b == 42) && begins_with (λ c. c == 47) bs) (has_end bs) h)))

-- ---- strings that never end

-- Characters that are there.
abbrev pub some : List Char → Option (List Char)
some x = Some x

-- At the quote a string's characters are at their end.
pub chars_quote : (q b : ℕ) (bs : List ℕ) → (b == q) ≡ true → chars q false (b ∷ bs) ≡ Some []
unfolding chars
chars_quote q b bs e = rw (chars, e) refl

-- A backslash is no character of a string, but makes the byte behind it one that is taken.
pub chars_slash : (q b : ℕ) (bs : List ℕ) → (b == q) ≡ false → (b == 92) ≡ true → chars q false (b ∷ bs) ≡ chars q true bs
unfolding chars
chars_slash q b bs e f = rw (chars, e) (rw f (same_option (chars q true bs)))

-- A byte that is neither the quote nor a backslash is a plain character before the others.
pub chars_plain : (q b : ℕ) (bs : List ℕ) → (b == q) ≡ false → (b == 92) ≡ false → chars q false (b ∷ bs) ≡ option_map (λ cs. plain b ∷ cs) (chars q false bs)
unfolding chars
chars_plain q b bs e f = rw (chars, e) (rw f refl)

-- A byte behind a backslash is a taken character before the others.
pub chars_taken : (q b : ℕ) (bs : List ℕ) → chars q true (b ∷ bs) ≡ option_map (λ cs. taken b ∷ cs) (chars q false bs)
unfolding chars
chars_taken q b bs = refl

-- A string of which no bytes are left has no closing quote.
pub chars_none : (q : ℕ) (e : Bool) → chars q e [] ≡ None
unfolding chars
chars_none q true = refl
chars_none q false = refl

-- Where two lists of characters are equal as values that are there, the lists are equal.
pub some_same : (x y : List Char) → some x ≡ some y → x ≡ y
some_same x y e = ap (λ o. elim o as (λ _. List Char) [ None ↦ x | Some z ↦ z ]) e

-- Bytes with the backslash before them that came before, if one did.
abbrev pub behind : Bool → List ℕ → List ℕ
behind true bs = 92 ∷ bs
behind false bs = bs

-- Characters that end at a quote in some bytes do so in equal bytes, and equal characters do.
pub moved_closes : (q : ℕ) (xs ys : List ℕ) (cs ds : List Char) → xs ≡ ys → cs ≡ ds → Closes q xs cs → Closes q ys ds
moved_closes q xs ys cs ds e f c = record { rest = c.rest; bytes = sym e ∙ c.bytes ∙ ap (λ t. flat_map char_bytes t ++ q ∷ c.rest) f; chars = ap (list_all (is_char q)) (sym f) ∙ c.chars }

-- A backslash and its byte before characters that close a string are characters that close it.
with_taken : (q b : ℕ) (bs : List ℕ) (cs : List Char) (o : Option (List Char)) → ((ds : List Char) → o ≡ Some ds → Closes q bs ds) → option_map (λ ds. taken b ∷ ds) o ≡ some cs → Closes q (92 ∷ b ∷ bs) cs
with_taken q b bs cs None f h = absurd (none-some cs h)
with_taken q b bs cs (Some ds) f h =
    let c = f ds refl in
    moved_closes q (92 ∷ b ∷ bs) (92 ∷ b ∷ bs) (taken b ∷ ds) cs refl (some_same (taken b ∷ ds) cs h) (record { rest = c.rest; bytes = ap (λ t. 92 ∷ b ∷ t) c.bytes; chars = c.chars })

-- A plain byte before characters that close a string makes characters that close it.
with_plain : (q b : ℕ) (bs : List ℕ) (cs : List Char) (o : Option (List Char)) → (b == q) ≡ false → (b == 92) ≡ false → ((ds : List Char) → o ≡ Some ds → Closes q bs ds) → option_map (λ ds. plain b ∷ ds) o ≡ some cs → Closes q (b ∷ bs) cs
with_plain q b bs cs None e g f h = absurd (none-some cs h)
with_plain q b bs cs (Some ds) e g f h =
    let c = f ds refl in
    moved_closes q (b ∷ bs) (b ∷ bs) (plain b ∷ ds) cs refl (some_same (plain b ∷ ds) cs h) (record { rest = c.rest; bytes = ap (λ t. b ∷ t) c.bytes; chars = rw e (rw g c.chars) })

-- The characters found from a byte on close the string, where those behind the byte do.
by_byte : (q b : ℕ) (bs : List ℕ) (cs : List Char) (t u : Bool) → (b == q) ≡ t → (b == 92) ≡ u → ((e : Bool) (ds : List Char) → chars q e bs ≡ some ds → Closes q (behind e bs) ds) → chars q false (b ∷ bs) ≡ some cs → Closes q (b ∷ bs) cs
by_byte q b bs cs true u e g f h =
    moved_closes q (q ∷ bs) (b ∷ bs) [] cs (ap (λ x. x ∷ bs) (sym (eqb-true b q e))) (some_same [] cs (sym (chars_quote q b bs e) ∙ h)) (record { rest = bs; bytes = refl; chars = refl })
by_byte q b bs cs false true e g f h =
    moved_closes q (92 ∷ bs) (b ∷ bs) cs cs (ap (λ x. x ∷ bs) (sym (eqb-true b 92 g))) refl (f true cs (sym (chars_slash q b bs e g) ∙ h))
by_byte q b bs cs false false e g f h = with_plain q b bs cs (chars q false bs) e g (f false) (sym (chars_plain q b bs e g) ∙ h)

-- Characters that are found up to a quote do stand there, and the quote behind them.
pub closes : (q : ℕ) (bs : List ℕ) (e : Bool) (cs : List Char) → chars q e bs ≡ some cs → Closes q (behind e bs) cs
closes q [] e cs h = absurd (none-some cs (sym (chars_none q e) ∙ h))
closes q (b ∷ bs) true cs h = with_taken q b bs cs (chars q false bs) (λ ds g. closes q bs false ds g) (sym (chars_taken q b bs) ∙ h)
closes q (b ∷ bs) false cs h = by_byte q b bs cs (b == q) (b == 92) refl refl (λ e ds g. closes q bs e ds g) h

-- ---- the faults are the computed ones

-- Pieces before a fault are that fault.
with_fault : (ps : List Piece) (e : TextFault) → with_pieces ps (Err e) ≡ Err e
with_fault [] e = refl
with_fault (p ∷ ps) e = ap (with_piece p) (with_fault ps e)

-- A byte that begins nothing, with those behind it, is stray.
stray_of : (b : ℕ) (bs : List ℕ) → begins_nothing b bs ≡ true → first_piece b bs ≡ stray
stray_of b bs h =
    let slash : Bool = not ((b == 47) && begins_with (λ c. (c == 47) || (c == 42)) bs) in
    let four : (not (is_mark b) && not (is_space b) && not (is_quote b) && not (is_word_byte b)) ≡ true = first_so (not (is_mark b) && not (is_space b) && not (is_quote b) && not (is_word_byte b)) slash h in
    let three : (not (is_mark b) && not (is_space b) && not (is_quote b)) ≡ true = first_so (not (is_mark b) && not (is_space b) && not (is_quote b)) (not (is_word_byte b)) four in
    let two : (not (is_mark b) && not (is_space b)) ≡ true = first_so (not (is_mark b) && not (is_space b)) (not (is_quote b)) three in
    stray_at b bs (b == 47) refl
    (not-true (is_mark b) (first_so (not (is_mark b)) (not (is_space b)) two))
    (not-true (is_space b) (second_so (not (is_mark b)) (not (is_space b)) two))
    (not-true (is_quote b) (second_so (not (is_mark b) && not (is_space b)) (not (is_quote b)) three))
    (not-true (is_word_byte b) (second_so (not (is_mark b) && not (is_space b) && not (is_quote b)) (not (is_word_byte b)) four))
    (not-true ((b == 47) && begins_with (λ c. (c == 47) || (c == 42)) bs) (second_so (not (is_mark b) && not (is_space b) && not (is_quote b) && not (is_word_byte b)) slash h))

-- Where what is left begins no piece, the fault is a bad token at that place.
at_stray : (rest : List ℕ) (at : ℕ) → BeginsNothing rest → pieces 0 at rest ≡ Err (BadToken at)
unfolding pieces
at_stray [] at h = absurd h
at_stray (b ∷ bs) at h = ap (λ f. piece_then at f (λ n. pieces n (at + 1) bs)) (stray_of b bs h)

-- A quote whose string never closes is unclosed.
at_string : (b : ℕ) (bs : List ℕ) → is_quote b ≡ true → NeverCloses b bs → first_piece b bs ≡ unclosed
at_string b bs quote h = rw (quote_class b quote) (never_unclosed b bs h (chars b false bs) (λ cs e. closes b bs false cs e))

-- A comment between stars that has no end is unclosed.
at_comment : (cs : List ℕ) → has_end cs ≡ false → first_piece 47 (42 ∷ cs) ≡ unclosed
at_comment cs h = ap block_piece (no_end cs h)

-- Where the first piece is unclosed, the fault is that at that place.
then_unclosed : (b : ℕ) (bs : List ℕ) (at : ℕ) → first_piece b bs ≡ unclosed → pieces 0 at (b ∷ bs) ≡ Err (Unclosed at)
unfolding pieces
then_unclosed b bs at e = ap (λ f. piece_then at f (λ n. pieces n (at + 1) bs)) e

-- Where what is left begins what never ends, the fault is an unclosed piece at that place.
at_unclosed : (rest : List ℕ) (at : ℕ) → NeverEnds rest → pieces 0 at rest ≡ Err (Unclosed at)
at_unclosed [] at h = absurd h
at_unclosed (b ∷ bs) at (inl h) = then_unclosed b bs at (at_string b bs h.0 h.1)
at_unclosed (b ∷ bs) at (inr h) = ap (pieces 0 at) h.1 ∙ then_unclosed 47 (42 ∷ h.0) at (at_comment h.0 (not-true (has_end h.0) h.2))

-- The fault of what is left behind some pieces of a text is the fault of its tokens.
found_fault : (text rest : List ℕ) (ps : List Piece) (e : TextFault) → SplitsInto text ps rest → pieces 0 (length (bytes_of ps)) rest ≡ Err e → tokens text ≡ Err e
found_fault text rest ps e h f =
    ap tokens_result (ap (pieces 0 0) (sym h.bytes) ∙ first_ones ps rest 0 h.pieces ∙ ap (with_pieces ps) (ap (λ n. pieces 0 n rest) (omega arith) ∙ f) ∙ with_fault ps e)

-- The fault that a text has by the grammar is the computed one.
pub faults_are_computed : FaultsAreComputed
faults_are_computed text (BadToken at) h = found_fault text h.1 h.0 (BadToken at) h.2 (at_stray h.1 (length (bytes_of h.0)) h.4 ∙ ap (λ n. Err (BadToken n)) (sym h.3))
faults_are_computed text (Unclosed at) h = found_fault text h.1 h.0 (Unclosed at) h.2 (at_unclosed h.1 (length (bytes_of h.0)) h.4 ∙ ap (λ n. Err (Unclosed n)) (sym h.3))
faults_are_computed text OutOfMemory h = absurd h
