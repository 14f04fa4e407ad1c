-- Texts in the relaxed spelling: the tokens that were passed, and what their JSON says.
use Rattle.std.proofs.Common.{◌≡◌, ℕ, ◌-◌, ◌<◌, List, [], ◌∷◌, ◌++◌, length, drop, map, Bool, true, false, not, ◌&&◌, ◌||◌}
use Rattle.std.proofs.Common.{◌==◌, nat_lt, if◌then◌else◌, Option, Some, None, Vec, Bor, Global, refl, sym, ap, ap₂, ◌∙◌}
use Rattle.std.proofs.Common.{subst, append_assoc, append-nil, arith, rules}
use Rattle.std.proofs.lemmas.Bool.{and_parts, or_parts, not-true, eqb-true, eqb-false, ltb-false}
use Rattle.std.proofs.lemmas.List.{nil_from_length}
use Rattle.std.proofs.lemmas.List.Elements.{filter_map-append}
use Rattle.std.specs.List.{list_all, flat_map}
use Rattle.json.specs.Token.{string, end_array, end_object, begin_array, begin_object}
use Rattle.json.specs.Lex.{token, comma, colon, class, operator, string_token, lex, between}
use Rattle.json.specs.Print.{escape, escape_byte}
use Rattle.json.proofs.Printed.Strings.{escape_byte_plain, content-escape, lex-escape}
use Rattle.serde_json.specs.Data.{Data, Items, Members}
use Rattle.cm_text.specs.Bytes.{is_space, is_quote, begins_with, begins_key, continues_key}
use Rattle.cm_text.specs.Token.{Char, plain, Token, mark, quoted, word, Piece, space, line_comment, block_comment}
use Rattle.cm_text.specs.Token.{char_bytes, token_bytes, piece_bytes, piece_token, tokens_of}
use Rattle.cm_text.specs.Token.{token as piece}
use Rattle.cm_text.specs.TokenInside.{bytes_of}
use Rattle.cm_text.specs.Split.{is_char, is_piece, may_follow, are_pieces, SplitsInto, AreTokensOf}
use Rattle.cm_text.specs.Json.{char_json, in_quotes, token_json, is_bare_key, is_comma, is_colon, is_closing}
use Rattle.cm_text.specs.Json.{keeps_comma, is_mark_of, is_needless, head_of, json_of_tokens, json_result}
use Rattle.cm_text.specs.Writing.{json_behind}
use Rattle.cm_text.specs.Next.{BehindBlank, BehindKey}
use Rattle.cm_text.proofs.lemmas.Json.{behind_nothing}
use Rattle.cm_text.proofs.lemmas.pieces.Piece.{are_computed}
use Rattle.cm_plain.specs.JsonTree.{view, items_view, members_view}
use Rattle.cm_plain.specs.Plain.{is_plain, is_inside, HasValue, HasItems, HasMembers}
use Rattle.cm_plain.specs.Relaxed.{is_trailing, shown, NoClosing, PassesTokens, HasString, HasKey, GivesValue, GivesItems}
use Rattle.cm_plain.specs.Relaxed.{GivesMembers, TakesItem, TakesMember, JsonReads}
use Rattle.cm_plain.specs.declared.tree.JsonTree.{JsonTree, Array, Object}
use Rattle.cm_plain.specs.declared.tree.JsonTree as made
use Rattle.cm_plain.proofs.lemmas.Tree.{Member}
use Rattle.cm_plain.proofs.lemmas.Piece.{then_bytes, class_mark, chars_back, of_lexemes}
use Rattle.cm_plain.proofs.lemmas.Plain.{behind_a_space, at_mark, at_string, plain_escape, text_read, value_of_string}
use Rattle.cm_plain.proofs.lemmas.Plain.{value_of_items, value_of_members, ItemsSo, first_item, next_item, items_end}
use Rattle.cm_plain.proofs.lemmas.Plain.{no_items_end, MembersSo, first_member, next_member, members_end}
use Rattle.cm_plain.proofs.lemmas.Plain.{no_members_end, member_added}

-- ---- pieces

-- Pieces before others are pieces of a text, where the others stand before the rest.
are_then : (ps qs : List Piece) (mid rest : List ℕ) → bytes_of qs ++ rest ≡ mid → are_pieces ps mid ≡ true
    → are_pieces qs rest ≡ true → are_pieces (ps ++ qs) rest ≡ true
are_then [] qs mid rest e h k = k
are_then (p ∷ ps) qs mid rest e h k =
    let two = and_parts (is_piece p && may_follow p (bytes_of ps ++ mid)) (are_pieces ps mid) h in
    let one = and_parts (is_piece p) (may_follow p (bytes_of ps ++ mid)) two.0 in
    let same : bytes_of (ps ++ qs) ++ rest ≡ bytes_of ps ++ mid =
    then_bytes ps qs rest ∙ ap (λ l. bytes_of ps ++ l) e in
    let follows : may_follow p (bytes_of (ps ++ qs) ++ rest) ≡ true = ap (may_follow p) same ∙ one.1 in
    rw (one.0, follows) (are_then ps qs mid rest e two.1 k)

-- Where no token was passed, the text is left as it is.
pub passes_nothing : (text : List ℕ) → PassesTokens text [] text
passes_nothing text = record { passed = []; splits = record { bytes = refl; pieces = refl }; tokens = refl }

-- Tokens that were passed one after the other were passed together, in their order.
pub passes_then : (text mid rest : List ℕ) (ts us : List Token) → PassesTokens text ts mid → PassesTokens mid us rest
    → PassesTokens text (ts ++ us) rest
passes_then text mid rest ts us first next = record {
  passed = first.passed ++ next.passed;
  splits = record {
    bytes = then_bytes first.passed next.passed rest ∙ ap (λ l. bytes_of first.passed ++ l) next.splits.bytes
        ∙ first.splits.bytes;
    pieces = are_then first.passed next.passed mid rest next.splits.bytes first.splits.pieces next.splits.pieces;
  };
  tokens = filter_map-append piece_token first.passed next.passed ∙ ap₂ (λ x y. x ++ y) first.tokens next.tokens;
}

-- A piece that may stand before a rest is passed, with the tokens that it has.
passes_one : (p : Piece) (text rest : List ℕ) (ts : List Token) → piece_bytes p ++ rest ≡ text
    → is_piece p ≡ true → may_follow p rest ≡ true → tokens_of (p ∷ []) ≡ ts → PassesTokens text ts rest
passes_one p text rest ts bytes is follows tokens = record {
  passed = p ∷ [];
  splits = record { bytes = ap (λ l. l ++ rest) (append-nil (piece_bytes p)) ∙ bytes; pieces = rw (is, follows) refl };
  tokens = tokens;
}

-- A space at the beginning of a text is passed without a token.
pub passes_space : (t rest : List ℕ) → begins_with is_space t ≡ true → rest ≡ drop 1 t → PassesTokens t [] rest
passes_space [] rest h e = absurd (cc)
passes_space (x ∷ xs) rest h e =
    let is : is_space x ≡ true = h in
    passes_one (space x) (x ∷ xs) rest [] (ap (λ l. x ∷ l) e) is refl refl

-- A piece without token has no tokens.
no_tokens : (p : Piece) → piece_token p ≡ None → tokens_of (p ∷ []) ≡ []
no_tokens (piece t) e = absurd (cc)
no_tokens (space b) e = refl
no_tokens (line_comment bs) e = refl
no_tokens (block_comment bs) e = refl

-- A blank at the beginning of a text is passed without a token.
pub passes_blank : (text rest : List ℕ) → BehindBlank text rest → PassesTokens text [] rest
passes_blank text rest b = record { passed = b.blank ∷ []; splits = b.splits; tokens = no_tokens b.blank b.no_token }

-- A byte of the operators' class in front of a rest is passed as a mark.
passes_mark : (b : ℕ) (text rest : List ℕ) → class b ≡ operator → text ≡ b ∷ rest
    → PassesTokens text (mark b ∷ []) rest
passes_mark b text rest h e = passes_one (piece (mark b)) text rest (mark b ∷ []) (sym e) (class_mark b h) refl refl

-- A mark, with the spaces and comments behind it passed over, is one piece of the text.
pub mark_read : (b : ℕ) (text behind rest : List ℕ) → class b ≡ operator → text ≡ b ∷ behind → PassesTokens behind [] rest
    → PassesTokens text (mark b ∷ []) rest
mark_read b text behind rest h e gap = passes_then text behind rest (mark b ∷ []) [] (passes_mark b text behind h e) gap

-- Bytes that all may stand inside a quote may stand there as characters.
chars_inside : (q : ℕ) (s : List ℕ) → list_all (is_inside q) s ≡ true → list_all (is_char q) (map plain s) ≡ true
chars_inside q [] h = refl
chars_inside q (b ∷ bs) h =
    let both = and_parts (is_inside q b) (list_all (is_inside q) bs) h in
    let none = or_parts ((b == q) || (b == 92)) (nat_lt b 32) (not-true _ both.0) in
    let tests = or_parts (b == q) (b == 92) none.0 in
    rw (tests.0, tests.1) (chars_inside q bs both.1)

-- A quoted string of plain characters before a rest is its quote, the bytes, and the quote.
quoted_bytes : (q : ℕ) (s rest : List ℕ) → token_bytes (quoted q (map plain s)) ++ rest ≡ q ∷ (s ++ q ∷ rest)
quoted_bytes q s rest =
    ap (λ l. q ∷ l) (append_assoc (flat_map char_bytes (map plain s)) (q ∷ []) rest)
    ∙ ap (λ l. q ∷ (l ++ q ∷ rest)) (chars_back s)

-- A string within a quote's marks, whose bytes may stand there, is passed as one token.
passes_quoted : (q : ℕ) (s text inside rest : List ℕ) → is_quote q ≡ true → list_all (is_inside q) s ≡ true
    → text ≡ q ∷ inside → inside ≡ s ++ q ∷ rest → PassesTokens text (quoted q (map plain s) ∷ []) rest
passes_quoted q s text inside rest quote all o e =
    let is : is_piece (piece (quoted q (map plain s))) ≡ true = rw (quote, chars_inside q s all) refl in
    passes_one (piece (quoted q (map plain s))) text rest _
    (quoted_bytes q s rest ∙ sym (o ∙ ap (λ l. q ∷ l) e)) is refl refl

-- ---- the JSON of tokens

-- Escaped text in double quotes is lexed as a string of that text, and then the rest is.
escaped : (s r : List ℕ) → lex between (34 ∷ (escape s ++ 34 ∷ r)) ≡ token (string s) ∷ lex between r
unfolding lex
escaped s r = ap₂ (λ o l. token (string_token o) ∷ l) (content-escape s r) (lex-escape s r)

-- A plain byte that is no control and no backslash is in JSON what escaping makes of it.
byte_json : (b : ℕ) (t : Bool) → (b == 34) ≡ t → (b == 92) ≡ false → nat_lt b 32 ≡ false
    → char_json (plain b) ≡ escape_byte b
unfolding escape_byte
byte_json b true e n m = subst (λ c. char_json (plain c) ≡ escape_byte c) (sym (eqb-true b 34 e)) refl
byte_json b false e n m =
    ap (λ g. if g then 92 ∷ 34 ∷ [] else b ∷ []) e
    ∙ sym (escape_byte_plain b (eqb-false b 34 e) (eqb-false b 92 n) (ltb-false b 32 m))

-- Bytes that may stand in single quotes, as characters, are in JSON the text escaped.
single_json : (s : List ℕ) → list_all (is_inside 39) s ≡ true → flat_map char_json (map plain s) ≡ escape s
single_json [] h = refl
single_json (b ∷ bs) h =
    let both = and_parts (is_inside 39 b) (list_all (is_inside 39) bs) h in
    let none = or_parts ((b == 39) || (b == 92)) (nat_lt b 32) (not-true _ both.0) in
    let tests = or_parts (b == 39) (b == 92) none.0 in
    ap₂ (λ x y. x ++ y) (byte_json b (b == 34) refl tests.1 none.1) (single_json bs both.1)

-- A quote that isn't single, by the test, is the double one.
double_quote : (q : ℕ) → is_quote q ≡ true → (q == 39) ≡ false → q ≡ 34
double_quote q h other = grind (arith, rules)

-- The JSON of a string token, with either quote, is the text escaped in double quotes.
string_json : (q : ℕ) (s : List ℕ) (before_colon t : Bool) → (q == 39) ≡ t → is_quote q ≡ true
    → list_all (is_inside q) s ≡ true
    → token_json before_colon (quoted q (map plain s)) ≡ 34 ∷ (escape s ++ 34 ∷ [])
string_json q s before_colon true e quote all =
    let same = eqb-true q 39 e in
    ap (λ k. token_json before_colon (quoted k (map plain s))) same
    ∙ ap in_quotes (single_json s (ap (λ k. list_all (is_inside k) s) (sym same) ∙ all))
string_json q s before_colon false e quote all =
    let same = double_quote q quote e in
    ap (λ k. token_json before_colon (quoted k (map plain s))) same
    ∙ ap in_quotes (chars_back s ∙ sym (plain_escape s (ap (λ k. list_all (is_inside k) s) (sym same) ∙ all)))

-- A string token that is shown is lexed as that string, and then what is shown behind it.
string_shown : (q : ℕ) (s : List ℕ) → is_quote q ≡ true → list_all (is_inside q) s ≡ true
    → (v : Bool) (more : List Token)
    → lex between (shown v (quoted q (map plain s) ∷ more)) ≡ token (string s) ∷ lex between (shown true more)
string_shown q s quote all v more =
    behind_a_space _
    ∙ ap (λ x. lex between (x ++ shown true more)) (string_json q s (is_mark_of is_colon (head_of more)) (q == 39) refl quote all)
    ∙ ap (λ l. lex between (34 ∷ l)) (append_assoc (escape s) (34 ∷ []) (shown true more))
    ∙ escaped s (shown true more)

-- A byte that continues a key is plain.
key_byte : (b : ℕ) → continues_key b ≡ true → is_plain b ≡ true
key_byte b h = grind (arith, rules)

-- Bytes that all continue a key are plain.
key_bytes : (k : List ℕ) → list_all continues_key k ≡ true → list_all is_plain k ≡ true
key_bytes [] h = refl
key_bytes (b ∷ bs) h =
    let both = and_parts (continues_key b) (list_all continues_key bs) h in
    rw (key_byte b both.0) (key_bytes bs both.1)

-- A bare key before a colon that is shown is lexed as a string of it, and then what follows.
word_shown : (k : List ℕ) → is_bare_key k ≡ true → (v : Bool) (more : List Token)
    → lex between (shown v (word k ∷ mark 58 ∷ more)) ≡ token (string k) ∷ lex between (shown true (mark 58 ∷ more))
word_shown k bare v more =
    let rest = shown true (mark 58 ∷ more) in
    let all = (and_parts (begins_with begins_key k) (list_all continues_key k) bare).1 in
    behind_a_space _
    ∙ ap (λ g. lex between ((if g then in_quotes k else k) ++ rest)) bare
    ∙ ap (λ l. lex between (34 ∷ l)) (append_assoc k (34 ∷ []) rest)
    ∙ at_string k rest (key_bytes k all)

-- A brace that opens an object, shown, is lexed as its start, and then what follows.
brace_shown : (v : Bool) (more : List Token)
    → lex between (shown v (mark 123 ∷ more)) ≡ token begin_object ∷ lex between (shown false more)
brace_shown v more = behind_a_space _ ∙ at_mark 123 (shown false more) refl

-- A bracket that opens an array, shown, is lexed as its start, and then what follows.
bracket_shown : (v : Bool) (more : List Token)
    → lex between (shown v (mark 91 ∷ more)) ≡ token begin_array ∷ lex between (shown false more)
bracket_shown v more = behind_a_space _ ∙ at_mark 91 (shown false more) refl

-- A colon that is shown is lexed as a colon, and then what follows.
colon_shown : (v : Bool) (more : List Token)
    → lex between (shown v (mark 58 ∷ more)) ≡ colon ∷ lex between (shown true more)
colon_shown v more = behind_a_space _ ∙ at_mark 58 (shown true more) refl

-- A bracket that closes an array, shown, is lexed as its end, and then what follows.
array_shown : (v : Bool) (more : List Token)
    → lex between (shown v (mark 93 ∷ more)) ≡ token end_array ∷ lex between (shown true more)
array_shown v more = behind_a_space _ ∙ at_mark 93 (shown true more) refl

-- A brace that closes an object, shown, is lexed as its end, and then what follows.
object_shown : (v : Bool) (more : List Token)
    → lex between (shown v (mark 125 ∷ more)) ≡ token end_object ∷ lex between (shown true more)
object_shown v more = behind_a_space _ ∙ at_mark 125 (shown true more) refl

-- A comma before what closes nothing is lexed as a comma, and then what follows.
comma_shown : (v : Bool) (more : List Token) → NoClosing more
    → lex between (shown v (mark 44 ∷ more)) ≡ comma ∷ lex between (shown false more)
comma_shown v more opens =
    let stays : is_trailing v (mark 44) (head_of more) ≡ false = rw opens refl in
    ap (λ g. lex between ((if g then [] else 32 ∷ 44 ∷ []) ++ shown false more)) stays
    ∙ behind_a_space _ ∙ at_mark 44 (shown false more) refl

-- a comma before a closing mark isn't written
array_trails : (more : List Token)
    → lex between (shown true (mark 44 ∷ mark 93 ∷ more)) ≡ token end_array ∷ lex between (shown true more)
array_trails more = array_shown false more

-- A trailing comma before an object's end is lexed as that end only, and then what follows.
object_trails : (more : List Token)
    → lex between (shown true (mark 44 ∷ mark 125 ∷ more)) ≡ token end_object ∷ lex between (shown true more)
object_trails more = object_shown false more

-- ---- strings and keys

-- A quoted text of bytes that stand for themselves is a string that the text begins with.
pub string_read : (q : ℕ) (s text inside behind rest : List ℕ) → is_quote q ≡ true
    → list_all (is_inside q) s ≡ true → text ≡ q ∷ inside → inside ≡ s ++ q ∷ behind → PassesTokens behind [] rest
    → HasString text s rest
string_read q s text inside behind rest quote all o e gap = record {
  spelled = quoted q (map plain s);
  passes = passes_then text behind rest (quoted q (map plain s) ∷ []) []
      (passes_quoted q s text inside behind quote all o e) gap;
  opens = refl;
  lexed = string_shown q s quote all;
}

-- A text that begins with a string begins with it as a key.
pub string_is_key : (text s rest : List ℕ) → HasString text s rest → HasKey text s rest
string_is_key text s rest h = record {
  spelled = h.spelled;
  passes = h.passes;
  opens = h.opens;
  lexed = λ v more. h.lexed v (mark 58 ∷ more);
}

-- A text that begins with a key without quotes, and then passes no token, begins with that key.
pub key_read : (text k behind rest : List ℕ) → BehindKey text k behind → PassesTokens behind [] rest → HasKey text k rest
key_read text k behind rest h gap = record {
  spelled = word k;
  passes = passes_then text behind rest (word k ∷ []) []
      (record { passed = piece (word k) ∷ []; splits = h.splits; tokens = refl }) gap;
  opens = refl;
  lexed = word_shown k h.bare;
}

-- ---- one value

-- A text that begins with a string gives that string as a value.
pub string_value : (depth : ℕ) (text rest : List ℕ) (s : Bor (List ℕ)) → HasString text s.now rest
    → GivesValue depth text (view (made.Text s)) rest
string_value depth text rest s h = record {
  ts = h.spelled ∷ [];
  passes = h.passes;
  opens = λ more. h.opens;
  gives = λ v more.
      value_of_string depth (shown v (h.spelled ∷ more)) (shown true more) s (h.lexed v more);
}

-- A text gives an array, where a bracket opens it and the items up to its end follow.
pub items_value : (depth : ℕ) (text inside rest : List ℕ) (v : Vec JsonTree Global) → 0 < depth
    → PassesTokens text (mark 91 ∷ []) inside → GivesItems (depth - 1) inside (items_view v.items) rest
    → GivesValue depth text (view (Array v)) rest
items_value depth text inside rest v some p g = record {
  ts = mark 91 ∷ g.ts;
  passes = passes_then text inside rest (mark 91 ∷ []) g.ts p g.passes;
  opens = λ more. refl;
  gives = λ u more.
      value_of_items depth (shown u (mark 91 ∷ (g.ts ++ more))) (shown false (g.ts ++ more)) (shown true more) v some
      (bracket_shown u (g.ts ++ more)) (g.gives false more);
}

-- A text gives an object, where a brace opens it and the members up to its end follow.
pub members_value : (depth : ℕ) (text inside rest : List ℕ) (m : Vec Member Global) → 0 < depth
    → PassesTokens text (mark 123 ∷ []) inside → GivesMembers (depth - 1) inside (members_view m.items) rest
    → GivesValue depth text (view (Object m)) rest
members_value depth text inside rest m some p g = record {
  ts = mark 123 ∷ g.ts;
  passes = passes_then text inside rest (mark 123 ∷ []) g.ts p g.passes;
  opens = λ more. refl;
  gives = λ u more.
      value_of_members depth (shown u (mark 123 ∷ (g.ts ++ more))) (shown false (g.ts ++ more)) (shown true more) m
      some (brace_shown u (g.ts ++ more)) (g.gives false more);
}

-- ---- items

-- A value that a text gives is one more item that the reader has taken.
pub item_taken : (depth : ℕ) (text rest : List ℕ) (old new : List JsonTree) (v : JsonTree)
    → GivesValue depth text (view v) rest → new ≡ old ++ v ∷ [] → TakesItem depth text old new rest
item_taken depth text rest old new v g e = record {
  ts = g.ts;
  passes = g.passes;
  opens = g.opens;
  adds = λ u more. record { added = v; grows = e; reads = g.gives u more };
}

-- the tokens of some items were passed
pub record ItemsRead (depth : ℕ) (text : List ℕ) (found : List JsonTree) (rest : List ℕ) : Type 0 where
  pub ts : List Token
  pub passes : PassesTokens text ts rest
  pub so : (v : Bool) (more : List Token) → ItemsSo depth (shown v (ts ++ more)) found (shown true more)

-- The first item that the reader has taken is an item whose tokens were passed.
pub items_first : (depth : ℕ) (text : List ℕ) (old new : List JsonTree) (rest : List ℕ) → old ≡ []
    → TakesItem depth text old new rest → ItemsRead depth text new rest
items_first depth text old new rest none t = record {
  ts = t.ts;
  passes = t.passes;
  so = λ v more. first_item depth (shown v (t.ts ++ more)) old new (shown true more) none (t.adds v more);
}

-- Behind items, a comma and one more item, the tokens of all of these items were passed.
pub items_next : (depth : ℕ) (text : List ℕ) (old new : List JsonTree) (mid behind rest : List ℕ)
    → ItemsRead depth text old mid → PassesTokens mid (mark 44 ∷ []) behind → TakesItem depth behind old new rest
    → ItemsRead depth text new rest
items_next depth text old new mid behind rest r p t = record {
  ts = r.ts ++ (mark 44 ∷ t.ts);
  passes = passes_then text mid rest r.ts (mark 44 ∷ t.ts) r.passes
      (passes_then mid behind rest (mark 44 ∷ []) t.ts p t.passes);
  so = λ v more.
      subst (λ l. ItemsSo depth (shown v l) new (shown true more)) (sym (append_assoc r.ts (mark 44 ∷ t.ts) more))
      (next_item depth (shown v (r.ts ++ (mark 44 ∷ (t.ts ++ more)))) old new (shown true (mark 44 ∷ (t.ts ++ more)))
      (shown false (t.ts ++ more)) (shown true more) (r.so v (mark 44 ∷ (t.ts ++ more)))
      (comma_shown true (t.ts ++ more) (t.opens more)) (t.adds false more));
}

-- Items that were read up to an array's end that was passed are given with it as a whole.
items_over : (depth : ℕ) (text : List ℕ) (found : List JsonTree) (mid rest : List ℕ) (us : List Token)
    → ItemsRead depth text found mid → PassesTokens mid us rest
    → ((more : List Token) → lex between (shown true (us ++ more)) ≡ token end_array ∷ lex between (shown true more))
    → GivesItems depth text (items_view found) rest
items_over depth text found mid rest us r p closes = record {
  ts = r.ts ++ us;
  passes = passes_then text mid rest r.ts us r.passes p;
  gives = λ v more.
      subst (λ l. HasItems depth (shown v l) (items_view found) (shown true more)) (sym (append_assoc r.ts us more))
      (items_end depth (shown v (r.ts ++ (us ++ more))) found (shown true (us ++ more)) (shown true more)
      (r.so v (us ++ more)) (closes more));
}

-- Items whose tokens were passed, and a closing bracket, are all items of the list.
pub items_close : (depth : ℕ) (text : List ℕ) (found : List JsonTree) (mid rest : List ℕ)
    → ItemsRead depth text found mid → PassesTokens mid (mark 93 ∷ []) rest → GivesItems depth text (items_view found) rest
items_close depth text found mid rest r p = items_over depth text found mid rest (mark 93 ∷ []) r p (array_shown true)

-- Items whose tokens were passed, a trailing comma and a closing bracket are all items of the list.
pub items_trail : (depth : ℕ) (text : List ℕ) (found : List JsonTree) (mid behind rest : List ℕ)
    → ItemsRead depth text found mid → PassesTokens mid (mark 44 ∷ []) behind → PassesTokens behind (mark 93 ∷ []) rest
    → GivesItems depth text (items_view found) rest
items_trail depth text found mid behind rest r p q =
    items_over depth text found mid rest (mark 44 ∷ mark 93 ∷ []) r
    (passes_then mid behind rest (mark 44 ∷ []) (mark 93 ∷ []) p q) array_trails

-- A closing bracket alone gives a list without items.
pub items_none : (depth : ℕ) (text : List ℕ) (found : List JsonTree) (rest : List ℕ) → found ≡ []
    → PassesTokens text (mark 93 ∷ []) rest → GivesItems depth text (items_view found) rest
items_none depth text found rest none p = record {
  ts = mark 93 ∷ [];
  passes = p;
  gives = λ v more.
      no_items_end depth (shown v (mark 93 ∷ more)) found (shown true more) none (array_shown v more);
}

-- ---- members

-- A key, a colon and a value that a text gives are one more member that the reader has taken.
pub member_taken : (depth : ℕ) (text mid behind rest : List ℕ) (old new : List Member) (k : Bor (List ℕ)) (v : JsonTree)
    → HasKey text k.now mid → PassesTokens mid (mark 58 ∷ []) behind → GivesValue depth behind (view v) rest
    → new ≡ old ++ (k, v) ∷ []
    → TakesMember depth text (members_view old) (members_view new) rest
member_taken depth text mid behind rest old new k v h p g e = record {
  ts = h.spelled ∷ mark 58 ∷ g.ts;
  passes = passes_then text mid rest (h.spelled ∷ []) (mark 58 ∷ g.ts) h.passes
      (passes_then mid behind rest (mark 58 ∷ []) g.ts p g.passes);
  opens = λ more. h.opens;
  adds = λ u more.
      member_added depth (shown u (h.spelled ∷ mark 58 ∷ (g.ts ++ more))) (shown true (mark 58 ∷ (g.ts ++ more)))
      (shown true (g.ts ++ more)) (shown true more) old new k v (h.lexed u (g.ts ++ more))
      (colon_shown true (g.ts ++ more)) (g.gives true more) e;
}

-- the tokens of some members were passed
pub record MembersRead (depth : ℕ) (text : List ℕ) (found : Members) (rest : List ℕ) : Type 0 where
  pub ts : List Token
  pub passes : PassesTokens text ts rest
  pub so : (v : Bool) (more : List Token) → MembersSo depth (shown v (ts ++ more)) found (shown true more)

-- The first member that the reader has taken is a member whose tokens were passed.
pub members_first : (depth : ℕ) (text : List ℕ) (old : List Member) (new : Members) (rest : List ℕ) → old ≡ []
    → TakesMember depth text (members_view old) new rest → MembersRead depth text new rest
members_first depth text old new rest none t = record {
  ts = t.ts;
  passes = t.passes;
  so = λ v more. first_member depth (shown v (t.ts ++ more)) old new (shown true more) none (t.adds v more);
}

-- Behind members, a comma and one more member, the tokens of all of these members were passed.
pub members_next : (depth : ℕ) (text : List ℕ) (old new : Members) (mid behind rest : List ℕ)
    → MembersRead depth text old mid → PassesTokens mid (mark 44 ∷ []) behind → TakesMember depth behind old new rest
    → MembersRead depth text new rest
members_next depth text old new mid behind rest r p t = record {
  ts = r.ts ++ (mark 44 ∷ t.ts);
  passes = passes_then text mid rest r.ts (mark 44 ∷ t.ts) r.passes
      (passes_then mid behind rest (mark 44 ∷ []) t.ts p t.passes);
  so = λ v more.
      subst (λ l. MembersSo depth (shown v l) new (shown true more)) (sym (append_assoc r.ts (mark 44 ∷ t.ts) more))
      (next_member depth (shown v (r.ts ++ (mark 44 ∷ (t.ts ++ more)))) old new
      (shown true (mark 44 ∷ (t.ts ++ more))) (shown false (t.ts ++ more)) (shown true more)
      (r.so v (mark 44 ∷ (t.ts ++ more))) (comma_shown true (t.ts ++ more) (t.opens more)) (t.adds false more));
}

-- Members that were read up to an object's end that was passed are given with it as a whole.
members_over : (depth : ℕ) (text : List ℕ) (found : Members) (mid rest : List ℕ) (us : List Token)
    → MembersRead depth text found mid → PassesTokens mid us rest
    → ((more : List Token) → lex between (shown true (us ++ more)) ≡ token end_object ∷ lex between (shown true more))
    → GivesMembers depth text found rest
members_over depth text found mid rest us r p closes = record {
  ts = r.ts ++ us;
  passes = passes_then text mid rest r.ts us r.passes p;
  gives = λ v more.
      subst (λ l. HasMembers depth (shown v l) found (shown true more)) (sym (append_assoc r.ts us more))
      (members_end depth (shown v (r.ts ++ (us ++ more))) found (shown true (us ++ more)) (shown true more)
      (r.so v (us ++ more)) (closes more));
}

-- Members whose tokens were passed, and a closing brace, are all members of the object.
pub members_close : (depth : ℕ) (text : List ℕ) (found : Members) (mid rest : List ℕ)
    → MembersRead depth text found mid → PassesTokens mid (mark 125 ∷ []) rest → GivesMembers depth text found rest
members_close depth text found mid rest r p =
    members_over depth text found mid rest (mark 125 ∷ []) r p (object_shown true)

-- Members whose tokens were passed, a trailing comma and a closing brace are all of the object.
pub members_trail : (depth : ℕ) (text : List ℕ) (found : Members) (mid behind rest : List ℕ)
    → MembersRead depth text found mid → PassesTokens mid (mark 44 ∷ []) behind → PassesTokens behind (mark 125 ∷ []) rest
    → GivesMembers depth text found rest
members_trail depth text found mid behind rest r p q =
    members_over depth text found mid rest (mark 44 ∷ mark 125 ∷ []) r
    (passes_then mid behind rest (mark 44 ∷ []) (mark 125 ∷ []) p q) object_trails

-- A closing brace alone gives an object without members.
pub members_none : (depth : ℕ) (text : List ℕ) (found : List Member) (rest : List ℕ) → found ≡ []
    → PassesTokens text (mark 125 ∷ []) rest → GivesMembers depth text (members_view found) rest
members_none depth text found rest none p = record {
  ts = mark 125 ∷ [];
  passes = p;
  gives = λ v more.
      no_members_end depth (shown v (mark 125 ∷ more)) found (shown true more) none (object_shown v more);
}

-- ---- the whole text

-- A test that always passes, put between others, changes nothing.
same_test : (x y w : Bool) → (x && y && true && w) ≡ (x && y && w)
same_test true true w = refl
same_test true false w = refl
same_test false y w = refl

-- A test that fails at the end makes all fail.
no_test : (x y : Bool) → (x && y && false) ≡ false
no_test true true = refl
no_test true false = refl
no_test false y = refl

-- A test that fails, before one that always passes, makes all fail.
no_needless : (x y : Bool) → (x && y && false && true) ≡ false
no_needless true true = refl
no_needless true false = refl
no_needless false y = refl

-- The JSON behind a token is what is shown, where a comma may trail unless that token keeps it.
behind_shown : (b : Token) (ts : List Token)
    → json_behind (Some b) ts ≡ shown (not (is_mark_of keeps_comma (Some b))) ts
behind_shown b [] = refl
behind_shown b (t ∷ ts) =
    let one = 32 ∷ token_json (is_mark_of is_colon (head_of ts)) t in
    ap₂ (λ g l. (if g then [] else one) ++ l)
    (same_test (is_mark_of is_comma (Some t)) (is_mark_of is_closing (head_of ts)) (not (is_mark_of keeps_comma (Some b))))
    (behind_shown t ts)

-- The JSON of tokens behind nothing is lexed as they are when they are shown.
all_shown : (ts : List Token) → lex between (json_behind None ts) ≡ lex between (shown false ts)
all_shown [] = refl
all_shown (t ∷ ts) =
    let one = token_json (is_mark_of is_colon (head_of ts)) t in
    let closes = is_mark_of is_closing (head_of ts) in
    ap₂ (λ g l. lex between ((if g then [] else one) ++ l)) (no_needless (is_mark_of is_comma (Some t)) closes) (behind_shown t ts)
    ∙ sym (behind_a_space _)
    ∙ ap (λ g. lex between ((if g then [] else 32 ∷ one) ++ shown (not (is_mark_of keeps_comma (Some t))) ts))
    (sym (no_test (is_mark_of is_comma (Some t)) closes))

-- A text that gives a value, behind which nothing is left, has a JSON text that reads as that value.
pub text_gives : (text inside rest : List ℕ) (d : Data) → PassesTokens text [] inside → GivesValue 127 inside d rest
    → length rest ≡ 0 → JsonReads text d
text_gives text inside rest d gap g none =
    let all : PassesTokens text g.ts rest = passes_then text inside rest [] g.ts gap g.passes in
    let has : AreTokensOf text g.ts = record {
      ps = all.passed;
      whole = subst (SplitsInto text all.passed) (nil_from_length rest none) all.splits;
      tokens = all.tokens;
    } in
    let value : HasValue 127 (shown false g.ts) d [] =
    subst (λ l. HasValue 127 (shown false l) d []) (append-nil g.ts) (g.gives false []) in
    record {
      json = json_of_tokens g.ts;
      is_json = ap json_result (are_computed text g.ts has);
      reads = ap of_lexemes (ap (lex between) (sym (behind_nothing g.ts)) ∙ all_shown g.ts)
          ∙ text_read (shown false g.ts) [] [] d value refl refl;
    }
