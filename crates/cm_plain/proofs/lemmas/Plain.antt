-- Plain texts: their lexemes, their tokens, and what the loops have read.
use Rattle.std.proofs.Common.{◌≡◌, ℕ, zero, suc, ◌+◌, ◌-◌, ◌<◌, ◌≤◌, List, [], ◌∷◌, ◌++◌, length, take, drop, get_or}
use Rattle.std.specs.Str.{IsUtf8, IsCharBoundary}
use Rattle.std.proofs.lemmas.Str.{IsCharBoundary-after_ascii}
use Rattle.std.proofs.Common.{Bool, true, false, cond, ◌||◌, ◌==◌, nat_lt, Some, Vec, Bor, Global}
use Rattle.std.proofs.Common.{take_while, refl, sym, ap, ap₂, ◌∙◌, subst, arith, rules}
use Rattle.std.proofs.lemmas.Bool.{and_parts, or_parts, not-true, eqb-true, eqb-false, ltb-false}
use Rattle.std.proofs.lemmas.List.{take-append-drop, nil_from_length, take_rest}
use Rattle.std.proofs.lemmas.List.Sums.{take_while-cons}
use Rattle.std.specs.List.{list_all}
use Rattle.json.specs.Token.{Token, key, end_array, end_object, begin_array, begin_object}
use Rattle.json.specs.Token as of_token
use Rattle.json.specs.Json.{parse_map, read_key, after_end_array, items, members, value}
use Rattle.json.specs.Lex.{Lexeme, token, comma, colon, class, operator, operator_lexeme, string_token, lex, lex_byte}
use Rattle.json.specs.Lex.{between, Place, fresh, after_value, after_comma, after_key, may_begin}
use Rattle.json.specs.Lex.{begins_colon, punctuate, tokens}
use Rattle.json.specs.Lex as of_lex
use Rattle.json.specs.Print.{escape}
use Rattle.json.proofs.Grammar.{value_is, value-begin_array, value-begin_object, read_key-shorter}
use Rattle.json.proofs.Printed.Strings.{escape_byte_plain, content-escape, lex-escape}
use Rattle.serde_json.specs.Data.{Data, array, object, Members, no_members, put}
use Rattle.serde_json.specs.Data as of_data
use Rattle.serde_json.specs.Read.{of_json, of_items, of_members, converted, read}
use Rattle.cm_plain.specs.JsonTree.{view, items_view, members_view}
use Rattle.cm_plain.specs.declared.tree.JsonTree.{JsonTree, Array, Object, the_lemmas}
use Rattle.cm_plain.specs.declared.tree.JsonTree as made
use Rattle.cm_plain.proofs.lemmas.Tree.{Member, view-Array, view-Object, members_push}
use Rattle.cm_text.specs.Bytes.{is_mark, is_space, begins_with}
use Rattle.cm_plain.specs.Plain.{is_plain, is_inside, begins, left, NoColon, HasValue, HasItems, HasMembers, AddsItem, AddsMember}
use Rattle.cm_plain.proofs.lemmas.Value.{array_read, object_read, item_read, items_over, member_read, members_over}
use Rattle.cm_plain.proofs.lemmas.Value.{value_shorter, no_end, items_before, items_are_before, one_more}
use Rattle.cm_plain.proofs.lemmas.Value.{none_before, whole_read}

-- ---- lexemes

-- The lexemes behind the byte of a space are those without it.
pub behind_a_space : (xs : List ℕ) → lex between (32 ∷ xs) ≡ lex between xs
unfolding lex
behind_a_space xs = refl

-- A byte of an operator has its lexeme before those of the rest.
pub at_mark : (c : ℕ) (t : List ℕ) → class c ≡ operator → lex between (c ∷ t) ≡ operator_lexeme c ∷ lex between t
unfolding lex
at_mark c t e = ap (λ k. lex_byte between k c t (λ m. lex m t)) e

-- A byte that is a space is of the class of spaces.
space_class : (b : ℕ) → is_space b ≡ true → class b ≡ of_lex.space
space_class b h =
    let no_quote : (b == 34) ≡ false = grind (arith, rules) in
    let no_backslash : (b == 92) ≡ false = grind (arith, rules) in
    let no_mark : is_mark b ≡ false = grind (arith, rules) in
    rw (no_quote, no_backslash, no_mark, h)

-- A byte of white space has no lexeme before those of the rest.
pub at_space : (b : ℕ) (t : List ℕ) → is_space b ≡ true → lex between (b ∷ t) ≡ lex between t
unfolding lex
at_space b t h = ap (λ k. lex_byte between k b t (λ m. lex m t)) (space_class b h)

-- A text that begins with a byte is this byte and its others.
pub first_of : (c : ℕ) (t : List ℕ) → begins c t ≡ true → t ≡ c ∷ take (length t - 1) (drop 1 t)
first_of c [] h = absurd (cc)
first_of c (x ∷ xs) h = ap₂ (λ a b. a ∷ b) (eqb-true x c h) (sym (take_rest (x ∷ xs) 1))

-- Without a space at its beginning a text has the same lexemes, and is shorter.
pub space_passed : (t rest : List ℕ) → begins_with is_space t ≡ true → rest ≡ drop 1 t
    → (lex between rest ≡ lex between t) × (length rest < length t)
space_passed [] rest h e = absurd (cc)
space_passed (x ∷ xs) rest h e =
    let same = ap length e in (ap (lex between) e ∙ sym (at_space x xs h), omega arith)

-- A text in UTF-8 that begins with a space may be cut behind it.
pub space_cut : (t : List ℕ) → IsUtf8 t → begins_with is_space t ≡ true → IsCharBoundary t 1
space_cut [] u h = absurd (cc)
space_cut (x ∷ xs) u h =
    let is : is_space x ≡ true = h in
    let small : x < 128 = grind (arith, rules) in
    IsCharBoundary-after_ascii (x ∷ xs) 0 u (omega arith) small

-- A text in UTF-8 that begins with a byte of ASCII may be cut behind it.
pub byte_cut : (c : ℕ) (t : List ℕ) → c < 128 → IsUtf8 t → begins c t ≡ true → IsCharBoundary t 1
byte_cut c [] small u h = absurd (cc)
byte_cut c (x ∷ xs) small u h =
    let same = eqb-true x c h in
    IsCharBoundary-after_ascii (x ∷ xs) 0 u (omega arith) (subst (λ b. b < 128) (sym same) small)

-- A text that begins with a byte is this byte and what is left without it.
pub byte_behind : (c : ℕ) (t rest : List ℕ) → begins c t ≡ true → rest ≡ drop 1 t → t ≡ c ∷ rest
byte_behind c [] rest h e = absurd (cc)
byte_behind c (x ∷ xs) rest h e = ap₂ (λ a b. a ∷ b) (eqb-true x c h) (sym e)

-- The lexemes of a text that begins with a mark are the mark's, and then those of the rest.
pub mark_passed : (c : ℕ) (t rest : List ℕ) → class c ≡ operator → t ≡ c ∷ rest
    → lex between t ≡ operator_lexeme c ∷ lex between rest
mark_passed c t rest e h = ap (lex between) h ∙ at_mark c rest e

-- Where a quote begins what is left, it stands at that place, within the text, before the rest.
closes : (q : ℕ) (t : List ℕ) (n : ℕ) → begins q (drop n t) ≡ true
    → (n < length t) × (get_or t n 0 ≡ q) × (drop n t ≡ q ∷ drop (suc n) t)
closes q [] zero h = absurd (cc)
closes q [] (suc n) h = absurd (cc)
closes q (x ∷ xs) zero h = (omega arith, eqb-true x q h, ap (λ b. b ∷ xs) (eqb-true x q h))
closes q (x ∷ xs) (suc n) h =
    let there = closes q xs n h in
    let within = there.0 in
    (omega arith, there.1, there.2)

-- the quote that closes a string stands behind the bytes that stand for themselves
pub closes_at : (q : ℕ) (bytes t closed : List ℕ) (n : ℕ) → bytes ≡ t
    → closed ≡ take (length bytes - n) (drop n bytes) → begins q closed ≡ true
    → (n < length t) × (get_or t n 0 ≡ q) × (drop n t ≡ q ∷ drop (suc n) t)
closes_at q bytes t closed n v c h =
    closes q t n (ap (λ l. begins q (drop n l)) (sym v) ∙ ap (begins q) (sym (take_rest bytes n) ∙ sym c) ∙ h)

-- A text with a quote at an index is what comes before it, the quote, and what comes behind it.
pub string_split : (q : ℕ) (t s rest : List ℕ) (n : ℕ) → drop n t ≡ q ∷ drop (suc n) t → s ≡ take n t
    → rest ≡ drop (n + 1) t → t ≡ s ++ q ∷ rest
string_split q t s rest n e p r =
    let next : suc n ≡ n + 1 = omega arith in
    sym (take-append-drop n t)
    ∙ ap₂ (λ a b. a ++ b) (sym p) (e ∙ ap (λ k. q ∷ drop k t) next ∙ ap (λ l. q ∷ l) (sym r))

-- A string of plain bytes is escaped as it stands.
pub plain_escape : (s : List ℕ) → list_all is_plain s ≡ true → escape s ≡ s
plain_escape [] h = refl
plain_escape (x ∷ s) h =
    let both = and_parts (is_plain x) (list_all is_plain s) h in
    let none = or_parts ((x == 34) || (x == 92)) (nat_lt x 32) (not-true _ both.0) in
    let tests = or_parts (x == 34) (x == 92) none.0 in
    ap₂ (λ a b. a ++ b)
    (escape_byte_plain x (eqb-false x 34 tests.0) (eqb-false x 92 tests.1) (ltb-false x 32 none.1))
    (plain_escape s both.1)

-- The lexemes of a quoted string of plain bytes are its token, and then those behind the quote.
pub at_string : (s r : List ℕ) → list_all is_plain s ≡ true
    → lex between (34 ∷ (s ++ 34 ∷ r)) ≡ token (of_token.string s) ∷ lex between r
unfolding lex
at_string s r h =
    let e : s ++ 34 ∷ r ≡ escape s ++ 34 ∷ r = ap (λ a. a ++ 34 ∷ r) (sym (plain_escape s h)) in
    ap (λ l. lex between (34 ∷ l)) e
    ∙ ap₂ (λ o l. token (string_token o) ∷ l) (content-escape s r) (lex-escape s r)

-- With one item more in front, the leading run of those that pass has passed, where it did.
prefix_by : (p : ℕ → Bool) (x : ℕ) (xs : List ℕ) (b : Bool) → p x ≡ b
    → list_all p (take (length (take_while p xs)) xs) ≡ true
    → list_all p (take (length (cond b (x ∷ take_while p xs) [])) (x ∷ xs)) ≡ true
prefix_by p x xs true e h = rw e h
prefix_by p x xs false e h = refl

-- All items of the run of those that pass at a list's start pass.
prefix_passes : (p : ℕ → Bool) (xs : List ℕ) → list_all p (take (length (take_while p xs)) xs) ≡ true
prefix_passes p [] = refl
prefix_passes p (x ∷ xs) =
    subst (λ l. list_all p (take (length l) (x ∷ xs)) ≡ true) (sym (take_while-cons p x xs))
    (prefix_by p x xs (p x) refl (prefix_passes p xs))

-- what stands before the quote that closes a string stands for itself
pub inside_before : (q : ℕ) (bytes t s : List ℕ) (n : ℕ) → bytes ≡ t
    → n ≡ length (take_while (is_inside q) bytes) → s ≡ take n t → list_all (is_inside q) s ≡ true
inside_before q bytes t s n v len p =
    ap (list_all (is_inside q)) (p ∙ ap (take n) (sym v) ∙ ap (λ k. take k bytes) len) ∙ prefix_passes (is_inside q) bytes

-- The lexemes of a text are a string's token and the rest's, where it opens with the plain string.
pub string_passed : (text opened inside rest plain : List ℕ)
    → lex between opened ≡ lex between text → opened ≡ 34 ∷ inside → inside ≡ plain ++ 34 ∷ rest
    → list_all is_plain plain ≡ true → lex between text ≡ token (of_token.string plain) ∷ lex between rest
string_passed text opened inside rest plain same o i all =
    sym same ∙ ap (lex between) (o ∙ ap (λ l. 34 ∷ l) i) ∙ at_string plain rest all

-- ---- tokens

-- A string that no colon follows, where one may begin, is a value, and what follows is behind it.
string_next : (p : Place) (s : List ℕ) (ls : List Lexeme) → may_begin p ≡ true → begins_colon ls ≡ false
    → punctuate p (token (of_token.string s) ∷ ls) ≡ of_token.string s ∷ punctuate after_value ls
unfolding punctuate
string_next fresh s ls m e = rw e
string_next after_value s ls m e = absurd (cc)
string_next after_comma s ls m e = rw e
string_next after_key s ls m e = absurd (cc)

-- A string before a colon, where one may begin, is a key, and what follows stands at a fresh place.
key_next : (p : Place) (s : List ℕ) (ls : List Lexeme) → may_begin p ≡ true
    → punctuate p (token (of_token.string s) ∷ colon ∷ ls) ≡ key s ∷ punctuate fresh ls
unfolding punctuate
key_next fresh s ls m = refl
key_next after_value s ls m = absurd (cc)
key_next after_comma s ls m = refl
key_next after_key s ls m = absurd (cc)

-- An array's start, where one may begin, is itself, and what follows stands at a fresh place.
array_next : (p : Place) (ls : List Lexeme) → may_begin p ≡ true
    → punctuate p (token begin_array ∷ ls) ≡ begin_array ∷ punctuate fresh ls
unfolding punctuate
array_next fresh ls m = refl
array_next after_value ls m = absurd (cc)
array_next after_comma ls m = refl
array_next after_key ls m = absurd (cc)

-- An object's start, where one may begin, is itself, and what follows stands at a fresh place.
object_next : (p : Place) (ls : List Lexeme) → may_begin p ≡ true
    → punctuate p (token begin_object ∷ ls) ≡ begin_object ∷ punctuate fresh ls
unfolding punctuate
object_next fresh ls m = refl
object_next after_value ls m = absurd (cc)
object_next after_comma ls m = refl
object_next after_key ls m = absurd (cc)

-- A comma behind a value is no token, and what follows stands behind a comma.
comma_next : (ls : List Lexeme) → punctuate after_value (comma ∷ ls) ≡ punctuate after_comma ls
unfolding punctuate
comma_next ls = refl

-- An array's end behind a value is itself, and what follows stands behind a value.
array_ends : (ls : List Lexeme) → punctuate after_value (token end_array ∷ ls) ≡ end_array ∷ punctuate after_value ls
unfolding punctuate
array_ends ls = refl

-- An array's end at a fresh place is itself, and what follows stands behind a value.
array_is_empty : (ls : List Lexeme) → punctuate fresh (token end_array ∷ ls) ≡ end_array ∷ punctuate after_value ls
unfolding punctuate
array_is_empty ls = refl

-- An object's end behind a value is itself, and what follows stands behind a value.
object_ends : (ls : List Lexeme) → punctuate after_value (token end_object ∷ ls) ≡ end_object ∷ punctuate after_value ls
unfolding punctuate
object_ends ls = refl

-- An object's end at a fresh place is itself, and what follows stands behind a value.
object_is_empty : (ls : List Lexeme) → punctuate fresh (token end_object ∷ ls) ≡ end_object ∷ punctuate after_value ls
unfolding punctuate
object_is_empty ls = refl

-- Behind a value and nothing else there is no token.
nothing_left : punctuate after_value [] ≡ []
unfolding punctuate
nothing_left = refl

-- ---- one value

-- A text whose first lexeme is a string's token begins with that string as a value.
pub value_of_string : (depth : ℕ) (text rest : List ℕ) (s : Bor (List ℕ))
    → lex between text ≡ token (of_token.string s.now) ∷ lex between rest
    → HasValue depth text (view (made.Text s)) rest
value_of_string depth text rest s e p m free =
    let seen : view (made.Text s) ≡ of_data.string s.now = search (rules, the_lemmas) in
    let ts : left p text ≡ of_token.string s.now ∷ left after_value rest =
    ap (punctuate p) e ∙ string_next p s.now (lex between rest) m free in
    ap (converted of_json) (ap (value depth) ts ∙ value_is depth _) ∙ ap (λ d. Some (d, left after_value rest)) (sym seen)

-- A text that opens a list, and has its items up to the end behind that, begins with that array.
pub value_of_items : (depth : ℕ) (text inside rest : List ℕ) (v : Vec JsonTree Global) → 0 < depth
    → lex between text ≡ token begin_array ∷ lex between inside
    → HasItems (depth - 1) inside (items_view v.items) rest → HasValue depth text (view (Array v)) rest
value_of_items depth text inside rest v some e h p m free =
    let ts : left p text ≡ begin_array ∷ left fresh inside =
    ap (punctuate p) e ∙ array_next p (lex between inside) m in
    ap (converted of_json) (ap (value depth) ts ∙ value-begin_array depth (left fresh inside) some)
    ∙ array_read (items (value (depth - 1)) (length (left fresh inside)) (left fresh inside))
    ∙ ap (parse_map array) h ∙ ap (λ d. Some (d, left after_value rest)) (sym (view-Array v))

-- A text that opens an object, and has its members up to the end behind that, begins with that object.
pub value_of_members : (depth : ℕ) (text inside rest : List ℕ) (m : Vec Member Global) → 0 < depth
    → lex between text ≡ token begin_object ∷ lex between inside
    → HasMembers (depth - 1) inside (members_view m.items) rest → HasValue depth text (view (Object m)) rest
value_of_members depth text inside rest m some e h p may free =
    let ts : left p text ≡ begin_object ∷ left fresh inside =
    ap (punctuate p) e ∙ object_next p (lex between inside) may in
    ap (converted of_json) (ap (value depth) ts ∙ value-begin_object depth (left fresh inside) some)
    ∙ object_read (members (value (depth - 1)) (length (left fresh inside)) (left fresh inside))
    ∙ ap (parse_map object) h ∙ ap (λ d. Some (d, left after_value rest)) (sym (view-Object m))

-- ---- items

-- what is left gives the items behind those that were found
pub record ItemsFrom (depth : ℕ) (text : List ℕ) (found : List JsonTree) (ts : List Token) : Type 0 where
  pub turns : ℕ
  pub enough : length ts ≤ turns
  pub same : converted of_items (items (value depth) (length (left fresh text)) (left fresh text))
      ≡ parse_map (items_before found) (converted of_items (items (value depth) turns ts))

-- so it is behind an item, unless a colon is next
abbrev pub ItemsSo : ℕ → List ℕ → List JsonTree → List ℕ → Type 0
ItemsSo depth text found rest = NoColon rest → ItemsFrom depth text found (left after_value rest)

-- With one item read where one may begin, what is left gives the items behind it and those before.
item_turn : (depth : ℕ) (text here : List ℕ) (p : Place) (old new : List JsonTree) (rest : List ℕ)
    → may_begin p ≡ true → ItemsFrom depth text old (left p here) → AddsItem depth here old new rest
    → ItemsSo depth text new rest
item_turn depth text here p old new rest m so adds free =
    let ts = left p here in
    let r = left after_value rest in
    let d = view adds.added in
    let turned : converted of_json (value depth ts) ≡ Some (d, r) = adds.reads p m free in
    let less : length r < length ts = value_shorter depth ts r d turned in
    let enough = so.enough in
    record {
      turns = so.turns - 1;
      enough = omega arith;
      same = so.same
          ∙ ap (parse_map (items_before old))
          (item_read (value depth) so.turns ts r d (omega arith) (no_end depth ts r d turned) turned)
          ∙ one_more old adds.added _
          ∙ ap (λ vs. parse_map (items_before vs) (converted of_items (items (value depth) (so.turns - 1) r)))
          (sym adds.grows);
    }

-- What is left behind the first item gives the items behind it.
pub first_item : (depth : ℕ) (text : List ℕ) (old new : List JsonTree) (rest : List ℕ) → old ≡ []
    → AddsItem depth text old new rest → ItemsSo depth text new rest
first_item depth text old new rest none adds =
    let all = converted of_items (items (value depth) (length (left fresh text)) (left fresh text)) in
    item_turn depth text text fresh old new rest refl
    (record {
      turns = length (left fresh text);
      enough = omega arith;
      same = none_before all ∙ ap (λ vs. parse_map (items_before vs) all) (sym none);
    })
    adds

-- What is left behind a comma and one more item gives the items behind those that were found.
pub next_item : (depth : ℕ) (text : List ℕ) (old new : List JsonTree) (mid behind rest : List ℕ)
    → ItemsSo depth text old mid → lex between mid ≡ comma ∷ lex between behind
    → AddsItem depth behind old new rest → ItemsSo depth text new rest
next_item depth text old new mid behind rest so e adds =
    let moved : left after_value mid ≡ left after_comma behind =
    ap (punctuate after_value) e ∙ comma_next (lex between behind) in
    item_turn depth text behind after_comma old new rest refl
    (subst (ItemsFrom depth text old) moved (so (ap begins_colon e))) adds

-- Items that were found, with the closing bracket next, are all items of the list.
pub items_end : (depth : ℕ) (text : List ℕ) (found : List JsonTree) (mid rest : List ℕ)
    → ItemsSo depth text found mid → lex between mid ≡ token end_array ∷ lex between rest
    → HasItems depth text (items_view found) rest
items_end depth text found mid rest so e =
    let here = so (ap begins_colon e) in
    let r = left after_value rest in
    let ts : left after_value mid ≡ end_array ∷ r = ap (punctuate after_value) e ∙ array_ends (lex between rest) in
    here.same
    ∙ ap (parse_map (items_before found))
    (items_over (value depth) here.turns (left after_value mid) r here.enough (ap after_end_array ts))
    ∙ ap (λ ds. Some (ds, r)) (items_are_before found)

-- A text whose first lexeme is the closing bracket has no items.
pub no_items_end : (depth : ℕ) (text : List ℕ) (found : List JsonTree) (rest : List ℕ) → found ≡ []
    → lex between text ≡ token end_array ∷ lex between rest → HasItems depth text (items_view found) rest
no_items_end depth text found rest none e =
    let r = left after_value rest in
    let ts : left fresh text ≡ end_array ∷ r = ap (punctuate fresh) e ∙ array_is_empty (lex between rest) in
    items_over (value depth) (length (left fresh text)) (left fresh text) r (omega arith) (ap after_end_array ts)
    ∙ ap (λ vs. Some (items_view vs, r)) (sym none)

-- ---- members

-- what is left gives the members beside those that were found
pub record MembersFrom (depth : ℕ) (text : List ℕ) (found : Members) (ts : List Token) : Type 0 where
  pub turns : ℕ
  pub enough : length ts ≤ turns
  pub same : converted (λ ms. of_members ms no_members)
      (members (value depth) (length (left fresh text)) (left fresh text))
      ≡ converted (λ ms. of_members ms found) (members (value depth) turns ts)

-- so it is behind a member, unless a colon is next
abbrev pub MembersSo : ℕ → List ℕ → Members → List ℕ → Type 0
MembersSo depth text found rest = NoColon rest → MembersFrom depth text found (left after_value rest)

-- With one member read where one may begin, what is left gives the members behind it and before.
member_turn : (depth : ℕ) (text here : List ℕ) (p : Place) (old new : Members) (rest : List ℕ)
    → may_begin p ≡ true → MembersFrom depth text old (left p here) → AddsMember depth here old new rest
    → MembersSo depth text new rest
member_turn depth text here p old new rest m so adds free =
    let ts = left p here in
    let s = left fresh adds.behind in
    let r = left after_value rest in
    let named : ts ≡ key adds.key ∷ s = ap (punctuate p) adds.named ∙ key_next p adds.key (lex between adds.behind) m in
    let begun : read_key ts ≡ Some (Some adds.key, s) = ap read_key named in
    let turned : converted of_json (value depth s) ≡ Some (adds.added, r) = adds.reads fresh refl free in
    let less : length r < length s = value_shorter depth s r adds.added turned in
    let lesser : length s < length ts = read_key-shorter ts (Some adds.key) s begun in
    let enough = so.enough in
    record {
      turns = so.turns - 1;
      enough = omega arith;
      same = so.same
          ∙ member_read (value depth) old so.turns adds.key ts s r adds.added (omega arith) begun turned
          ∙ ap (λ f. converted (λ ms. of_members ms f) (members (value depth) (so.turns - 1) r)) (sym adds.grows);
    }

-- What is left behind the first member gives the members beside it.
pub first_member : (depth : ℕ) (text : List ℕ) (old : List Member) (new : Members) (rest : List ℕ) → old ≡ []
    → AddsMember depth text (members_view old) new rest → MembersSo depth text new rest
first_member depth text old new rest none adds =
    let all = members (value depth) (length (left fresh text)) (left fresh text) in
    member_turn depth text text fresh (members_view old) new rest refl
    (record {
      turns = length (left fresh text);
      enough = omega arith;
      same = ap (λ es. converted (λ ms. of_members ms (members_view es)) all) (sym none);
    })
    adds

-- What is left behind a comma and one more member gives the members beside those that were found.
pub next_member : (depth : ℕ) (text : List ℕ) (old new : Members) (mid behind rest : List ℕ)
    → MembersSo depth text old mid → lex between mid ≡ comma ∷ lex between behind
    → AddsMember depth behind old new rest → MembersSo depth text new rest
next_member depth text old new mid behind rest so e adds =
    let moved : left after_value mid ≡ left after_comma behind =
    ap (punctuate after_value) e ∙ comma_next (lex between behind) in
    member_turn depth text behind after_comma old new rest refl
    (subst (MembersFrom depth text old) moved (so (ap begins_colon e))) adds

-- Members that were found, with the closing brace next, are all members of the object.
pub members_end : (depth : ℕ) (text : List ℕ) (found : Members) (mid rest : List ℕ)
    → MembersSo depth text found mid → lex between mid ≡ token end_object ∷ lex between rest
    → HasMembers depth text found rest
members_end depth text found mid rest so e =
    let here = so (ap begins_colon e) in
    let r = left after_value rest in
    let ts : left after_value mid ≡ end_object ∷ r = ap (punctuate after_value) e ∙ object_ends (lex between rest) in
    here.same ∙ members_over (value depth) found here.turns (left after_value mid) r here.enough (ap read_key ts)

-- A text whose first lexeme is the closing brace has no members.
pub no_members_end : (depth : ℕ) (text : List ℕ) (found : List Member) (rest : List ℕ) → found ≡ []
    → lex between text ≡ token end_object ∷ lex between rest → HasMembers depth text (members_view found) rest
no_members_end depth text found rest none e =
    let r = left after_value rest in
    let ts : left fresh text ≡ end_object ∷ r = ap (punctuate fresh) e ∙ object_is_empty (lex between rest) in
    members_over (value depth) no_members (length (left fresh text)) (left fresh text) r (omega arith) (ap read_key ts)
    ∙ ap (λ es. Some (members_view es, r)) (sym none)

-- A string's token, a colon and a value are one more member of an object.
pub member_added : (depth : ℕ) (text mid behind rest : List ℕ) (old new : List Member) (k : Bor (List ℕ)) (v : JsonTree)
    → lex between text ≡ token (of_token.string k.now) ∷ lex between mid
    → lex between mid ≡ colon ∷ lex between behind → HasValue depth behind (view v) rest
    → new ≡ old ++ (k, v) ∷ []
    → AddsMember depth text (members_view old) (members_view new) rest
member_added depth text mid behind rest old new k v named marked reads put = record {
  key = k.now;
  behind = behind;
  added = view v;
  named = named ∙ ap (λ ls. token (of_token.string k.now) ∷ ls) marked;
  grows = ap members_view put ∙ members_push old (k, v);
  reads = reads;
}

-- ---- the whole text

-- A text that begins with a value, behind which no byte with a lexeme is left, is read as that value.
pub text_read : (text rest behind : List ℕ) (d : Data) → HasValue 127 text d rest
    → lex between behind ≡ lex between rest → length behind ≡ 0 → read text ≡ Some d
unfolding lex
text_read text rest behind d reads same none =
    let over : lex between rest ≡ [] = sym same ∙ ap (lex between) (nil_from_length behind none) in
    let nothing : left after_value rest ≡ [] = ap (punctuate after_value) over ∙ nothing_left in
    whole_read (value 127 (tokens text)) d
    (reads fresh refl (ap begins_colon over) ∙ ap (λ ts. Some (d, ts)) nothing)
