-- The grammar's loops, a turn at a time, over what the values stand for.
use Rattle.std.proofs.Common.{◌≡◌, ℕ, ◌-◌, ◌<◌, ◌≤◌, List, [], ◌∷◌, ◌++◌, length, Option, Some, None}
use Rattle.std.proofs.Common.{option_map, option_and_then, refl, ap, ◌∙◌}
use Rattle.json.specs.Token.{Token}
use Rattle.json.specs.Json as json
use Rattle.json.specs.Json.{Parse, parse_map, after_end_array, read_key, items, members, value, if_last}
use Rattle.json.proofs.Grammar.{items_end, items_more, members_end, members_more, value_is, skip_value-shorter}
use Rattle.serde_json.specs.Data.{Data, array, object, Items, no_items, item, Members, no_members, put}
use Rattle.serde_json.specs.Read.{of_json, of_items, of_members, converted}
use Rattle.cm_plain.specs.JsonTree.{view, items_view}
use Rattle.cm_plain.specs.declared.tree.JsonTree.{JsonTree}

-- ---- what is read stands for a value

-- What an option has, or, where it has nothing, what is given beside it.
abbrev pub pick : {A : Type 0} → A → Option A → A
pick d None = d
pick d (Some a) = a

-- Where a parse gives a value and a rest, the rest is the one given, and the value is there.
same_rest : {B : Type 0} (r s : List Token) (x : Option B) (b : B)
    → option_map {U = B × List Token} (λ y. (y, r)) x ≡ Some (b, s) → (r ≡ s) × (x ≡ Some b)
same_rest r s None b e = absurd (cc)
same_rest r s (Some y) b e =
    let same = ap (pick (y, r)) e in (ap (λ p. p.1) same, ap (λ p. Some p.0) same)

-- What was read and converted was read as something whose conversion it is.
pub some_read : {A B : Type 0} (f : A → Option B) (o : Option (A × List Token)) (b : B) (r : List Token)
    → converted f o ≡ Some (b, r) → (a : A) × (o ≡ Some (a, r)) × (f a ≡ Some b)
some_read f None b r e = absurd (cc)
some_read f (Some p) b r e =
    let both = same_rest p.1 r (f p.0) b e in (p.0, ap (λ s. Some (p.0, s)) both.0, both.1)

-- Mapping a value that may be there, and then its rest, is mapping the parse.
twice : {A B : Type 0} (g : A → B) (r : List Token) (x : Option A)
    → option_map (λ b. (b, r)) (option_map g x) ≡ parse_map g (option_map (λ a. (a, r)) x)
twice g r None = refl
twice g r (Some a) = refl

-- What was read as an array converts to the array of its converted items.
pub array_read : (o : Option (json.Items × List Token))
    → converted of_json (parse_map json.array o) ≡ parse_map array (converted of_items o)
array_read None = refl
array_read (Some p) = twice array p.1 (of_items p.0)

-- What was read as an object converts to the object of its converted members.
pub object_read : (o : Option (json.Members × List Token))
    → converted of_json (parse_map json.object o)
    ≡ parse_map object (converted (λ ms. of_members ms no_members) o)
object_read None = refl
object_read (Some p) = twice object p.1 (of_members p.0 no_members)

-- ---- a turn

-- Conversion of an item and others is the data of the item and the conversion of the others.
with_item : (j : json.Json) (d : Data) → of_json j ≡ Some d → (o : Option (json.Items × List Token))
    → converted of_items (parse_map (json.item j) o) ≡ parse_map (item d) (converted of_items o)
with_item j d e None = refl
with_item j d e (Some p) = rw e (twice (item d) p.1 (of_items p.0))

-- Conversion of a member and others goes on with the member's data put among the earlier ones.
with_member : (k : List ℕ) (j : json.Json) (d : Data) (old : Members) → of_json j ≡ Some d
    → (o : Option (json.Members × List Token))
    → converted (λ ms. of_members ms old) (parse_map (json.member k j) o)
    ≡ converted (λ ms. of_members ms (put k d old)) o
with_member k j d old e None = refl
with_member k j d old e (Some p) = rw e

module _ (p : Parse json.Json) where
  -- Where a value was read, the items are that value's and those of the rest.
  pub item_read : (n : ℕ) (ts r : List Token) (d : Data) → 0 < n → after_end_array ts ≡ None
      → converted of_json (p ts) ≡ Some (d, r)
      → converted of_items (items p n ts) ≡ parse_map (item d) (converted of_items (items p (n - 1) r))
  item_read n ts r d some going e =
      let j = some_read of_json (p ts) d r e in
      ap (converted of_items) (items_more p n ts r j.0 some going j.1) ∙ with_item j.0 d j.2 _

  -- Where the end of a list comes next, no items are left to read.
  pub items_over : (n : ℕ) (ts r : List Token) → length ts ≤ n → after_end_array ts ≡ Some r
      → converted of_items (items p n ts) ≡ Some (no_items, r)
  items_over n ts r enough e = ap (converted of_items) (items_end p n ts r enough e)

  -- Where a key and its value were read, the rest's members come beside the earlier ones with it put.
  pub member_read : (old : Members) (n : ℕ) (k : List ℕ) (ts s r : List Token) (d : Data) → 0 < n
      → read_key ts ≡ Some (Some k, s) → converted of_json (p s) ≡ Some (d, r)
      → converted (λ ms. of_members ms old) (members p n ts)
      ≡ converted (λ ms. of_members ms (put k d old)) (members p (n - 1) r)
  member_read old n k ts s r d some key e =
      let j = some_read of_json (p s) d r e in
      ap (converted (λ ms. of_members ms old)) (members_more p n k ts s r j.0 some key j.1)
      ∙ with_member k j.0 d old j.2 _

  -- Where the end of an object comes next, its members are those that were read before.
  pub members_over : (old : Members) (n : ℕ) (ts r : List Token) → length ts ≤ n
      → read_key ts ≡ Some (None, r) → converted (λ ms. of_members ms old) (members p n ts) ≡ Some (old, r)
  members_over old n ts r enough e = ap (converted (λ ms. of_members ms old)) (members_end p n ts r enough e)

-- a value takes a token or more, and begins with no closing bracket
pub value_shorter : (depth : ℕ) (ts r : List Token) (d : Data)
    → converted of_json (value depth ts) ≡ Some (d, r) → length r < length ts
value_shorter depth ts r d e =
    let j = some_read of_json (value depth ts) d r e in
    skip_value-shorter depth ts r (ap (option_map (λ p. p.1)) j.1)

-- No value begins with the end of an array.
begins_value : (depth : ℕ) (ts : List Token) (d : Data) (r : List Token)
    → converted of_json (value depth (Token.end_array ∷ ts)) ≡ Some (d, r) → ⊥
begins_value depth ts d r e =
    let none = ap (converted of_json) (value_is depth (Token.end_array ∷ ts)) in
    absurd (cc)

-- Where a value was read, the tokens don't begin with the end of a list.
pub no_end : (depth : ℕ) (ts r : List Token) (d : Data)
    → converted of_json (value depth ts) ≡ Some (d, r) → after_end_array ts ≡ None
no_end depth [] r d e = refl
no_end depth (Token.begin_object ∷ ts) r d e = refl
no_end depth (Token.end_object ∷ ts) r d e = refl
no_end depth (Token.begin_array ∷ ts) r d e = refl
no_end depth (Token.end_array ∷ ts) r d e = absurd (begins_value depth ts d r e)
no_end depth (Token.key s ∷ ts) r d e = refl
no_end depth (Token.string s ∷ ts) r d e = refl
no_end depth (Token.number s ∷ ts) r d e = refl
no_end depth (Token.boolean b ∷ ts) r d e = refl
no_end depth (Token.null ∷ ts) r d e = refl
no_end depth (Token.bad ∷ ts) r d e = refl

-- ---- a list that grows at its end

-- Items with those of some values before them.
abbrev pub items_before : List JsonTree → Items → Items
items_before [] rest = rest
items_before (v ∷ vs) rest = item (view v) (items_before vs rest)

-- The items of some values before none are what these values stand for.
pub items_are_before : (vs : List JsonTree) → items_before vs no_items ≡ items_view vs
items_are_before [] = refl
items_are_before (v ∷ vs) = ap (item (view v)) (items_are_before vs)

-- Items behind values and one more are those behind the values and then that one.
items_push : (vs : List JsonTree) (v : JsonTree) (rest : Items)
    → items_before vs (item (view v) rest) ≡ items_before (vs ++ v ∷ []) rest
items_push [] v rest = refl
items_push (w ∷ vs) v rest = ap (item (view w)) (items_push vs v rest)

-- Items behind a value's, which is behind others, are behind all of these values together.
pub one_more : (vs : List JsonTree) (v : JsonTree) (r : Option (Items × List Token))
    → parse_map (items_before vs) (parse_map (item (view v)) r) ≡ parse_map (items_before (vs ++ v ∷ [])) r
one_more vs v None = refl
one_more vs v (Some p) = ap (λ ds. Some (ds, p.1)) (items_push vs v p.0)

-- Items with no values before them are the same items.
pub none_before : (r : Option (Items × List Token)) → r ≡ parse_map (items_before []) r
none_before None = refl
none_before (Some p) = refl

-- ---- the whole text

-- The value that was read of all tokens, if none is left.
abbrev pub whole : Option (json.Json × List Token) → Option Data
whole o = option_and_then of_json (option_and_then (λ p. if_last p.0 p.1) o)

-- A value that was read with no token left is the value of the whole text.
pub whole_read : (o : Option (json.Json × List Token)) (d : Data) → converted of_json o ≡ Some (d, [])
    → whole o ≡ Some d
whole_read o d e = let j = some_read of_json o d [] e in ap whole j.1 ∙ j.2
