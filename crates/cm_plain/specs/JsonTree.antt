-- Inside.
-- The JSON value that a borrowed one stands for.
use Rattle.std.specs.Prelude.{ℕ, List, [], ◌∷◌, map, Option, Some, if◌then◌else◌}
use Rattle.std.specs.Borrow.{Bor}
use Rattle.std.specs.Str.{bytes_eq}
use Rattle.serde_json.specs.Data.{Data, null, boolean, number, string, array, object, Items, Members}
use Rattle.serde_json.specs.Data.{no_members, put}
use Rattle.serde_json.specs.View.{number_view, items_of}
use Rattle.cm_plain.specs.declared.tree.JsonTree.{JsonTree, fold-JsonTree}
use Rattle.cm_plain.specs.declared.tree.JsonTree.TheOpen.{JsonTree-F}

-- a member of an object, with its value seen as data
abbrev pub Seen : Type 0
Seen = Bor (List ℕ) × Data

-- the members beside these, in the order in which they stand; of a repeated key the last one counts
abbrev pub beside : Members → List Seen → Members
beside ms [] = ms
beside ms (m ∷ more) = beside (put m.0.now m.1 ms) more

-- the data of one level, with each value inside seen as its data
abbrev pub view_step : JsonTree-F Data → Data
view_step JsonTree-F.Null = null
view_step (JsonTree-F.Bool b) = boolean b
view_step (JsonTree-F.Number n) = number (number_view n)
view_step (JsonTree-F.Text s) = string s.now
view_step (JsonTree-F.Array v) = array (items_of v.items)
view_step (JsonTree-F.Object v) = object (beside no_members v.items)

-- the data that a value stands for
abbrev pub view : JsonTree → Data
view = fold-JsonTree Data view_step

-- the data that the items of an array stand for
abbrev pub items_view : List JsonTree → Items
items_view ts = items_of (map view ts)

-- the members that those of an object stand for
abbrev pub members_view : List (Bor (List ℕ) × JsonTree) → Members
members_view ms = beside no_members (map (λ m. (m.0, view m.1)) ms)

-- the value of a member with this key, and else what was found before it
abbrev pub member_or : Option Data → Seen → List ℕ → Option Data
member_or found m key = if bytes_eq m.0.now key then Some m.1 else found
