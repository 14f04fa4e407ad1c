-- Promised.
-- How the name of a child is written.
use Rattle.std.specs.Prelude.{ℕ, List, ◌++◌, codes, Option, Some, None}
use Rattle.cm_names.specs.declared.child.ChildName.{ChildName}

-- a child's name, after its collection and a colon if it is in one
abbrev pub in_collection : Option (List ℕ) → List ℕ → List ℕ
in_collection None name = name
in_collection (Some coll) name = coll ++ (codes ":" ++ name)

-- how a child's name is written: `name`, or `collection:name`
abbrev pub child_text : ChildName → List ℕ
child_text child = in_collection child.coll child.name
