-- Inside.
-- The children of a row that were created in its collections, one after another.
use Rattle.std.specs.Prelude.{ℕ, List, not, ◌&&◌, Option, Some, None, is_some, option_and_then, if◌then◌else◌}
use Rattle.std.specs.List.{filter_map}
use Rattle.cm_names.specs.declared.child.ChildName.{ChildName}
use Rattle.cm_decl.specs.declared.node.DynChild.{DynChild}
use Rattle.cm_world.specs.declared.row.Row.{Row}
use Rattle.cm_world.specs.RowsInside.{is_behind}
use Rattle.cm_world.specs.Create.{dynamic_of}

-- row r, named c, as a child in a collection, if it is one that isn't doomed
abbrev pub sibling_by : Row → ChildName → Option DynChild
sibling_by r c = if is_some c.coll && not r.doomed then Some (record { name = c; gives = r.gives }) else None

-- a row as a child in a collection of its parent, if it is one that isn't doomed
abbrev pub sibling_of : Row → Option DynChild
sibling_of r = option_and_then (sibling_by r) r.name

-- the children of p in collections after the given one that aren't doomed
abbrev pub siblings_behind : List Row → ℕ → Option ℕ → List DynChild
siblings_behind rows p after = filter_map (λ r. if is_behind after r.inc then dynamic_of p r else None) rows
