-- Inside.
-- What the work of an action takes from the tree.
use Rattle.std.specs.Prelude.{ℕ, List, [], filter, filter_map, if◌then◌else◌}
use Rattle.std.specs.Prelude.{Option, Some, None, option_and_then}
use Rattle.cm_decl.specs.declared.decl.Decl.{Decl}
use Rattle.cm_decl.specs.declared.rows.Child.{Child}
use Rattle.cm_decl.specs.Graph.{static_name}
use Rattle.cm_world.specs.declared.row.Row.{Row}
use Rattle.cm_world.specs.Rows.{row_of, child_of}

-- the incarnations of those of these declared children of row i that start together with it
abbrev pub eager_kids : List Row → ℕ → List Child → List ℕ
eager_kids rows i kids = filter_map (λ k. child_of rows i (static_name k.name)) (filter (λ k. k.eager) kids)

-- the children that start together with row i, by its declaration; none where it isn't resolved
abbrev pub eager_by : List Row → ℕ → Option Decl → List ℕ
eager_by rows i None = []
eager_by rows i (Some d) = eager_kids rows i d.children

-- the incarnation of a declared child of row i, if it starts together with it
abbrev pub eager_child : List Row → ℕ → Child → Option ℕ
eager_child rows i k = if k.eager then child_of rows i (static_name k.name) else None

-- the absolute URL of a row's parent, if it has a parent and that is resolved
abbrev pub above_url : List Row → Option ℕ → Option (List ℕ)
above_url rows parent = option_and_then (λ p. option_and_then (λ q. q.absolute) (row_of rows p)) parent
