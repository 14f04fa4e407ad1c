-- Promised.
-- What is read of the rows of a realm tree. A row is named by its incarnation.
-- ---- single rows
use Rattle.std.specs.Prelude.{ℕ, zero, suc, List, [], ◌∷◌, ◌++◌, Bool, false, ◌&&◌, ◌||◌, not, ◌==◌}
use Rattle.std.specs.Prelude.{nat_eq, Option, Some, None, find, filter, is_some, length, option_map}
use Rattle.std.specs.Prelude.{option_and_then, option_to_list}
use Rattle.std.specs.List.{list_all}
use Rattle.std.specs.Option.{option_eq, option_map_or}
use Rattle.cm_names.specs.declared.child.ChildName.{ChildName}
use Rattle.cm_names.specs.declared.moniker.Moniker.{Moniker}
use Rattle.cm_decl.specs.declared.decl.Decl.{Decl}
use Rattle.cm_decl.specs.Same.{same_child}
use Rattle.cm_world.specs.declared.row.Row.{Row}

-- the row of an incarnation, if it lives
abbrev pub row_of : List Row → ℕ → Option Row
row_of rows i = find (λ r. r.inc == i) rows

-- whether an incarnation is in the tree
abbrev pub is_live : List Row → ℕ → Bool
is_live rows i = is_some (row_of rows i)

-- the declaration of a row, if it lives and is resolved
abbrev pub decl_of : List Row → ℕ → Option Decl
decl_of rows i = option_and_then (λ r. r.decl) (row_of rows i)

-- whether a row lives and has a declaration
abbrev pub is_resolved : List Row → ℕ → Bool
is_resolved rows i = is_some (decl_of rows i)

-- whether a row was shut down
abbrev pub is_shut : List Row → ℕ → Bool
is_shut rows i = option_map_or (λ r. r.shut) (row_of rows i) false

-- whether a row's program is on
abbrev pub is_on : List Row → ℕ → Bool
is_on rows i = option_map_or (λ r. r.on) (row_of rows i) false

-- whether the row itself is marked to be destroyed
abbrev pub has_doomed : List Row → ℕ → Bool
has_doomed rows i = option_map_or (λ r. r.doomed) (row_of rows i) false

-- whether the row itself is marked to be shut down
abbrev pub has_closing : List Row → ℕ → Bool
has_closing rows i = option_map_or (λ r. r.closing) (row_of rows i) false

-- whether this row or one of the n - 1 rows above it passes a test
abbrev pub at_or_above : ℕ → (Row → Bool) → List Row → Option ℕ → Bool
at_or_above zero passes rows i = false
at_or_above (suc n) passes rows None = false
at_or_above (suc n) passes rows (Some i) =
    elim (row_of rows i) as (λ _. Bool) [
      | None ↦ false
      | Some r ↦ passes r || at_or_above n passes rows r.parent
    ]

-- whether a row or one of its ancestors passes a test; they are at most as many as there are rows
abbrev pub some_above : (Row → Bool) → List Row → ℕ → Bool
some_above passes rows i = at_or_above (length rows) passes rows (Some i)

-- whether an instance counts as gone: it isn't live, or it or one above it is marked to be destroyed
abbrev pub is_gone : List Row → ℕ → Bool
is_gone rows i = not (is_live rows i) || some_above (λ r. r.doomed) rows i

-- whether a row is being shut down: it or one above it is marked so
abbrev pub is_closing : List Row → ℕ → Bool
is_closing rows i = some_above (λ r. r.closing) rows i

-- whether a row may start nothing more: it is being shut down, or is shut
abbrev pub is_closed : List Row → ℕ → Bool
is_closed rows i = is_closing rows i || is_shut rows i

-- the names from the root down to a row, at most n of them
abbrev pub names_to : ℕ → List Row → Option ℕ → List ChildName
names_to zero rows i = []
names_to (suc n) rows None = []
names_to (suc n) rows (Some i) =
    elim (row_of rows i) as (λ _. List ChildName) [
      | None ↦ []
      | Some r ↦ names_to n rows r.parent ++ option_to_list r.name
    ]

-- the moniker of a row: the names from the root down to it
abbrev pub moniker_of : List Row → ℕ → Moniker
moniker_of rows i = record { parts = names_to (length rows) rows (Some i) }

-- a row, its parent and so on up, at most n rows, by their incarnations
abbrev pub line_from : ℕ → List Row → Option ℕ → List ℕ
line_from zero rows i = []
line_from (suc n) rows None = []
line_from (suc n) rows (Some i) =
    elim (row_of rows i) as (λ _. List ℕ) [ None ↦ [] | Some r ↦ i ∷ line_from n rows r.parent ]

-- a row and its ancestors up to the root, by their incarnations
abbrev pub line_of : List Row → ℕ → List ℕ
line_of rows i = line_from (length rows) rows (Some i)

-- ---- down the tree

-- whether a row is the given one or below it
abbrev pub is_below : List Row → ℕ → ℕ → Bool
is_below rows top i = some_above (λ r. r.inc == top) rows i

-- the rows at and below one
abbrev pub subtree : List Row → ℕ → List Row
subtree rows top = filter (λ r. is_below rows top r.inc) rows

-- whether all rows at and below one are shut
abbrev pub is_subtree_shut : List Row → ℕ → Bool
is_subtree_shut rows top = list_all (λ r. r.shut) (subtree rows top)

-- whether a row is a child of p
abbrev pub has_parent : ℕ → Row → Bool
has_parent p r = option_eq nat_eq r.parent (Some p)

-- whether a row has this name
abbrev pub has_name : ChildName → Row → Bool
has_name c r = option_eq same_child r.name (Some c)

-- the incarnation of p's child of this name that isn't doomed
abbrev pub child_of : List Row → ℕ → ChildName → Option ℕ
child_of rows p c = option_map (λ r. r.inc) (find (λ r. has_parent p r && has_name c r && not r.doomed) rows)
