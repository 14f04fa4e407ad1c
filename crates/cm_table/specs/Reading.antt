-- Inside.
-- Tests of single rows, by which proofs speak of searches in the tree, and the test that finds a builtin.
use Rattle.std.specs.Prelude.{ℕ, List, Bool, ◌&&◌, Option}
use Rattle.std.specs.Str.{bytes_eq}
use Rattle.cm_decl.specs.declared.kind.Kind.{Kind}
use Rattle.cm_decl.specs.Same.{same_kind}
use Rattle.cm_world.specs.declared.row.Row.{Row}
use Rattle.cm_world.specs.declared.frame.Builtin.{Builtin}
use Rattle.cm_world.specs.Rows.{has_parent}
use Rattle.cm_world.specs.RowsInside.{is_behind}

-- whether a row is a child of p that was made after the given one: the test in `child_behind`, for proofs
abbrev pub follows : ℕ → Option ℕ → Row → Bool
follows p after r = has_parent p r && is_behind after r.inc

-- whether a builtin has this kind and name
abbrev pub is_builtin : Kind → List ℕ → Builtin → Bool
is_builtin kind name b = same_kind b.kind kind && bytes_eq b.name name
