-- Inside.
-- The first offer to a new child that breaks a rule, looked for from the first on.
use Rattle.std.specs.Prelude.{◌≡◌, ℕ, List, [], Bool}
use Rattle.std.specs.List.{filter_map, range_with_len}
use Rattle.cm_names.specs.declared.child.ChildName.{ChildName}
use Rattle.cm_decl.specs.declared.decl.Decl.{Decl}
use Rattle.cm_decl.specs.declared.rows.Give.{Give}
use Rattle.cm_decl.specs.Dynamic.{bad_give_at}

-- none of the first n offers breaks a rule
abbrev pub NoneBad : Decl → (ChildName → Bool) → List ℕ → List Give → ℕ → Type 0
NoneBad d there coll gives n = filter_map (bad_give_at d there coll gives) (range_with_len 0 n) ≡ []
