-- Inside.
-- Further facts of the rows of a realm tree, which proofs and deciders use.
use Rattle.std.specs.Prelude.{ℕ, List, Bool, true, false, not, ◌&&◌, IsTrue}
use Rattle.std.specs.Prelude.{nat_lt, Option, Some, None, find, position, option_map}
use Rattle.std.specs.Prelude.{option_and_then}
use Rattle.std.specs.List.{list_all}
use Rattle.std.specs.Str.{bytes_eq}
use Rattle.cm_names.specs.declared.child.ChildName.{ChildName}
use Rattle.cm_decl.specs.declared.decl.Decl.{Decl}
use Rattle.cm_decl.specs.declared.kind.Kind.{Kind}
use Rattle.cm_decl.specs.declared.origin.Origin.{Origin}
use Rattle.cm_decl.specs.declared.origin.Origin.TheVariants.{Child}
use Rattle.cm_decl.specs.declared.rows.Give.{Give}
use Rattle.cm_decl.specs.Graph.{is_strong}
use Rattle.cm_decl.specs.Same.{same_kind, same_child}
use Rattle.cm_world.specs.declared.row.Row.{Row}
use Rattle.cm_world.specs.declared.view.Facts.{Facts}
use Rattle.cm_world.specs.Rows.{row_of, decl_of, has_parent}
use Rattle.cm_world.specs.Offering.{told_index}

-- the name of a row; none for the root, and where it doesn't live
abbrev pub name_of : List Row → ℕ → Option ChildName
name_of rows i = option_and_then (λ r. r.name) (row_of rows i)

-- what the deciders of a shutdown are told of a row
abbrev pub facts_of : Row → Facts
facts_of r = record {
  parent = r.parent;
  on = r.on;
  pending = r.pending;
  closing = r.closing;
  doomed = r.doomed;
  shut = r.shut;
}

-- whether an incarnation is above the given one, or none is given
abbrev pub is_behind : Option ℕ → ℕ → Bool
is_behind None i = true
is_behind (Some j) i = nat_lt j i

-- the incarnation of p's first child above the given one, doomed ones too; by this the children are
-- gone through in order
abbrev pub child_behind : List Row → ℕ → Option ℕ → Option ℕ
child_behind rows p after = option_map (λ r. r.inc) (find (λ r. has_parent p r && is_behind after r.inc) rows)

-- the index of the first use with that path
abbrev pub use_index : Decl → List ℕ → Option ℕ
use_index d path = position (λ u. bytes_eq u.path path) d.uses

-- that of an incarnation, as it is told; none where it doesn't live or isn't resolved
abbrev pub use_at : List Row → ℕ → List ℕ → Option ℕ
use_at rows i path = option_map told_index (option_and_then (λ d. use_index d path) (decl_of rows i))

-- the same of the first expose of that kind and target name
abbrev pub expose_index : Decl → Kind → List ℕ → Option ℕ
expose_index d kind name = position (λ g. same_kind g.kind kind && bytes_eq g.target_name name) d.exposes

abbrev pub expose_at : List Row → ℕ → Kind → List ℕ → Option ℕ
expose_at rows i kind name =
    option_map told_index (option_and_then (λ d. expose_index d kind name) (decl_of rows i))

-- the same of the first capability of that kind and name
abbrev pub capability_index : Decl → Kind → List ℕ → Option ℕ
capability_index d kind name = position (λ c. same_kind c.kind kind && bytes_eq c.name name) d.capabilities

abbrev pub capability_at : List Row → ℕ → Kind → List ℕ → Option ℕ
capability_at rows i kind name =
    option_map told_index (option_and_then (λ d. capability_index d kind name) (decl_of rows i))

-- ---- what was given at a creation

-- whether a source is the child of that name
abbrev pub is_child_named : ChildName → Origin → Bool
is_child_named c (Child d) = same_child d c
is_child_named c _ = false

-- whether something comes strongly from it
abbrev pub comes_from : ChildName → Give → Bool
comes_from c g = is_strong g.dependency && is_child_named c g.from

-- whether nothing of these does
abbrev pub wants_none : ChildName → List Give → Bool
wants_none c gives = list_all (λ g. not (comes_from c g)) gives

-- nothing that a row was given when it was created comes strongly from a child of that name
abbrev pub IsUnwanted : List Row → ChildName → Type 0
IsUnwanted rows c = IsTrue (list_all (λ r. wants_none c r.gives) rows)
