-- Inside.
-- How a prepared declaration keeps what a resolve takes over.
use Rattle.std.specs.Prelude.{◌≡◌, map}
use Rattle.cm_names.specs.declared.child.ChildName.{ChildName}
use Rattle.cm_decl.specs.Valid.{IsValid}
use Rattle.cm_world.specs.Rows.{child_of}
use Rattle.cm_world.specs.End.{child_row, child_rows}
use Rattle.cm_table.specs.ByName.{led_to}
use Rattle.cm_table.specs.Ready.{Ready}
use Rattle.cm_table.specs.Keys.{EachItem}
use Rattle.cm_table.specs.Slots.{rows_in}
use Rattle.cm_table.specs.Monikers.{HasOwnName}
use Rattle.cm_table.specs.Numbering.{IsBare}
use Rattle.cm_table.specs.declared.prepared.Prepared.TheInside.{Inside}

-- what contracts see of a prepared declaration's fields
abbrev pub ready_of : Inside → Ready
ready_of a = record { absolute = a.absolute; decl = a.decl }

-- what always holds of them: the declaration is valid, the second copies are copies, the rows of the
-- children are there with their names but without their numbers, and the index leads to them by the
-- numbers 0, 1 and so on
pub record IsPrepared (a : Inside) : Type 0 where
  pub valid : IsValid a.decl
  pub absolute : a.kept_absolute ≡ a.absolute
  pub decl : a.kept_decl ≡ a.decl
  pub children : rows_in a.children.items ≡ map (child_row 0 0) a.decl.children
  pub bare : EachItem IsBare a.children.items
  pub own : EachItem HasOwnName a.children.items
  pub kids : a.index.kids.items ≡ map (λ r. r.inc) (child_rows 0 0 a.decl.children)
  pub names : (c : ChildName) → led_to a.index.names c ≡ child_of (child_rows 0 0 a.decl.children) 0 c
