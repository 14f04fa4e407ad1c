-- Inside.
-- Changes of the indexes of children, slot by slot.
use Rattle.std.specs.Prelude.{◌≡◌, ℕ, ◌==◌, ◌&&◌, [], ◌∷◌, ◌++◌, Bool, Option, Some, None}
use Rattle.std.specs.Prelude.{if◌then◌else◌}
use Rattle.cm_names.specs.declared.child.ChildName.{ChildName}
use Rattle.cm_decl.specs.Same.{same_child}
use Rattle.cm_world.specs.Edits.{drop_first}
use Rattle.cm_table.specs.declared.slot.Slot.{Slot}
use Rattle.cm_table.specs.declared.slot.ChildIndex.{ChildIndex}
use Rattle.cm_table.specs.Keys.{Increasing}
use Rattle.cm_table.specs.Slots.{kids_of, named_in, base_of}

-- the value, but none where it is this number
abbrev pub unless : ℕ → Option ℕ → Option ℕ
unless i None = None
unless i (Some k) = if k == i then None else Some k

-- an index lists the children in increasing order
abbrev pub Rises : Option ChildIndex → Type 0
Rises None = Unit {0}
Rises (Some x) = Increasing (λ k. k) x.kids.items

-- the slot has the same row, marks and moniker, and an index that says the same
pub record IsSame (s t : Slot) : Type 0 where
  pub row : t.row ≡ s.row
  pub marks : t.marks ≡ s.marks
  pub moniker : t.moniker ≡ s.moniker
  pub base : base_of t.index ≡ base_of s.index
  pub kids : kids_of t.index ≡ kids_of s.index
  pub names : (c : ChildName) → named_in t.index c ≡ named_in s.index c

-- the slot has the same row, marks and moniker; that of incarnation p has one more child in its index,
-- by this name
pub record IsLinked (p : ℕ) (name : ChildName) (i : ℕ) (s t : Slot) : Type 0 where
  pub row : t.row ≡ s.row
  pub marks : t.marks ≡ s.marks
  pub moniker : t.moniker ≡ s.moniker
  pub base : base_of t.index ≡ base_of s.index
  pub kids : kids_of t.index ≡ (if s.row.inc == p then kids_of s.index ++ i ∷ [] else kids_of s.index)
  pub names : (c : ChildName) → named_in t.index c
      ≡ (if (s.row.inc == p) && same_child name c then Some i else named_in s.index c)

-- the slot has the same row, marks and moniker; its index leads to this incarnation by no name any
-- more, and where that is gone not at all
pub record IsUnlinked (i : ℕ) (gone : Bool) (s t : Slot) : Type 0 where
  pub row : t.row ≡ s.row
  pub marks : t.marks ≡ s.marks
  pub moniker : t.moniker ≡ s.moniker
  pub base : base_of t.index ≡ base_of s.index
  pub kids : kids_of t.index ≡ (if gone then drop_first (λ k. k == i) (kids_of s.index) else kids_of s.index)
  pub names : (c : ChildName) → named_in t.index c ≡ unless i (named_in s.index c)
