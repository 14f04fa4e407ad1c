-- Inside.
-- Laws of the answers, as statements. Functions of this crate promise them, and nothing is assumed.
use Rattle.std.specs.Prelude.{◌≡◌, ℕ, List, None, IsTrue}
use Rattle.cm_decl.specs.declared.rows.Give.{Give}
use Rattle.cm_world.specs.declared.row.Row.{Row}
use Rattle.cm_world.specs.Rows.{is_resolved, child_of}
use Rattle.cm_world.specs.Create.{dynamic_name}
use Rattle.cm_dynamic.specs.declared.create.MayCreate.TheVariants.{Yes}
use Rattle.cm_dynamic.specs.Replies.{TellsRoom, AnswersCreate}

-- every number of free rows is that of some limit, so the number says enough
abbrev pub EachRoomIsOfSomeLimit : Type 0
EachRoomIsOfSomeLimit = (rows : List Row) (free : ℕ) → (limit next : ℕ) × TellsRoom limit rows next free

-- the tree can take the row of a new child: the parent is resolved, and has no child of that name that
-- isn't doomed
pub record CanTakeChild (rows : List Row) (p : ℕ) (coll name : List ℕ) : Type 0 where
  pub resolved : IsTrue (is_resolved rows p)
  pub unused : child_of rows p (dynamic_name coll name) ≡ None

-- where a child may be created, the tree can take its row
abbrev pub ParentsCanTake : Type 0
ParentsCanTake =
    (rows : List Row) (free p : ℕ) (coll name : List ℕ) (gives : List Give)
    → AnswersCreate rows free p coll name gives Yes → CanTakeChild rows p coll name
