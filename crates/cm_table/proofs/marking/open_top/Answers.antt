use Rattle.std.proofs.Common.{◌∙◌, sym, refl, inl, inr}
use Rattle.cm_table.specs.Slots.{flat}
use Rattle.cm_table.proofs.lemmas.slots.Rowed.{slots_rise}
use Rattle.cm_trees.proofs.rows.Rows.{is_some_by}
use Rattle.cm_table.proofs.lemmas.flags.Flagging.{flag-slot}
use Rattle.cm_table.specs.Slots.{slot_of}
use Rattle.cm_table.proofs.marking.open_top.Goals as goal

pub slot_in-requires-clause-increasing : goal.slot_in-requires-clause-increasing
slot_in-requires-clause-increasing c = slots_rise c.args.next (flat c.args.blocks.now) c.requires.indexed.orderly.increasing

pub returns-in-None : goal.returns-in-None
returns-in-None c = inr (sym c.in-None.ensures)

pub returns-then-has : goal.returns-then-has
returns-then-has c =
    inl (flag-slot c.args.kind (flat c.args.blocks.now) c.args.top c.in-Some.slot.now (sym c.in-Some.ensures) ∙ sym c.has.ensures ∙ c.if-has.true)

pub returns-else-has : goal.returns-else-has
returns-else-has c = (
  refl,
  is_some_by (slot_of (flat c.args.blocks.now) c.args.top) c.in-Some.slot.now (sym c.in-Some.ensures),
  flag-slot c.args.kind (flat c.args.blocks.now) c.args.top c.in-Some.slot.now (sym c.in-Some.ensures) ∙ sym c.has.ensures ∙ c.if-has.false,
)
