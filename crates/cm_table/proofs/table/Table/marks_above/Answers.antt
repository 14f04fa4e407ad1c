use Rattle.std.proofs.Common.{◌≡◌, ◌∙◌, List, None, Some, sym, ap, subst}
use Rattle.cm_world.specs.Rows.{some_above}
use Rattle.cm_table.specs.declared.slot.Slot.{Slot}
use Rattle.cm_table.specs.Tree.{Tree}
use Rattle.cm_table.specs.Flags.{flag_in, has_mark}
use Rattle.cm_table.specs.Keys.{Increasing}
use Rattle.cm_table.specs.Slots.{inc_of, flat, slot_of}
use Rattle.cm_table.proofs.lemmas.slots.Rowed.{slots_rise}
use Rattle.cm_table.proofs.lemmas.flags.Flagging.{no_flag, flag-slot, flag-none}
use Rattle.cm_table.proofs.table.Table.marks_above.Goals as goal

pub slot_in-requires-clause-increasing : goal.slot_in-requires-clause-increasing
slot_in-requires-clause-increasing c =
    subst (λ l. Increasing inc_of (flat l)) (sym c.as_slice.ensures.value) (slots_rise c.self.inside.next_inc (flat c.self.inside.blocks.items) c.self.invariant.orderly.increasing)

pub returns-in-None : goal.returns-in-None
returns-in-None c = λ k.
    let ss : List Slot = flat c.self.inside.blocks.items in
    let none : slot_of ss c.args.inc ≡ None = sym (c.in-None.ensures ∙ ap (λ l. slot_of (flat l) c.args.inc) c.as_slice.ensures.value) in
    ap (flag_in k) c.none.ensures ∙ no_flag k
    ∙ sym (flag-none k ss c.args.inc none)
    ∙ c.self.invariant.flagged k c.args.inc
    ∙ ap (λ (t : Tree). some_above (has_mark k) t.rows c.args.inc) c.self.view_is

pub returns-in-Some : goal.returns-in-Some
returns-in-Some c = λ k.
    let ss : List Slot = flat c.self.inside.blocks.items in
    let here : slot_of ss c.args.inc ≡ Some c.in-Some.slot.now = sym (c.in-Some.ensures ∙ ap (λ l. slot_of (flat l) c.args.inc) c.as_slice.ensures.value) in
    sym (flag-slot k ss c.args.inc c.in-Some.slot.now here)
    ∙ c.self.invariant.flagged k c.args.inc
    ∙ ap (λ (t : Tree). some_above (has_mark k) t.rows c.args.inc) c.self.view_is
