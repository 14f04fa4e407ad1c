use Rattle.std.proofs.Common.{◌≡◌, ◌∙◌, List, Some, sym, ap, subst}
use Rattle.std.specs.Prelude.{option_and_then}
use Rattle.cm_world.specs.Rows.{moniker_of}
use Rattle.cm_table.specs.declared.slot.Slot.{Slot}
use Rattle.cm_table.specs.Tree.{Tree}
use Rattle.cm_table.specs.Keys.{Increasing}
use Rattle.cm_table.specs.Monikers.{kept_at}
use Rattle.cm_table.specs.Slots.{inc_of, flat, slot_of}
use Rattle.cm_table.proofs.lemmas.slots.Rowed.{slots_rise}
use Rattle.cm_table.proofs.lemmas.monikers.Standing.{kept_if}
use Rattle.cm_table.proofs.table.Table.kept_moniker.Goals as goal

pub slot_in-requires-clause-increasing : goal.slot_in-requires-clause-increasing
slot_in-requires-clause-increasing c =
    subst (λ l. Increasing inc_of (flat l)) (sym c.as_slice.ensures.value) (slots_rise c.self.inside.next_inc (flat c.self.inside.blocks.items) c.self.invariant.orderly.increasing)

pub returns-in-Some : goal.returns-in-Some
returns-in-Some c =
    let ss : List Slot = flat c.self.inside.blocks.items in
    let here : slot_of ss c.args.inc ≡ Some c.in-Some.slot.now = sym (c.in-Some.ensures ∙ ap (λ l. slot_of (flat l) c.args.inc) c.as_slice.ensures.value) in
    let kept : kept_at ss c.args.inc ≡ c.in-Some.slot.now.moniker = ap (option_and_then (λ (s : Slot). s.moniker)) here in
    kept_if c.as_ref.result c.in-Some.slot.now.moniker (moniker_of c.args.self.now.rows c.args.inc) c.as_ref.ensures.value
    (λ m h. c.self.invariant.standing c.args.inc m (kept ∙ h) ∙ ap (λ (t : Tree). moniker_of t.rows c.args.inc) c.self.view_is)
