use Rattle.std.proofs.Common.{◌∙◌, ap, Option, false}
use Rattle.std.specs.Option.{option_map_or}
use Rattle.cm_table.specs.declared.slot.Slot.{Slot}
use Rattle.cm_table.specs.Flags.{flag_in}
use Rattle.cm_table.specs.Slots.{flat}
use Rattle.cm_table.proofs.lemmas.slots.Rowed.{slots_rise}
use Rattle.cm_table.proofs.marking.is_flagged.Goals as goal

pub slot_in-requires-clause-increasing : goal.slot_in-requires-clause-increasing
slot_in-requires-clause-increasing c = slots_rise c.args.next (flat c.args.blocks.now) c.requires.indexed.orderly.increasing

pub returns-in-None : goal.returns-in-None
returns-in-None c = ap (λ (o : Option Slot). option_map_or (λ (s : Slot). flag_in c.args.kind s.marks) o false) c.in-None.ensures

pub returns-in-Some : goal.returns-in-Some
returns-in-Some c = c.has.ensures ∙ ap (λ (o : Option Slot). option_map_or (λ (s : Slot). flag_in c.args.kind s.marks) o false) c.in-Some.ensures
