use Rattle.std.proofs.Common.{◌≡◌, ◌∙◌, ap, arith, rules, subst, sym}
use Rattle.std.specs.Option.{option_copied}
use Rattle.cm_table.specs.Monikers.{HasOwnName, unhung}
use Rattle.cm_table.proofs.lemmas.monikers.Hanging.{AreHung, none_hung, next_own, one_more_hung}
use Rattle.cm_table.proofs.prepared.hang_all.Goals as goal

pub loop-slot-init : goal.loop-slot-init
loop-slot-init c =
    let same : c.deref_mut-slot-items.result.now ≡ c.args.slots.now.items = search rules in
    subst (λ l. AreHung (option_copied c.args.above) c.args.slots.now.items l 0) (sym same) (none_hung (option_copied c.args.above) c.args.slots.now.items c.requires)

pub hang_slot-requires : goal.hang_slot-requires
hang_slot-requires c =
    subst HasOwnName c.slot-item.is
    (next_own (option_copied c.args.above) c.args.slots.now.items c.loop-slot.slot-items c.loop-slot.slot-index c.slot-item.result c.loop-slot.invariant (omega arith) c.slot-item.is)

pub loop-slot-preserved : goal.loop-slot-preserved
loop-slot-preserved c =
    one_more_hung (option_copied c.args.above) c.args.slots.now.items c.loop-slot.slot-items c.loop-slot.slot-index c.slot-item.result c.hang_slot.new.slot c.loop-slot.invariant (omega arith) c.slot-item.is (c.hang_slot.ensures.same ∙ ap unhung (sym c.slot-item.is)) c.hang_slot.ensures.below
