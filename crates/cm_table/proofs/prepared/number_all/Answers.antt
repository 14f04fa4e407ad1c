use Rattle.std.proofs.Common.{arith, ◌∙◌, ap, sym}
use Rattle.cm_table.specs.Numbering.{placed_slot}
use Rattle.cm_table.proofs.lemmas.slots.Numbers.{numbered_over_more}
use Rattle.cm_table.proofs.prepared.number_all.Goals as goal

pub loop-slot-preserved : goal.loop-slot-preserved
loop-slot-preserved c =
    let e = c.place_row.ensures ∙ ap (placed_slot c.args.parent c.loop-slot.next c.args.marks) (sym c.slot-item.is) in
    record {
      next = omega arith;
      items =
          rw (e, c.loop-slot.invariant.next)
          (numbered_over_more c.args.parent c.args.first c.args.marks c.args.slots.now.items c.loop-slot.slot-items c.loop-slot.slot-index c.slot-item.result
          (omega arith) c.loop-slot.invariant.items c.slot-item.is);
    }
