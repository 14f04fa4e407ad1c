use Rattle.std.proofs.Common.{◌∙◌, refl, sym, subst}
use Rattle.cm_table.specs.Keys.{Filled}
use Rattle.cm_table.specs.Marking.{AreIndexed, BeginsAt, Going, GoesAnyway}
use Rattle.cm_table.specs.Slots.{flat, slots_in}
use Rattle.cm_table.proofs.lemmas.flags.Flagging.{indexed_alike}
use Rattle.cm_table.proofs.lemmas.flags.Marked.{started, gone_on, all_marked}
use Rattle.cm_table.proofs.marking.mark_below.Goals as goal

pub open_top-at-requires-clause-filled : goal.open_top-at-requires-clause-filled
open_top-at-requires-clause-filled c = subst (Filled slots_in) (sym c.as_slice.ensures.value) c.requires.filled

pub open_top-at-requires-clause-indexed : goal.open_top-at-requires-clause-indexed
open_top-at-requires-clause-indexed c = subst (λ l. AreIndexed c.args.next (flat l)) (sym c.as_slice.ensures.value) c.requires.indexed

pub mark-init : goal.mark-init
mark-init c = record {
  going = started c.args.kind (flat c.args.blocks.now.items) c.args.next c.args.top c.open_top-at.result c.requires.indexed.orderly c.requires.down
      (subst (λ l. BeginsAt c.args.kind (flat l) c.args.top c.open_top-at.result) c.as_slice.ensures.value c.open_top-at.ensures);
  full = c.requires.filled;
  len = refl;
  capacity = refl;
}

pub mark_one-at-requires-clause-indexed : goal.mark_one-at-requires-clause-indexed
mark_one-at-requires-clause-indexed c =
    indexed_alike (flat c.args.blocks.now.items) (flat c.mark.blocks.items) c.args.next c.mark.invariant.going.same c.requires.indexed

pub mark_one-at-requires-clause-within : goal.mark_one-at-requires-clause-within
mark_one-at-requires-clause-within c =
    subst (GoesAnyway c.args.kind (flat c.mark.blocks.items) c.args.top) c.in-Some.is c.mark.invariant.going.goes

pub mark-preserved : goal.mark-preserved
mark-preserved c = record {
  going = gone_on c.args.kind (flat c.args.blocks.now.items) (flat c.mark.blocks.items) (flat c.mark_one-at.new.blocks.items) c.args.top c.mark.at c.mark_one-at.result c.mark.invariant.going c.mark_one-at.ensures.turns;
  full = c.mark_one-at.ensures.filled;
  len = c.mark_one-at.ensures.len ∙ c.mark.invariant.len;
  capacity = c.mark_one-at.ensures.capacity ∙ c.mark.invariant.capacity;
}

pub returns-clause-marks : goal.returns-clause-marks
returns-clause-marks c =
    all_marked c.args.kind (flat c.args.blocks.now.items) (flat c.mark.blocks.items) c.args.next c.args.top c.requires.indexed.orderly
    (subst (Going c.args.kind c.args.top (flat c.args.blocks.now.items) (flat c.mark.blocks.items)) c.in_default.is c.mark.invariant.going)
