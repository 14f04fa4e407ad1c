use Rattle.std.proofs.Common.{◌∙◌, sym}
use Rattle.cm_table.specs.Slots.{flat, rows_in}
use Rattle.cm_table.proofs.lemmas.flags.Kids.{none_yet, one_more, all_seen, open_found, room_less}
use Rattle.cm_table.proofs.marking.open_behind.Goals as goal

pub seek-init : goal.seek-init
seek-init c = none_yet c.args.kind (flat c.args.blocks.now) c.args.parent c.args.after

pub seek-smaller : goal.seek-smaller
seek-smaller c = room_less (rows_in (flat c.args.blocks.now)) c.args.next c.args.parent c.in-Some.child c.seek.last c.requires.indexed.orderly c.in-Some.ensures

pub seek-preserved : goal.seek-preserved
seek-preserved c =
    one_more c.args.kind (flat c.args.blocks.now) c.args.next c.args.parent c.in-Some.child c.args.after c.seek.last c.requires.indexed.orderly c.in-Some.ensures
    (sym c.is_flagged-flagged.ensures ∙ c.if-not-flagged.false) c.seek.invariant

pub returns-then-not-flagged-clause-some : goal.returns-then-not-flagged-clause-some
returns-then-not-flagged-clause-some c =
    open_found c.args.kind (flat c.args.blocks.now) c.args.next c.args.parent c.in-Some.child c.seek.last c.requires.indexed.orderly c.in-Some.ensures
    (sym c.is_flagged-flagged.ensures ∙ c.if-not-flagged.true)

pub returns-clause-none : goal.returns-clause-none
returns-clause-none c = all_seen c.args.kind (flat c.args.blocks.now) c.args.parent c.args.after c.seek.last c.in_default.ensures c.seek.invariant
