use Rattle.std.proofs.Common.{◌∙◌, ◌<◌, refl, get_or, length, arith}
use Rattle.std.proofs.lemmas.List.{get_or_default, length-set}
use Rattle.cm_lanes.proofs.lemmas.phases.Rounds.{meets_none, meets_more, meets_end, has_at}
use Rattle.cm_lanes.proofs.meeting.meet_each.Goals as goal

pub loop-other-init : goal.loop-other-init
loop-other-init g c = record { meets = meets_none c.args.manager.now.turn c.args.first.now c.args.others.now c.requires.first; long = refl }

pub meet_lanes-requires-clause-other : goal.meet_lanes-requires-clause-other
meet_lanes-requires-clause-other g c = has_at c.args.manager.now.turn _ _ _ _ c.loop-other.other-index c.other-item.result c.requires.others c.loop-other.invariant.meets c.loop-other-test.true

pub loop-other-preserved : goal.loop-other-preserved
loop-other-preserved g c =
    let lt : c.loop-other.other-index < length c.loop-other.others = omega (arith, c.loop-other.invariant.long, c.loop-other-test.true) in
    record {
      meets = meets_more c.loop-other.other-index c.args.first.now c.loop-other.first c.meet_lanes.new.one c.args.others.now c.loop-other.others (get_or c.loop-other.others c.loop-other.other-index c.other-item.result) c.meet_lanes.new.other lt c.loop-other.invariant.long (get_or_default c.loop-other.others c.loop-other.other-index c.other-item.result _ lt) c.loop-other.invariant.meets c.meet_lanes.ensures.met;
      long = length-set c.loop-other.others c.loop-other.other-index c.meet_lanes.new.other ∙ c.loop-other.invariant.long;
    }

pub returns : goal.returns
returns g c = record { meets = meets_end _ _ _ _ _ c.loop-other-test.false c.loop-other.auto.other-index-end c.loop-other.invariant.meets }
