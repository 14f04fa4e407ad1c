use Rattle.std.proofs.Common.{sym, ◌∙◌}
use Rattle.cm_lanes.proofs.lemmas.phases.Rounds.{met_both}
use Rattle.cm_lanes.proofs.meeting.meet_lanes.Goals as goal

pub returns : goal.returns
returns g c = record { met = met_both c.args.one.now c.args.other.now c.in-Some.pass c.in-Some-take.their_pass c.meet.new.a c.meet.new.b (sym c.take.ensures.value ∙ c.in-Some.is) (sym c.take-2.ensures.value ∙ c.in-Some-take.is) c.meet.ensures.first c.meet.ensures.second c.meet.ensures.one c.meet.ensures.own.0 c.meet.ensures.own.1 c.meet.ensures.longer }
