use Rattle.std.proofs.Common.{◌∙◌, List, sym, ap, map, Some, inl, flat_map}
use Rattle.cm_lanes.specs.Script.{AnsweredLine}
use Rattle.cm_lanes.specs.ScriptInside.{said_of}
use Rattle.cm_lanes.specs.Lanes.{RanOrNot}
use Rattle.cm_lanes.proofs.lemmas.ends.Ending.{are_lanes, told_each, ran_by, said_either, some_lane, back_sixteen, back_ended, back_gates}
use Rattle.cm_lanes.proofs.lanes.run_lanes.Goals as goal

pub run_all-lanes-requires-clause-lanes : goal.run_all-lanes-requires-clause-lanes
run_all-lanes-requires-clause-lanes g c κs within = are_lanes c.args.manager.now.turn c.make_desks-lanes.result.items c.args.passes c.requires.passes c.make_desks-lanes.ensures.passes_are

pub hand_back-requires-clause-has : goal.hand_back-requires-clause-has
hand_back-requires-clause-has g c kept =
    let are = are_lanes c.args.manager.now.turn c.make_desks-lanes.result.items c.args.passes c.requires.passes c.make_desks-lanes.ensures.passes_are in
    let ran = c.run_all-lanes.ensures.ran in
    record {
      answered = ran.answered;
      lines_are = ran.lines;
      each = told_each g.G.Gates.log g.G.Gates.faults _ _ _ _ ran c.args.passes c.args.gates _ c.clear_desks-parts.result are.count c.make_desks-lanes.ensures c.new_queues-queues.ensures.none c.clear_desks-parts.ensures kept;
    }

pub returns : goal.returns
returns g c =
    let are = are_lanes c.args.manager.now.turn c.make_desks-lanes.result.items c.args.passes c.requires.passes c.make_desks-lanes.ensures.passes_are in
    let ran = c.run_all-lanes.ensures.ran in
    let parts = c.clear_desks-parts.ensures in
    let said = said_either c.clear_desks-parts.result.lost c.hand_back.result.said (flat_map (λ (p : List AnsweredLine). map said_of p) ran.answered) c.hand_back.ensures.lost
    (λ kept. c.hand_back.ensures.said (record {
      answered = ran.answered;
      lines_are = ran.lines;
      each = told_each g.G.Gates.log g.G.Gates.faults _ _ _ _ ran c.args.passes c.args.gates _ c.clear_desks-parts.result are.count c.make_desks-lanes.ensures c.new_queues-queues.ensures.none parts kept;
    })) in
    let all : RanOrNot g.G.Gates.log g.G.Gates.faults c.args.manager.now.manifests c.args.phases.now c.args.passes c.args.gates c.hand_back.result = inl (ran_by g.G.Gates.log g.G.Gates.faults c.args.manager.now.manifests c.args.phases.now c.make_desks-lanes.result.items c.run_all-lanes.result.items ran c.args.passes c.args.gates c.hand_back.result are.count c.make_desks-lanes.ensures.passes_are c.make_desks-lanes.ensures.gates_are
    (sym parts.passes ∙ ap (map Some) (sym c.hand_back.ensures.passes)) (sym parts.gates ∙ sym c.hand_back.ensures.gates) said (some_lane c.make_desks-lanes.result.items are.count)) in
    record {
      ran = all;
      passes = back_sixteen _ _ _ _ c.args.manager.now.turn c.args.passes c.args.gates c.hand_back.result c.requires.gates c.requires.passes all;
      gates = back_gates _ _ _ _ c.args.passes c.args.gates c.hand_back.result c.requires.gates all;
      ended = back_ended _ _ _ _ c.args.manager.now.turn c.args.passes c.args.gates c.hand_back.result c.requires.gates c.requires.passes all;
    }
