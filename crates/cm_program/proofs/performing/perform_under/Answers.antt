use Rattle.cm_program.proofs.lemmas.whole.Run.{performs_by, reported_by}
use Rattle.cm_program.proofs.lemmas.lanes.Sixteen.{sixteen_all}
use Rattle.cm_program.proofs.performing.perform_under.Goals as goal

pub close_realm-requires-clause-passes : goal.close_realm-requires-clause-passes
close_realm-requires-clause-passes g c =
    sixteen_all c.args.manager.turn c.run_lanes-passes.result.passes c.requires.count c.run_lanes-passes.ensures.passes

pub returns-clause-performs : goal.returns-clause-performs
returns-clause-performs g c f new =
    performs_by g.G.Gates.log g.G.Gates.faults c.args.manager.manifests c.args.manager.turn f c.args.phases.now c.args.passes c.args.gates c.run_lanes-passes.result c.close_realm.result c.performed_in.result
    new c.requires.gates c.run_lanes-passes.ensures.passes c.close_realm.ensures.closes c.close_realm.ensures.ended c.close_realm.ensures.frames c.performed_in.ensures.kept c.run_lanes-passes.ensures.ran
    c.performed_in.ensures.history c.performed_in.ensures.gates c.performed_in.ensures.said

pub returns-clause-reported : goal.returns-clause-reported
returns-clause-reported g c f new =
    reported_by g.G.Gates.log g.G.Gates.faults c.args.wanted c.args.manager.manifests c.args.manager.turn f c.args.phases.now c.args.passes c.args.gates c.run_lanes-passes.result c.close_realm.result c.performed_in.result
    new c.requires.gates c.run_lanes-passes.ensures.passes c.close_realm.ensures.closes c.close_realm.ensures.frames c.run_lanes-passes.ensures.ran c.performed_in.ensures.history c.performed_in.ensures.reported
