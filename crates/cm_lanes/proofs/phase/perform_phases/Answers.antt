use Rattle.std.proofs.Common.{◌∙◌, ◌++◌, ◌∷◌, [], List, All, take, sym, ap, subst}
use Rattle.std.proofs.lemmas.List.{take_more}
use Rattle.cm_command.specs.declared.script.Line.{Line}
use Rattle.cm_lanes.specs.ScriptInside.{IsFit}
use Rattle.cm_lanes.specs.Phases.{LanesRan, PassedAll}
use Rattle.cm_lanes.proofs.lemmas.phases.Advancing.{phase_more, ran_none, ready_met, ready_passed}
use Rattle.cm_lanes.proofs.phase.perform_phases.Goals as goal

pub loop-phase-init : goal.loop-phase-init
loop-phase-init g c = record {
  ran = ran_none g.G.Gates.log g.G.Gates.faults c.args.manager.now.turn c.args.manager.now.manifests _ _ c.requires.lanes c.meet_all.ensures.met;
  ready = ready_met g.G.Gates.log g.G.Gates.faults c.args.manager.now.turn _ _ c.requires.lanes c.meet_all.ensures.met;
}

pub loop-phase-preserved : goal.loop-phase-preserved
loop-phase-preserved g c =
    let i = c.loop-phase.phase-index in
    let lines = c.phase-item.result in
    let prefix = take_more c.args.phases.now i lines c.loop-phase-test.true ∙ ap (λ (x : List Line). take i c.args.phases.now ++ x ∷ []) (sym c.phase-item.is) in
    let fit = subst (λ (l : List Line). All IsFit l) (sym c.phase-item.is) (c.requires.fit i lines c.loop-phase-test.true) in
    let passed = subst (λ (l : List Line). PassedAll g.G.Gates.log g.G.Gates.faults c.args.manager.now.manifests l c.loop-phase.lanes c.run_phase.new.lanes) c.as_slice.ensures c.run_phase.ensures.passed in
    record {
      ran = subst (λ (p : List (List Line)). LanesRan g.G.Gates.log g.G.Gates.faults c.args.manager.now.manifests p c.args.lanes.now c.run_phase.new.lanes) (sym prefix)
          (phase_more g.G.Gates.log g.G.Gates.faults c.args.manager.now.manifests (take i c.args.phases.now) lines c.args.lanes.now c.loop-phase.lanes c.run_phase.new.lanes c.requires.lanes.count fit c.loop-phase.invariant.ran passed);
      ready = ready_passed g.G.Gates.log g.G.Gates.faults c.args.manager.now.turn c.args.manager.now.manifests lines c.loop-phase.lanes c.run_phase.new.lanes c.loop-phase.invariant.ready passed;
    }
