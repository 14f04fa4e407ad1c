use Rattle.std.proofs.Common.{List, sym, subst}
use Rattle.cm_facts.proofs.Lists.{take_over}
use Rattle.cm_lanes.specs.Lane.{Lane}
use Rattle.cm_lanes.specs.Phases.{LanesRan, AreLanes}
use Rattle.cm_lanes.proofs.phase.run_all.Goals as goal

pub perform_phases-requires-clause-lanes : goal.perform_phases-requires-clause-lanes
perform_phases-requires-clause-lanes g c κs within = subst (λ (l : List (Lane g.row.G.Denot)). AreLanes c.args.manager.now.turn l) (sym c.as_mut_slice.ensures.value) c.requires.lanes

pub returns : goal.returns
returns g c =
    let ran = subst (λ (l : List (Lane g.row.G.Denot)). LanesRan g.G.Gates.log g.G.Gates.faults c.args.manager.now.manifests c.args.phases.now l c.perform_phases.new.lanes) c.as_mut_slice.ensures.value c.perform_phases.ensures.ran in
    record { ran = subst (λ (l : List (Lane g.row.G.Denot)). LanesRan g.G.Gates.log g.G.Gates.faults c.args.manager.now.manifests c.args.phases.now c.args.lanes.items l) (sym (take_over c.args.lanes.items c.perform_phases.new.lanes c.args.lanes.len c.args.lanes.ok.0 ran.long)) ran }
