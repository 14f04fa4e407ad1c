use Rattle.std.proofs.Common.{◌∙◌}
use Rattle.std.specs.Prelude.{None}
use Rattle.cm_call.specs.Generated.{script_of}
use Rattle.cm_call.specs.declared.call.Wanted.TheVariants.{Summary}
use Rattle.cm_program.proofs.lemmas.whole.Run.{history_of, own_nothing, own_served}
use Rattle.cm_program.proofs.generate.run_generated.Goals as goal

pub returns-in_default-clause-runs : goal.returns-in_default-clause-runs
returns-in_default-clause-runs g c =
    own_nothing g.G.Gates.log g.G.Gates.faults (Summary c.args.workload.size) None (script_of c.args.workload.seed c.args.workload.size) c.args.gates c.ended.result.gates c.ended.result.book.entries c.ended.result.status (g.K.Sink.written c.args.out.now)
    c.ended.ensures.empty c.ended.ensures.gates (c.ended.ensures.status ∙ c.out_of_memory.ensures.status)

pub returns-clause-runs : goal.returns-clause-runs
returns-clause-runs g c =
    own_served _ (script_of c.args.workload.seed c.args.workload.size) c.run_served.result.status c.in-Ok.served c.in-Ok.ensures.good c.run_served.ensures.runs

pub returns-clause-history : goal.returns-clause-history
returns-clause-history g c = history_of g.G.Gates.log g.G.Gates.faults _ _ _ _ _ _ _ _ _ c.run_served.ensures.runs

pub returns-clause-unmade : goal.returns-clause-unmade
returns-clause-unmade g c = λ none. absurd (none c.in-Ok.served c.in-Ok.ensures.good)
