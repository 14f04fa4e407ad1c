use Rattle.std.proofs.Common.{◌∙◌, ap}
use Rattle.cm_program.proofs.lemmas.whole.Run.{runs_nothing, runs_back}
use Rattle.cm_program.proofs.running.run_served.Goals as goal

pub returns-in_default-clause-runs : goal.returns-in_default-clause-runs
returns-in_default-clause-runs g c =
    runs_nothing g.G.Gates.log g.G.Gates.faults c.args.wanted c.args.repo c.args.served c.args.gates c.ended.result.gates c.ended.result.book.entries c.ended.result.status (g.K.Sink.written c.args.out.now)
    c.ended.ensures.empty c.ended.ensures.gates (c.ended.ensures.status ∙ c.out_of_memory.ensures.status)

pub returns-clause-runs : goal.returns-clause-runs
returns-clause-runs g c =
    runs_back g.G.Gates.log g.G.Gates.faults c.args.wanted c.args.repo c.args.served c.args.gates c.print_performed.result.gates c.perform-done.result c.print_performed.result.book c.print_performed.result.status (g.K.Sink.written c.args.out.now) (g.K.Sink.written c.print_performed.new.out)
    c.in-Ok.realm.frame c.as_slice.result.now c.as_slice-2.result.now c.in-Ok.head
    c.perform-done.ensures.performs c.perform-done.ensures.reported (ap (λ s. s.frame) c.in-Ok.ensures.1) c.as_slice.ensures c.print_performed.ensures.said c.as_slice-2.ensures c.in-Ok.ensures.0 c.print_performed.ensures.unsaid c.print_performed.ensures.book c.print_performed.ensures.gates
    c.requires.fit c.print_performed.ensures.typed c.requires.gates c.perform-done.ensures.gates c.requires.tells
