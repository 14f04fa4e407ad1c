use Rattle.cm_program.proofs.lemmas.whole.Run.{performs_nothing, reported_nothing}
use Rattle.cm_program.proofs.performing.perform.Goals as goal

pub returns-in-Err-clause-performs : goal.returns-in-Err-clause-performs
returns-in-Err-clause-performs g c =
    performs_nothing g.G.Gates.log g.G.Gates.faults (record { repo = c.args.repo; blocks = c.args.repository }) c.args.realm c.args.phases.now c.args.gates c.in-Err.realm c.performed_in.result
    c.requires.empty c.in-Err.ensures.err c.performed_in.ensures.history c.performed_in.ensures.kept c.performed_in.ensures.gates c.performed_in.ensures.said

pub returns-in-Err-clause-reported : goal.returns-in-Err-clause-reported
returns-in-Err-clause-reported g c =
    reported_nothing g.G.Gates.log g.G.Gates.faults c.args.wanted c.args.realm c.in-Err.realm c.performed_in.result c.in-Err.ensures.err c.performed_in.ensures.history c.performed_in.ensures.reported
