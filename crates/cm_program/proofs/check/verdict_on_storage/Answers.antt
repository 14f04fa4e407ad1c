use Rattle.std.proofs.Common.{subst}
use Rattle.cm_storage.specs.Faults as storage
use Rattle.cm_program.proofs.lemmas.whole.Check.{valid_verdict}
use Rattle.cm_program.proofs.check.verdict_on_storage.Goals as goal

pub returns-in-Ok-clause-verdict : goal.returns-in-Ok-clause-verdict
returns-in-Ok-clause-verdict c = λ read is valid registered.
    valid_verdict read c.args.decl.now c.valid.result is valid registered (subst (storage.JudgesStorage c.args.decl.now) c.in-Ok.is c.in_ok-note.ensures) c.valid.ensures
