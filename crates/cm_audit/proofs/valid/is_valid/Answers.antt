use Rattle.cm_audit.proofs.lemmas.Judged.{not_faulty}
use Rattle.cm_audit.proofs.valid.is_valid.Goals as goal

pub returns-in-Err-Bad : goal.returns-in-Err-Bad
returns-in-Err-Bad c =
    not_faulty c.args.decl.now c.in-Err-Bad.field-0 c.in-Err-Bad.ensures.fault (λ memory. absurd (cc (c.in-Err-Bad.field-0-is, memory)))
