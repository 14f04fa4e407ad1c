use Rattle.cm_audit.proofs.lemmas.Waiting.{never_begins}
use Rattle.cm_audit.proofs.auditor.audited.Goals as goal

pub returns-in-Err-read_head-clause-free : goal.returns-in-Err-read_head-clause-free
returns-in-Err-read_head-clause-free c none = absurd (never_begins c.in-Ok.ensures none)

pub returns-in_err-realm-clause-free : goal.returns-in_err-realm-clause-free
returns-in_err-realm-clause-free c none = absurd (never_begins c.in-Ok.ensures none)

pub returns-clause-free : goal.returns-clause-free
returns-clause-free c none = absurd (never_begins c.in-Ok.ensures none)
