use Rattle.cm_reply.proofs.lemmas.Written.{prints_header, prints_entries}
use Rattle.cm_reply.proofs.laws.prints_journal.Goals as goal

pub returns-clause-header : goal.returns-clause-header
returns-clause-header c = prints_header

pub returns-clause-entries : goal.returns-clause-entries
returns-clause-entries c = prints_entries
