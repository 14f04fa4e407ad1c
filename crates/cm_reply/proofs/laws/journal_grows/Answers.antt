use Rattle.cm_reply.proofs.lemmas.Growing.{journal_begins_lem, journal_grows_lem}
use Rattle.cm_reply.proofs.laws.journal_grows.Goals as goal

pub returns-clause-begins : goal.returns-clause-begins
returns-clause-begins c = journal_begins_lem

pub returns-clause-grows : goal.returns-clause-grows
returns-clause-grows c = journal_grows_lem
