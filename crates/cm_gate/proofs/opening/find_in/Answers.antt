use Rattle.cm_gate.proofs.lemmas.Looking.{finds_broken}
use Rattle.cm_gate.proofs.opening.find_in.Goals as goal

pub returns-in-Err-clause-finds : goal.returns-in-Err-clause-finds
returns-in-Err-clause-finds g c = finds_broken g.F.File.Read.remaining g.F.Folder.broken c.args.file _ c.unread.result c.in-Err.ensures.broken c.unread.ensures.memory c.unread.ensures.other c.unread.ensures.failed
