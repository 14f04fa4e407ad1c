use Rattle.std.proofs.Common.{rules}
use Rattle.cm_gate.proofs.lemmas.Looking.{finds_file}
use Rattle.cm_gate.proofs.folder.find_file.Goals as goal

pub returns-in-Ok-Some-clause-finds : goal.returns-in-Ok-Some-clause-finds
returns-in-Ok-Some-clause-finds g c = finds_file _ _ _ _ _ _ c.args.what.now c.find_at.result c.find_at.ensures.finds (search rules)
