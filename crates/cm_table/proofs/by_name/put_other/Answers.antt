use Rattle.cm_table.proofs.lemmas.indexes.Naming.{put_name}
use Rattle.cm_table.proofs.by_name.put_other.Goals as goal

pub returns-clause-ok : goal.returns-clause-ok
returns-clause-ok c = put_name c.args.others.now c.insert.new.self c.args.name c.args.above c.in_ok-insert.ensures.updates.0
