use Rattle.cm_reply.proofs.lemmas.back.Told.{entries_read_one_way_lem}
use Rattle.cm_audit.proofs.lemmas.Builtins.{one_builtin}
use Rattle.cm_audit.proofs.lemmas.Only.{one_verdict}
use Rattle.cm_audit.proofs.laws.one_verdict.Goals as goal

pub returns : goal.returns
returns c = one_verdict one_builtin entries_read_one_way_lem
