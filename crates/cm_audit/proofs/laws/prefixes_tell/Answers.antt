use Rattle.cm_audit.proofs.lemmas.Prefixes.{prefixes_tell}
use Rattle.cm_audit.proofs.laws.prefixes_tell.Goals as goal

pub returns : goal.returns
returns c = prefixes_tell
