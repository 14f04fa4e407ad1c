use Rattle.cm_audit.proofs.lemmas.Telling.{texts_tell_replies}
use Rattle.cm_audit.proofs.laws.texts_tell_replies.Goals as goal

pub returns : goal.returns
returns c = texts_tell_replies
