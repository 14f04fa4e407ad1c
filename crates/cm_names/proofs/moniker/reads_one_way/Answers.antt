use Rattle.cm_names.proofs.lemmas.texts.MonikerParts.{reads_one_way_lem}
use Rattle.cm_names.proofs.moniker.reads_one_way.Goals as goal

pub returns : goal.returns
returns c = reads_one_way_lem
