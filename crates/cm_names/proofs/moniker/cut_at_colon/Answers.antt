use Rattle.cm_names.proofs.lemmas.texts.MonikerParts.{cut_is}
use Rattle.cm_names.proofs.moniker.cut_at_colon.Goals as goal

pub returns : goal.returns
returns c = cut_is c.args.part.now c.requires c.split_once.result c.split_once.ensures.cases
