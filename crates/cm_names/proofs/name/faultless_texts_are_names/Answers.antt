use Rattle.cm_names.proofs.lemmas.texts.Name.{faultless_name, name_faultless}
use Rattle.cm_names.proofs.name.faultless_texts_are_names.Goals as goal

pub returns : goal.returns
returns c = λ t. (faultless_name t, name_faultless t)
