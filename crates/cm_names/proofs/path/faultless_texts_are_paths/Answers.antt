use Rattle.cm_names.proofs.lemmas.texts.Path.{faultless_path, path_faultless}
use Rattle.cm_names.proofs.path.faultless_texts_are_paths.Goals as goal

pub returns : goal.returns
returns c = λ t. (faultless_path t, path_faultless t)
