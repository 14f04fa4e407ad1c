use Rattle.cm_names.proofs.lemmas.texts.Path.{faultless_subdir, subdir_faultless}
use Rattle.cm_names.proofs.path.faultless_texts_are_subdirs.Goals as goal

pub returns : goal.returns
returns c = λ t. (faultless_subdir t, subdir_faultless t)
