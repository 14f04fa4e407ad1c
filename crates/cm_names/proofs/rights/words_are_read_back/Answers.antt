use Rattle.cm_names.proofs.lemmas.sets.Word.{words_are_read_back_lem}
use Rattle.cm_names.proofs.rights.words_are_read_back.Goals as goal

pub returns : goal.returns
returns c = words_are_read_back_lem
