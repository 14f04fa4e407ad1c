use Rattle.cm_names.proofs.lemmas.texts.NameBytes.{name_utf8}
use Rattle.cm_names.proofs.name.name_text.Goals as goal

pub from_utf8_unchecked-requires : goal.from_utf8_unchecked-requires
from_utf8_unchecked-requires c = name_utf8 _ c.requires
