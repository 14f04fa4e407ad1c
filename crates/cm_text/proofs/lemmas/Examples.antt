-- The examples, computed.
use Rattle.std.proofs.Common.{refl}
use Rattle.cm_text.specs.Examples.{SpellingExamples}
use Rattle.cm_text.proofs.lemmas.OnLiterals.{text_on_literals}

-- The worked examples of the relaxed spelling come out as they are stated.
pub examples : SpellingExamples
unfolding text_on_literals
examples = record {
  manifest = refl;
  quotes = refl;
  commas = refl;
  first_comma = refl;
  keys = refl;
  key_in_array = refl;
  nothing = refl;
  carriage_return = refl;
  not_ascii = refl;
  stray_slash = refl;
  stray_character = refl;
  open_string = refl;
  open_comment = refl;
  first_fault = refl;
}
