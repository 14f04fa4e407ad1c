use Rattle.cm_text.proofs.lemmas.Examples.{examples}
use Rattle.cm_text.proofs.laws.spelling_examples.Goals as goal

pub returns : goal.returns
returns c = examples
