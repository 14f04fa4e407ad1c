use Rattle.cm_laws.proofs.lemmas.lasting.MarksLast.{reaps_marked}
use Rattle.cm_laws.proofs.reaps_marked.Goals as goal

pub returns : goal.returns
returns c = reaps_marked
