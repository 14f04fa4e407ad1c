use Rattle.cm_command.proofs.lemmas.bytes.Cuts.{piece_and_rest}
use Rattle.cm_command.proofs.lemmas.line.QuickWords.{by_verb}
use Rattle.cm_command.proofs.quick.quick_command.Goals as goal

pub returns-in-Some-verb_of : goal.returns-in-Some-verb_of
returns-in-Some-verb_of c =
    by_verb c.in-Some-verb_of.verb c.args.line.now c.cut.result.0.now c.in-Some.rest.now c.behind_verb.result c.cut.ensures.clean (piece_and_rest 32 c.cut.result.1 c.in-Some.rest c.args.line.now c.cut.result.0.now c.in-Some.is c.cut.ensures.whole) c.in-Some-verb_of.ensures c.behind_verb.ensures
