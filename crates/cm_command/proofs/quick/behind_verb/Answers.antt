use Rattle.cm_command.specs.declared.place.LineState.TheVariants as place
use Rattle.cm_command.proofs.lemmas.bytes.Cuts.{piece_and_rest, piece_alone}
use Rattle.cm_command.proofs.lemmas.line.QuickWords.{by_last, by_more}
use Rattle.cm_command.proofs.quick.behind_verb.Goals as goal

pub returns-in-None : goal.returns-in-None
returns-in-None c =
    by_last (place.Verb c.args.verb) c.in-Ok.next c.args.rest.now c.cut.result.0.now c.said_at.result c.cut.ensures.clean (piece_alone 32 c.cut.result.1 c.args.rest.now c.cut.result.0.now c.in-None.is c.cut.ensures.whole) c.in-Ok.ensures c.said_at.ensures

pub returns-in-Some : goal.returns-in-Some
returns-in-Some c =
    by_more (place.Verb c.args.verb) c.in-Ok.next c.args.rest.now c.cut.result.0.now c.in-Some.more.now c.by_last_word.result c.cut.ensures.clean (piece_and_rest 32 c.cut.result.1 c.in-Some.more c.args.rest.now c.cut.result.0.now c.in-Some.is c.cut.ensures.whole) c.in-Ok.ensures c.by_last_word.ensures
