use Rattle.cm_command.proofs.lemmas.bytes.Cuts.{piece_alone}
use Rattle.cm_command.proofs.lemmas.line.QuickWords.{by_last}
use Rattle.cm_command.proofs.quick.by_last_word.Goals as goal

pub returns-in-Ok : goal.returns-in-Ok
returns-in-Ok c =
    by_last c.args.at c.in-Ok.next c.args.rest.now c.cut.result.0.now c.said_at.result c.cut.ensures.clean (piece_alone 32 c.cut.result.1 c.args.rest.now c.cut.result.0.now c.in-None.is c.cut.ensures.whole) c.in-Ok.ensures c.said_at.ensures
