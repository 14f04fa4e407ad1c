use Rattle.cm_command.proofs.lemmas.counts.ChildCounts.{bad_first_name, bad_second_name}
use Rattle.cm_command.proofs.lemmas.bytes.Cuts.{begins_with_piece, piece_and_rest}
use Rattle.cm_command.proofs.tokens.read_child.Goals as goal

pub returns-in-Err : goal.returns-in-Err
returns-in-Err c =
    bad_first_name c.args.word.now c.cut.result.0.now c.in-Err.fault c.cut.ensures.clean (begins_with_piece 58 c.cut.result.1 c.args.word.now c.cut.result.0.now c.cut.ensures.whole) c.in-Err.ensures

pub returns-in-Err-read_name : goal.returns-in-Err-read_name
returns-in-Err-read_name c =
    bad_second_name c.args.word.now c.cut.result.0.now c.in-Some.second.now c.in-Err-read_name.fault c.behind.result (piece_and_rest 58 c.cut.result.1 c.in-Some.second c.args.word.now c.cut.result.0.now c.in-Some.is c.cut.ensures.whole) c.in-Ok.ensures.1 c.behind.ensures c.in-Err-read_name.ensures
