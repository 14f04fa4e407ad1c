use Rattle.std.proofs.Common.{arith}
use Rattle.cm_command.proofs.lemmas.bytes.Cuts.{begins_with_piece, piece_and_rest, piece_alone}
use Rattle.cm_command.proofs.lemmas.line.LineWords.{at_start, further, room, fits, faulty, ended}
use Rattle.cm_command.proofs.reader.read_line.Goals as goal

pub words-init : goal.words-init
words-init c = at_start c.args.start c.args.line.now

pub behind-requires : goal.behind-requires
behind-requires c =
    fits c.words.invariant c.cut.result.0.now c.in-Err.fault c.requires (begins_with_piece 32 c.cut.result.1 c.words.rest.now c.cut.result.0.now c.cut.ensures.whole) c.in-Err.ensures

pub returns-in-Err : goal.returns-in-Err
returns-in-Err c =
    rw c.behind.ensures (faulty c.words.invariant c.cut.result.0.now c.in-Err.fault c.cut.ensures.clean (begins_with_piece 32 c.cut.result.1 c.words.rest.now c.cut.result.0.now c.cut.ensures.whole) c.in-Err.ensures)

pub returns-in_default : goal.returns-in_default
returns-in_default c =
    ended c.words.invariant c.cut.result.0.now c.in-Ok.next c.last.result c.cut.ensures.clean (piece_alone 32 c.cut.result.1 c.words.rest.now c.cut.result.0.now c.in_default.is c.cut.ensures.whole) c.in-Ok.ensures c.last.ensures

pub overflow_add-prefix : goal.overflow_add-prefix
overflow_add-prefix c =
    let fits = room c.words.invariant c.cut.result.0.now c.in-Some.more.now (piece_and_rest 32 c.cut.result.1 c.in-Some.more c.words.rest.now c.cut.result.0.now c.in-Some.is c.cut.ensures.whole) c.requires in
    omega (arith, fits)

pub overflow_add-prefix-in-words : goal.overflow_add-prefix-in-words
overflow_add-prefix-in-words c =
    let fits = room c.words.invariant c.cut.result.0.now c.in-Some.more.now (piece_and_rest 32 c.cut.result.1 c.in-Some.more c.words.rest.now c.cut.result.0.now c.in-Some.is c.cut.ensures.whole) c.requires in
    omega (arith, fits)

pub words-preserved : goal.words-preserved
words-preserved c =
    further c.words.invariant c.cut.result.0.now c.in-Some.more.now c.in-Ok.next c.cut.ensures.clean (piece_and_rest 32 c.cut.result.1 c.in-Some.more c.words.rest.now c.cut.result.0.now c.in-Some.is c.cut.ensures.whole) c.in-Ok.ensures
