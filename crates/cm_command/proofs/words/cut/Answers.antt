use Rattle.std.proofs.Common.{sym}
use Rattle.std.proofs.lemmas.List.{take_rest}
use Rattle.cm_command.proofs.lemmas.bytes.Pieces.{piece_clean, piece_whole}
use Rattle.cm_command.proofs.words.cut.Goals as goal

pub returns-in-Some-clause-clean : goal.returns-in-Some-clause-clean
returns-in-Some-clause-clean c = piece_clean c.args.separator c.args.bytes.now c.in-Some.i (sym c.in-Some.ensures.place)

pub returns-in-Some-clause-whole : goal.returns-in-Some-clause-whole
returns-in-Some-clause-whole c =
    rw take_rest (piece_whole c.args.separator c.args.bytes.now c.in-Some.i (sym c.in-Some.ensures.place))
