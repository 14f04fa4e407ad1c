use Rattle.std.proofs.Common.{◌≤◌, arith}
use Rattle.cm_call.proofs.lemmas.texts.Word.{number_unread, number_within}
use Rattle.cm_call.proofs.call.number_in.Goals as goal

pub returns-in-Err-clause-gives : goal.returns-in-Err-clause-gives
returns-in-Err-clause-gives c = number_unread c.args.low c.args.high c.args.text.now c.in-Err.ensures.value.0

pub returns-clause-gives : goal.returns-clause-gives
returns-clause-gives c =
    let above : c.args.low ≤ c.in-Ok.number = omega arith in
    let below : c.in-Ok.number ≤ c.args.high = omega arith in
    number_within c.args.low c.args.high c.in-Ok.number c.args.text.now c.in-Ok.ensures.value.0.0 c.in-Ok.ensures.value.0.1 above below
