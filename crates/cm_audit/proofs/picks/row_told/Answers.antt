use Rattle.std.proofs.Common.{sym, ◌∙◌}
use Rattle.cm_audit.proofs.lemmas.Rows.{shut_told, stop_told, told_by}
use Rattle.cm_audit.proofs.picks.row_told.Goals as goal

pub returns-in-Some : goal.returns-in-Some
returns-in-Some c =
    told_by c.args.given.now _ c.number_in.result
    (shut_told c.args.given.now _ (sym c.as_bytes-bytes.ensures.value ∙ c.in-Some.ensures)) c.number_in.ensures

pub returns : goal.returns
returns c =
    told_by c.args.given.now _ c.number_in-2.result
    (stop_told c.args.given.now _ _ _ (sym c.as_bytes-bytes.ensures.value ∙ c.in-Some-strip.ensures) c.cut.ensures.clean c.cut.ensures.whole)
    c.number_in-2.ensures
