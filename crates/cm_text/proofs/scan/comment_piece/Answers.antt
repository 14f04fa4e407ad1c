use Rattle.std.proofs.Common.{arith, sym, length-drop}
use Rattle.std.proofs.lemmas.List.{take_rest}
use Rattle.cm_text.proofs.lemmas.found.Outline.{comment_fits}
use Rattle.cm_text.proofs.scan.comment_piece.Goals as goal

pub overflow_add-result-in-Some : goal.overflow_add-result-in-Some
overflow_add-result-in-Some c =
    let h = comment_fits _ _ (sym c.in-Some.ensures) in
    let k = rw take_rest at h in
    omega (arith, length-drop 2 c.as_bytes.result.now, k)
