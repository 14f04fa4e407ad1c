use Rattle.std.proofs.Common.{refl}
use Rattle.std.proofs.lemmas.Result.{err_from_is_err_and}
use Rattle.cm_manager.specs.Questions.{AnswersTo}
use Rattle.cm_manager.proofs.lemmas.calling.Calling.{request_called}
use Rattle.cm_manager.proofs.lemmas.callers.CallerRuns.{performs_found, performs_missed}
use Rattle.cm_manager.proofs.caller.Caller.find_and_answer.Goals as goal

pub returns : goal.returns
returns g c =
    performs_found _ (λ f n. AnswersTo f n c.args.request) _ (λ f n x y a on. request_called f n c.args.target.now c.args.request x y a on) _ _ _ _ _ _ refl c.in_ok-inc.ensures c.answer.ensures

pub returns-in_err-inc : goal.returns-in_err-inc
returns-in_err-inc g c =
    let p = err_from_is_err_and c.from_residual.result c.from_residual.ensures.1 in
    rw (p.1, p.2)
    (performs_missed _ (λ f n. AnswersTo f n c.args.request) _ (λ f n x y a on. request_called f n c.args.target.now c.args.request x y a on) _ _ _ _ refl c.in_err-inc.ensures)
