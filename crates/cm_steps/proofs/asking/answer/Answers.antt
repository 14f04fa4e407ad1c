use Rattle.std.proofs.Common.{sym, ◌∙◌}
use Rattle.cm_cache.proofs.lemmas.histories.Going.{kept_are_found}
use Rattle.cm_steps.proofs.asking.answer.Goals as goal

pub returns-in-Some-clause-walked : goal.returns-in-Some-clause-walked
returns-in-Some-clause-walked g c = c.requires c.in-Some.walked (sym c.in_ok-walked.ensures.found ∙ c.in-Some.is)

pub returns-in-Some-clause-found : goal.returns-in-Some-clause-found
returns-in-Some-clause-found g c =
    kept_are_found c.args.inc c.args.path.now c.in-Some.walked c.args.keeper.now (sym c.in_ok-walked.ensures.found ∙ c.in-Some.is)
