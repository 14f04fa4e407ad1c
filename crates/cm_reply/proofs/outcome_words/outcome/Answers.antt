use Rattle.std.proofs.Common.{sym, ap, subst, ◌∙◌}
use Rattle.std.proofs.lemmas.Option.{same_Some, none-some}
use Rattle.cm_world.specs.declared.action.Outcome.TheVariants.{Invalid}
use Rattle.cm_reply.specs.Legible.{IsLegibleOutcome}
use Rattle.cm_reply.proofs.lemmas.back.Named.{IsInvalid, invalid_is, plain_is}
use Rattle.cm_reply.proofs.outcome_words.outcome.Goals as goal

pub returns-in-Ok-clause-finds : goal.returns-in-Ok-clause-finds
returns-in-Ok-clause-finds c o h e =
    let it : IsInvalid o c.in-Some.fault.now = invalid_is o c.in-Some.fault.now (sym c.in-Some.ensures ∙ e) in
    ap Invalid (c.in-Ok.ensures.finds it.note (subst IsLegibleOutcome it.outcome h) it.text) ∙ sym it.outcome

pub returns-in-Err-clause-finds : goal.returns-in-Err-clause-finds
returns-in-Err-clause-finds c o h e =
    let it : IsInvalid o c.in-Some.fault.now = invalid_is o c.in-Some.fault.now (sym c.in-Some.ensures ∙ e) in
    c.in-Err.ensures.finds it.note (subst IsLegibleOutcome it.outcome h) it.text

pub returns-in-Some-plain_outcome-clause-finds : goal.returns-in-Some-plain_outcome-clause-finds
returns-in-Some-plain_outcome-clause-finds c o h e =
    same_Some c.in-Some-plain_outcome.outcome o (sym c.in-Some-plain_outcome.is ∙ c.plain_outcome.ensures.finds o (plain_is o c.args.text.now c.in-None.ensures e) e)

pub returns-in-None-plain_outcome-clause-finds : goal.returns-in-None-plain_outcome-clause-finds
returns-in-None-plain_outcome-clause-finds c o h e =
    absurd (none-some o (sym c.in-None-plain_outcome.is ∙ c.plain_outcome.ensures.finds o (plain_is o c.args.text.now c.in-None.ensures e) e))
