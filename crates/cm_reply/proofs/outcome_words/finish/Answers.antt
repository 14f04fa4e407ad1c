use Rattle.std.proofs.Common.{sym, ap, subst, ◌∙◌}
use Rattle.cm_world.specs.declared.action.Finish.TheVariants.{Other}
use Rattle.cm_reply.specs.Legible.{IsLegibleFinish}
use Rattle.cm_reply.specs.Reading.{IsOr}
use Rattle.cm_reply.proofs.lemmas.back.Named.{IsResolved, resolved_is, IsEndedSo, other_is}
use Rattle.cm_reply.proofs.outcome_words.finish.Goals as goal

pub returns-in-Some-clause-finds : goal.returns-in-Some-clause-finds
returns-in-Some-clause-finds c f h e =
    let it : IsResolved f c.in-Some.found.now = resolved_is f c.in-Some.found.now (sym c.in-Some.ensures ∙ e) in
    subst (IsOr c.resolved.result) (sym it.finish) (c.resolved.ensures.finds it.url it.decl (subst IsLegibleFinish it.finish h) it.text)

pub returns-in-Ok-clause-finds : goal.returns-in-Ok-clause-finds
returns-in-Ok-clause-finds c f h e =
    let it : IsEndedSo f c.args.text.now = other_is f c.args.text.now c.in-None.ensures e in
    ap Other (c.in-Ok.ensures.finds it.outcome (subst IsLegibleFinish it.finish h) it.text) ∙ sym it.finish

pub returns-in-Err-clause-finds : goal.returns-in-Err-clause-finds
returns-in-Err-clause-finds c f h e =
    let it : IsEndedSo f c.args.text.now = other_is f c.args.text.now c.in-None.ensures e in
    c.in-Err.ensures.finds it.outcome (subst IsLegibleFinish it.finish h) it.text
