use Rattle.std.proofs.Common.{◌≡◌, ◌==◌, false, ◌∙◌, sym, subst}
use Rattle.std.specs.Prelude.{IfNone, All}
use Rattle.cm_world.specs.declared.action.Act.{Act}
use Rattle.cm_steps.proofs.lemmas.actions.Numbered.{find_none, find_some}
use Rattle.cm_steps.proofs.pending.act_at.Goals as goal

pub returns-in-None : goal.returns-in-None
returns-in-None c =
    sym (find_none (λ (x : Act). x.action == c.args.action) c.args.acts.now
    (subst (λ o. IfNone o (All (λ (x : Act). (x.action == c.args.action) ≡ false) c.args.acts.now)) c.in-None.is c.act_place.ensures.none))

pub returns-in-Some : goal.returns-in-Some
returns-in-Some c =
    sym (find_some (λ (x : Act). x.action == c.args.action) c.args.acts.now c.in-Some.place _
    (sym c.act_place.ensures.place ∙ c.in-Some.is))
