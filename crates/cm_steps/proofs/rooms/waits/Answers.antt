use Rattle.std.proofs.Common.{◌≡◌, false, sym, ◌∙◌, subst}
use Rattle.std.specs.Prelude.{IfNone, All}
use Rattle.std.proofs.lemmas.List.Folds.{list_any_none, list_any_at}
use Rattle.std.proofs.lemmas.List.Quantifiers.{position-Some}
use Rattle.cm_world.specs.declared.action.Join.{Join}
use Rattle.cm_world.specs.Step.{is_join}
use Rattle.cm_steps.proofs.rooms.waits.Goals as goal

pub returns-in-None : goal.returns-in-None
returns-in-None c =
    sym (list_any_none (is_join c.args.caller c.args.action) c.args.joins.now
    (subst (λ o. IfNone o (All (λ (j : Join). is_join c.args.caller c.args.action j ≡ false) c.args.joins.now)) c.in-None.is c.join_place.ensures.none))

pub returns-in-Some : goal.returns-in-Some
returns-in-Some c =
    let some : Join = record { caller = 0; action = 0 } in
    let at = position-Some (is_join c.args.caller c.args.action) c.args.joins.now _ some (sym c.join_place.ensures.place ∙ c.in-Some.is) in
    sym (list_any_at (is_join c.args.caller c.args.action) c.args.joins.now _ some at.0 at.1)
