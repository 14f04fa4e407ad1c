use Rattle.std.proofs.Common.{◌≡◌, ◌∙◌, ap, subst}
use Rattle.std.specs.List.{position}
use Rattle.cm_world.specs.Edits.{drop_first}
use Rattle.cm_world.specs.Step.{is_join}
use Rattle.cm_table.proofs.lemmas.lists.Drops.{removed, unremoved}
use Rattle.cm_steps.proofs.pending.take_join.Goals as goal

pub returns-in-None : goal.returns-in-None
returns-in-None c =
    subst (λ ys. ys ≡ drop_first (is_join c.args.caller c.args.action) ys) c.as_slice.ensures.value
    (unremoved (is_join c.args.caller c.args.action) _ _ c.join_place.ensures.none c.in-None.is)

pub returns-in-Some : goal.returns-in-Some
returns-in-Some c =
    removed (is_join c.args.caller c.args.action) _ _ _ _ c.remove-join.result (c.join_place.ensures.place ∙ ap (position (is_join c.args.caller c.args.action)) c.as_slice.ensures.value) c.in-Some.is c.remove-join.ensures.items
