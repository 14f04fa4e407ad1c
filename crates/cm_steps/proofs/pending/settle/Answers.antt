use Rattle.std.proofs.Common.{◌≡◌, ◌==◌, ◌∙◌, ap, subst, refl}
use Rattle.std.specs.List.{position}
use Rattle.cm_world.specs.Edits.{edit_first}
use Rattle.cm_world.specs.End.{put_outcome}
use Rattle.cm_trees.proofs.rows.Edits.{written, unwritten}
use Rattle.cm_steps.proofs.pending.settle.Goals as goal

pub returns-in-None : goal.returns-in-None
returns-in-None c =
    subst (λ ys. ys ≡ edit_first (λ x. x.action == c.args.action) (put_outcome c.args.outcome) ys) c.as_slice.ensures.value
    (unwritten (λ x. x.action == c.args.action) (put_outcome c.args.outcome) _ _ c.act_place.ensures.none c.in-None.is)

pub returns-in-Some : goal.returns-in-Some
returns-in-Some c =
    written (λ x. x.action == c.args.action) (put_outcome c.args.outcome) _ _ _ _ _ (c.act_place.ensures.place ∙ ap (position (λ x. x.action == c.args.action)) c.as_slice.ensures.value) c.in-Some.is c.index_mut.ensures.value refl
