-- A pick of an instance that is given.
use Rattle.std.proofs.Common.{◌≡◌, ◌≢◌, ℕ, List, [], Bool, true, false, cond, Some, IsTrue, refl, sym, ◌∙◌, ap, subst, inl, inr}
use Rattle.std.specs.Option.{option_map_or}
use Rattle.cm_world.specs.declared.row.Row.{Row}
use Rattle.cm_world.specs.declared.action.Work.{Work}
use Rattle.cm_world.specs.declared.reply.Reply.{Reply}
use Rattle.cm_world.specs.Rows.{row_of, is_on}
use Rattle.cm_world.specs.Work.{program_work}
use Rattle.cm_world.proofs.lemmas.trees.Finding.{row_of-inc}
use Rattle.cm_world.specs.World.{World}
use Rattle.cm_world.specs.Step.{PicksOn, PicksOff}
use Rattle.cm_world.specs.Stopping.{CanPick}
use Rattle.cm_order.specs.Picking.{PicksNow, IsPicked, MayBePicked}
use Rattle.cm_order.specs.declared.picking.Picked.{Picked}
use Rattle.cm_order.specs.declared.picking.Picked.TheVariants.{StopNow, ShutNow}
use Rattle.cm_laws.specs.Story.{Story, world_of}
use Rattle.cm_steps.specs.Steps.{RealmHasRoom, RefusesStep, WaitsToPick}
use Rattle.cm_steps.specs.Answers.{AnswersPick, PicksOrWaits}
use Rattle.cm_steps.specs.Chosen.{Chooses, AnswersThis}
use Rattle.cm_steps.proofs.lemmas.actions.Picks.{picks_on}
use Rattle.cm_steps.specs.declared.nostep.NoStep.{NoStep}
use Rattle.cm_steps.specs.declared.nostep.NoStep.TheVariants.{Busy, HistoryFull, Memory}
use Rattle.cm_steps.specs.declared.replies.picking.PickAnswer.{PickAnswer}
use Rattle.cm_steps.specs.declared.replies.picking.PickAnswer.TheVariants as pick

-- the one that was picked is this one
pub this_is : (rows : List Row) (t i : ℕ) (p : Picked) (on : Bool) → p ≡ cond on (StopNow i) (ShutNow i) → IsPicked rows t p → PicksNow rows t i on
this_is rows t i p true e it = subst (IsPicked rows t) e it
this_is rows t i p false e it = subst (IsPicked rows t) e it

-- A row that may be picked is picked by whether it is on.
pub as_it_is : (rows : List Row) (t i : ℕ) (on : Bool) → on ≡ is_on rows i → MayBePicked rows t i → PicksNow rows t i on
as_it_is rows t i on e it =
    let now = it.1 in
    let state : now.row.on ≡ on = sym (e ∙ ap (λ o. option_map_or (λ (r : Row). r.on) o false) now.may.row) in
    record { undone = now.undone; row = now.row; may = now.may; state = state }

-- A row that may be picked now and is off is one that a pick shuts at once.
pub is_off : (rows : List Row) (t i : ℕ) → PicksNow rows t i false → PicksOff rows t i
is_off rows t i it = record { undone = it.undone; row = it.row; may = it.may; off = it.state }

-- A row that is off and is picked is shut: that is the answer for it.
pub shuts_this : (rows : List Row) (next t i : ℕ) (on : Bool) → on ≡ false → PicksNow rows t i on → AnswersThis rows next t i (pick.Shuts i)
shuts_this rows next t i on off it = record { answers = is_off rows t i (subst (PicksNow rows t i) off it); this = refl }

-- A row that is on and is picked is to be stopped: that is the answer for it.
pub stops_this : (rows : List Row) (next t i : ℕ) (on : Bool) (work : Work) (eager : List ℕ) → on ≡ true → PicksNow rows t i on → eager ≡ [] → ((r : Row) → row_of rows i ≡ Some r → work ≡ program_work rows next r eager) → AnswersThis rows next t i (pick.Stops work)
stops_this rows next t i on work eager yes_on it none made =
    let now : PicksNow rows t i true = subst (PicksNow rows t i) yes_on it in
    record {
      answers = picks_on rows next t i work eager now none made;
      this = ap (λ (v : Work). v.inc) (made now.row now.may.row) ∙ row_of-inc rows i now.row now.may.row;
    }

-- what chooses a row isn't waiting
pub chosen_can : (w : World) (t i : ℕ) (a : PickAnswer) → PicksOrWaits w t a → Chooses i a → CanPick w.rows t
chosen_can w t i (pick.Busy n) it this = absurd this
chosen_can w t i pick.Done it this = absurd this
chosen_can w t i (pick.Shuts j) it this = record { inc = j; row = it.row; may = it.may }
chosen_can w t i (pick.Stops work) it this = record { inc = work.inc; row = it.row; may = it.may }

-- Where a pick has some row to choose, it is never refused because it has to wait.
pub never_busy : (s : Story) (t : ℕ) (e : NoStep) → CanPick (world_of s).rows t → RefusesStep s 2 (WaitsToPick (world_of s) t) e → RefusesStep s 2 (λ a. ⊥) e
never_busy s t (Busy a) can it = absurd (it.1.stuck can)
never_busy s t HistoryFull can it = it
never_busy s t Memory can it = it
