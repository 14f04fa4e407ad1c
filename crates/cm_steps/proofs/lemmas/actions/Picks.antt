-- The reply to a pick that begins a stop.
use Rattle.std.proofs.Common.{◌≡◌, ℕ, List, [], true, Some, sym, ◌∙◌, ap, subst}
use Rattle.cm_world.specs.declared.row.Row.{Row}
use Rattle.cm_world.specs.declared.action.Work.{Work}
use Rattle.cm_world.specs.Rows.{row_of}
use Rattle.cm_world.specs.Work.{program_work}
use Rattle.cm_world.specs.Stopping.{MayPick}
use Rattle.cm_world.specs.Step.{PicksOn}
use Rattle.cm_world.proofs.lemmas.trees.Finding.{row_of-inc}
use Rattle.cm_order.specs.Picking.{PicksNow}

-- a row that is on is to be stopped, by this work
pub picks_on : (rows : List Row) (next target i : ℕ) (work : Work) (eager : List ℕ) → PicksNow rows target i true → eager ≡ [] → ((r : Row) → row_of rows i ≡ Some r → work ≡ program_work rows next r eager) → PicksOn rows next target work
picks_on rows next target i work eager it none made =
    let same : work ≡ program_work rows next it.row [] = made it.row it.may.row ∙ ap (program_work rows next it.row) none in
    let here : i ≡ work.inc = sym (ap (λ v. v.inc) same ∙ row_of-inc rows i it.row it.may.row) in
    record { undone = it.undone; row = it.row; may = subst (λ j. MayPick rows target j it.row) here it.may; on = it.state; same = same }
