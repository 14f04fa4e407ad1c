-- Where an action may begin.
use Rattle.std.proofs.Common.{◌≡◌, ℕ, List, Some, refl}
use Rattle.cm_world.specs.declared.row.Row.{Row}
use Rattle.cm_world.specs.declared.action.ActKind.{ActKind}
use Rattle.cm_world.specs.declared.action.ActKind.TheVariants.{Resolve, Start, Stop}
use Rattle.cm_world.specs.declared.action.Work.{Work}
use Rattle.cm_world.specs.declared.reply.Reply.TheVariants.{Begun}
use Rattle.cm_world.specs.Rows.{row_of}
use Rattle.cm_world.specs.Begin.{same_act, begin_reply}
use Rattle.cm_world.specs.Step.{PicksOn}
use Rattle.cm_world.specs.After.{new_act}
use Rattle.cm_laws.proofs.lemmas.actions.Begun.{IsIdle, begun_row}
use Rattle.cm_steps.specs.Tasks.{is_open_resolve, IsIdleAt}

-- where a begin replies with work, an action may begin
pub idle_begun : (rows : List Row) (next i : ℕ) (kind : ActKind) (work : Work) → begin_reply rows next kind i ≡ Some (Begun work) → IsIdleAt rows kind i
idle_begun rows next i kind work e =
    let it : IsIdle rows next kind work (row_of rows i) = begun_row rows next i kind work e in
    record { row = it.row; lives = it.lives; idle = it.idle; unresolved = it.unresolved }

-- A row that a stop is picked for is idle.
pub idle_picked : (rows : List Row) (next target : ℕ) (work : Work) → PicksOn rows next target work → IsIdleAt rows Stop work.inc
idle_picked rows next target work picks = record { row = picks.row; lives = picks.may.row; idle = picks.may.idle; unresolved = λ e. absurd (cc) }

-- a new action is an open resolve where it is a resolve
pub new_resolve : (n i caller : ℕ) (kind : ActKind) → is_open_resolve (new_act n kind i caller) ≡ same_act kind Resolve
new_resolve n i caller Resolve = refl
new_resolve n i caller Start = refl
new_resolve n i caller Stop = refl
