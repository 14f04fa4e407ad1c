-- When no row may be picked.
use Rattle.std.proofs.Common.{◌≡◌, ℕ, List, Bool, true, false, not, ◌||◌, ◌==◌, true≢false, Some, is_some, sym, ◌∙◌, ap, subst, IsTrue}
use Rattle.std.specs.List.{list_all}
use Rattle.cm_world.specs.declared.row.Row.{Row}
use Rattle.cm_world.specs.Rows.{is_below}
use Rattle.cm_world.specs.Stopping.{MayPick, CanPick, outermost}
use Rattle.cm_world.proofs.lemmas.trees.Finding.{some_same, row_of-inc, find-all}

-- whether a row isn't below the top, or is shut, or has a pending action
abbrev pub is_stuck : List Row → ℕ → Row → Bool
is_stuck rows top r = not (is_below rows top r.inc) || (r.shut || is_some r.pending)

-- A row below the top, neither shut nor with a pending action, is not stuck.
unstuck : (below shut pending : Bool) → IsTrue below → shut ≡ false → pending ≡ false → IsTrue (not below || (shut || pending)) → ⊥
unstuck true true pending inside open_yet idle h = true≢false open_yet
unstuck true false true inside open_yet idle h = true≢false idle
unstuck true false false inside open_yet idle h = true≢false (sym h)
unstuck false shut pending inside open_yet idle h = true≢false (sym inside)

-- where each row below the target's outermost closing row is shut or has a pending action, none may be picked
pub stuck_pick : (rows : List Row) (target top : ℕ) → outermost rows target ≡ Some top → IsTrue (list_all (is_stuck rows top) rows) → CanPick rows target → ⊥
stuck_pick rows target top closes all can =
    let may : MayPick rows target can.inc can.row = can.may in
    let one : may.top ≡ top = some_same may.top top (sym may.outermost ∙ closes) in
    let own : can.row.inc ≡ can.inc = row_of-inc rows can.inc can.row may.row in
    let below : IsTrue (is_below rows top can.row.inc) = subst (λ i. IsTrue (is_below rows top i)) (sym own) (subst (λ t. IsTrue (is_below rows t can.inc)) one may.below) in
    unstuck (is_below rows top can.row.inc) can.row.shut (is_some can.row.pending) below may.unshut (ap is_some may.idle)
    (find-all (λ s. s.inc == can.inc) (is_stuck rows top) rows can.row all may.row)
