-- What is being shut down is so still when a stop has ended there.
use Rattle.std.proofs.Common.{◌≡◌, ℕ, List, Bool, true, false, cond, true≢false, Some, IsSome, IsTrue, length, sym, ◌∙◌, ap, subst, inl}
use Rattle.cm_world.specs.declared.row.Row.{Row}
use Rattle.cm_world.specs.declared.action.Outcome.{Outcome}
use Rattle.cm_world.specs.declared.action.Outcome.TheVariants as outcome
use Rattle.cm_world.specs.declared.action.Finish.{Finish}
use Rattle.cm_world.specs.declared.action.Finish.TheVariants as finish
use Rattle.cm_world.specs.Rows.{row_of, is_closing, is_closed, is_shut}
use Rattle.cm_world.specs.World.{rows_fit}
use Rattle.cm_world.specs.End.{changed, end_row, rows_by, outcome_by}
use Rattle.cm_world.specs.Expiring.{is_stopped}
use Rattle.cm_world.specs.Sound.{IsOrderly}
use Rattle.cm_trees.proofs.rows.Rows.{row_of-changed}
use Rattle.cm_trees.proofs.rows.Orderly.{IsKeeping, orderly_changed}
use Rattle.cm_trees.proofs.trees.Trees.{or_left}
use Rattle.cm_laws.proofs.lemmas.sound.Above.{above_lives}
use Rattle.cm_laws.proofs.lemmas.sound.Rows.{closing_lasts, follows_changed}
use Rattle.cm_laws.proofs.lemmas.sound.Marks.{IsLight, light_end, light_lasts}
use Rattle.cm_laws.proofs.lemmas.sound.Healthy.{IsHealthy}
use Rattle.cm_laws.proofs.lemmas.lasting.MarksLast.{healthy_of}
use Rattle.cm_steps.specs.declared.realm.Realm.TheInside.{Inside}
use Rattle.cm_steps.specs.Inside.{story_of, world_in, LeavesTree}

-- the rows of a realm are orderly
pub orderly_in : (a : Inside) → LeavesTree (story_of a) (world_in a) → IsOrderly a.table.rows a.table.next_inc
orderly_in a stands =
    let healthy : IsHealthy (world_in a) = subst IsHealthy stands.world (healthy_of (story_of a) stands.legal) in
    healthy.sound.orderly

-- A change of whether a row is on and what is pending keeps its place, and brings nothing invalid.
keeping : (f : Row → Row) → IsLight f → IsKeeping f
keeping f light = record {
  inc = light.inc;
  parent = light.parent;
  name = light.name;
  doomed = λ r h. sym (light.doomed r) ∙ h;
  resolved = λ r h. subst IsSome (sym (light.decl r)) h;
  valid = λ r d e. inl (sym (light.decl r) ∙ e);
}

-- A change of a row that keeps its marks keeps what is closing.
light_closing : (rows : List Row) (next i : ℕ) (f : Row → Row) → IsLight f → IsOrderly rows next → IsTrue (is_closing rows i) → IsTrue (is_closing (changed i f rows) i)
light_closing rows next i f light was closing =
    let row : (r : Row) × (row_of rows i ≡ Some r) = above_lives (λ r. r.closing) rows i closing in
    closing_lasts rows (changed i f rows) next next next was (orderly_changed f (keeping f light) i next rows was)
    (follows_changed rows i f light.inc next (light_lasts f light)) i (f row.0) (row_of-changed i f light.inc rows row.0 row.1) closing

-- A resolve that ended well, or found no room, isn't a stop.
not_stopped : (b : Bool) → is_stopped (cond b outcome.Resolved outcome.Full) ≡ true → ⊥
not_stopped true e = absurd (true≢false (sym e))
not_stopped false e = absurd (true≢false (sym e))

-- What is closing is closed behind the end of a stop.
pub still_closed : (limit next i : ℕ) (f : Finish) (o : Outcome) (rows : List Row) → IsOrderly rows next → o ≡ outcome_by limit rows next f → is_stopped o ≡ true → IsTrue (is_closing rows i) → IsTrue (is_closed (rows_by i next f o rows) i)
still_closed limit next i (finish.Other p) o rows was is stopped closing =
    or_left (is_closing (changed i (end_row o) rows) i) (is_shut (changed i (end_row o) rows) i)
    (light_closing rows next i (end_row o) (light_end o) was closing)
still_closed limit next i (finish.Resolved url d) o rows was is stopped closing =
    absurd (not_stopped (rows_fit limit rows next (length d.children)) (sym (ap is_stopped is) ∙ stopped))
