-- Rows that are removed, and rows that are added.
use Rattle.std.proofs.Common.{◌≡◌, ℕ, ◌==◌, List, [], ◌∷◌, ◌++◌, Bool, true, false, cond, not, ◌&&◌, ◌||◌, true≢false, Some, None, map, refl, sym, ◌∙◌, ap}
use Rattle.std.specs.List.{filter_map}
use Rattle.cm_names.specs.declared.moniker.Moniker.{Moniker}
use Rattle.cm_world.specs.declared.row.Row.{Row}
use Rattle.cm_world.specs.declared.action.Act.{Act}
use Rattle.cm_world.specs.declared.report.Lost.{Lost}
use Rattle.cm_world.specs.Rows.{row_of, moniker_of}
use Rattle.cm_world.specs.Marks.{lost_of}
use Rattle.cm_world.specs.End.{changed, set_closing, set_doomed}
use Rattle.cm_world.proofs.lemmas.trees.Finding.{row_of-inc}
use Rattle.cm_laws.specs.Tasks.{IsTasked}
use Rattle.cm_steps.specs.Reporting.{lost_row}
use Rattle.cm_laws.proofs.lemmas.actions.Tasks.{only_by, tasked_changed}
use Rattle.cm_laws.proofs.lemmas.sound.Tasks.{tasked_more}

-- ---- behind a purge

-- what may be purged and lives is shut with all below it
pub purge_shut : (lives doomed shut : Bool) → lives ≡ true → (not lives || (doomed && shut)) ≡ true → shut ≡ true
purge_shut true true shut l e = e
purge_shut true false shut l e = absurd (true≢false (sym e))
purge_shut false doomed shut l e = absurd (true≢false (sym l))

-- ---- behind a mark

-- Rows and actions agree still, where a row is marked to be shut down, or to be destroyed.
pub tasked_marked : (rows : List Row) (acts : List Act) (i : ℕ) (doom : Bool) → IsTasked rows acts → IsTasked (changed i (cond doom set_doomed set_closing) rows) acts
tasked_marked rows acts i true tasked = tasked_changed rows acts i set_doomed (λ r. refl) (λ r. refl) (λ r. refl) tasked
tasked_marked rows acts i false tasked = tasked_changed rows acts i set_closing (λ r. refl) (λ r. refl) (λ r. refl) tasked

-- ---- behind a create

-- what is pending where behind a new row
pub tasked_added : (rows : List Row) (acts : List Act) (x : Row) → x.pending ≡ None → IsTasked rows acts → IsTasked (rows ++ x ∷ []) acts
tasked_added rows acts x idle tasked =
    tasked_more rows (x ∷ []) acts tasked (λ i r e. sym (ap (λ z. z.pending) (only_by (x.inc == i) x r e)) ∙ idle)

-- ---- what is removed, row by row

-- A row's incarnation and its moniker are what a purge tells of it.
pub is_lost : (rows : List Row) (i : ℕ) (m : Moniker) (r : Row) → m ≡ moniker_of rows i → row_of rows i ≡ Some r → Some (record { inc = i; moniker = m }) ≡ lost_row rows r
is_lost rows i m r m_is lives =
    let made : ℕ → Moniker → Lost = λ j n. record { inc = j; moniker = n } in
    ap (λ n. Some (made i n)) m_is
    ∙ ap (λ j. Some (made j (moniker_of rows j))) (sym (row_of-inc rows i r lives))

-- All that is removed is told as lost, each by its own row.
pub lost_all : (rows xs : List Row) → filter_map (lost_row rows) xs ≡ map (lost_of rows) xs
lost_all rows [] = refl
lost_all rows (x ∷ xs) = ap (λ l. lost_of rows x ∷ l) (lost_all rows xs)
