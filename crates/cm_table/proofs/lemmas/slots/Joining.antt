-- A child that is added, among slots.
use Rattle.std.proofs.Common.{◌≡◌, ℕ, ◌+◌, ◌≤◌, List, [], ◌∷◌, ◌++◌, Option, Some, None, IsSome, is_some, IsTrue, refl, sym, ◌∙◌, ap}
use Rattle.cm_names.specs.declared.child.ChildName.{ChildName}
use Rattle.cm_names.specs.declared.moniker.Moniker.{Moniker}
use Rattle.cm_decl.specs.declared.rows.Give.{Give}
use Rattle.cm_world.specs.declared.row.Row.{Row}
use Rattle.cm_world.specs.Rows.{row_of, is_resolved, child_of}
use Rattle.cm_world.specs.World.{new_row}
use Rattle.cm_world.specs.Sound.{IsOrderly}
use Rattle.cm_table.specs.declared.marks.MarksAbove.{MarksAbove}
use Rattle.cm_table.specs.declared.slot.Slot.{Slot}
use Rattle.cm_table.specs.Keys.{EachItem, EachOf}
use Rattle.cm_table.specs.Slots.{slot_of, rows_in, base_of, IsIndexed}
use Rattle.cm_table.specs.Links.{IsLinked}
use Rattle.cm_table.specs.Numbering.{bare_slot}
use Rattle.cm_trees.proofs.rows.Rows.{lives_below}
use Rattle.cm_table.proofs.lemmas.lists.EachItem.{each_map}
use Rattle.cm_trees.proofs.rows.Adding.{resolved_by}
use Rattle.cm_table.proofs.lemmas.slots.Rowed.{some_rows, rows_append, rows_same}
use Rattle.cm_table.proofs.lemmas.indexes.Indexing.{all_linked, each_at}

-- The slot of a resolved parent is there.
pub parent_found : (ss : List Slot) (p : ℕ) → IsTrue (is_resolved (rows_in ss) p) → IsSome (slot_of ss p)
parent_found ss p resolved =
    let q : (q : Row) × (row_of (rows_in ss) p ≡ Some q) × IsSome q.decl = resolved_by (row_of (rows_in ss) p) resolved in
    sym (some_rows ss p) ∙ ap is_some q.1

-- No slot's index counts from a number above the next incarnation, where all indexes are right.
pub bases_low : (ss : List Slot) (rows : List Row) (next : ℕ) → EachItem (IsIndexed rows next) ss → EachItem (λ s. base_of s.index ≤ next) ss
bases_low ss rows next all = each_map (IsIndexed rows next) (λ s. base_of s.index ≤ next) ss (λ s h. h.base) all

-- With a child linked, and its slot put behind, the rows are those before and the child's.
pub rows_joined : (ss mid ts : List Slot) (p next : ℕ) (name : ChildName) (r : Row) (m : MarksAbove) (kept : Option Moniker) → EachOf (IsLinked p name next) ss mid → ts ≡ mid ++ bare_slot r m kept ∷ [] → rows_in ts ≡ rows_in ss ++ r ∷ []
rows_joined ss mid ts p next name r m kept links pushed =
    ap rows_in pushed ∙ rows_append mid (bare_slot r m kept ∷ []) ∙ ap (λ l. l ++ r ∷ []) (rows_same (IsLinked p name next) (λ s t u. u.row) ss mid links)

-- Indexes stay right where a child is added below a resolved row by a name that no other has.
pub all_joined : (ss mid ts : List Slot) (next p : ℕ) (name : ChildName) (url : List ℕ) (gives : List Give) (m : MarksAbove) (kept : Option Moniker) → IsOrderly (rows_in ss) next → IsTrue (is_resolved (rows_in ss) p) → child_of (rows_in ss) p name ≡ None → EachOf (IsLinked p name next) ss mid → ts ≡ mid ++ bare_slot (new_row next (Some p) (Some name) url gives) m kept ∷ [] → EachItem (IsIndexed (rows_in ss) next) ss → EachItem (IsIndexed (rows_in ts) (next + 1)) ts
all_joined ss mid ts next p name url gives m kept o resolved unused links pushed all =
    let r : Row = new_row next (Some p) (Some name) url gives in
    let q : (q : Row) × (row_of (rows_in ss) p ≡ Some q) × IsSome q.decl = resolved_by (row_of (rows_in ss) p) resolved in
    each_at (rows_in ss ++ r ∷ []) (rows_in ts) (next + 1) (mid ++ bare_slot r m kept ∷ []) ts (rows_joined ss mid ts p next name r m kept links pushed) pushed
    (all_linked ss mid next p name r (bare_slot r m kept) refl refl refl (record { under = refl; named = refl; alive = refl }) o (lives_below (rows_in ss) next p q.0 o.increasing q.1) unused links all)
