-- A row that gets its declaration and the index of its children, and the children behind all rows.
use Rattle.std.proofs.Common.{◌≡◌, ℕ, ◌+◌, ◌<◌, List, ◌++◌, false, Some, None, IsTrue, length, refl, sym, ◌∙◌, ap, subst}
use Rattle.cm_facts.proofs.Options.{is_some_true}
use Rattle.cm_decl.specs.declared.decl.Decl.{Decl}
use Rattle.cm_decl.specs.Valid.{IsValid}
use Rattle.cm_world.specs.declared.row.Row.{Row}
use Rattle.cm_world.specs.declared.action.Outcome.TheVariants as outcome
use Rattle.cm_world.specs.declared.action.Finish.TheVariants as finish
use Rattle.cm_world.specs.Rows.{row_of, has_parent, is_live, decl_of}
use Rattle.cm_world.specs.End.{changed, child_rows, rows_by}
use Rattle.cm_world.specs.Sound.{IncarnationsIncrease, IsOrderly}
use Rattle.cm_table.specs.declared.slot.Slot.{Slot}
use Rattle.cm_table.specs.declared.slot.ChildIndex.{ChildIndex}
use Rattle.cm_table.specs.declared.change.Change.TheVariants.{Resolve}
use Rattle.cm_table.specs.Keys.{EachItem, Increasing}
use Rattle.cm_table.specs.Slots.{inc_of, rows_in, indexed_by, with_row_by, IsIndexed}
use Rattle.cm_table.specs.Numbering.{IsBare}
use Rattle.cm_table.specs.Change.{change_row}
use Rattle.cm_trees.proofs.rows.Rows.{lives_below, Was, was_before}
use Rattle.cm_trees.proofs.rows.Orderly.{IsKeeping, kept_parent, orderly_changed}
use Rattle.cm_trees.proofs.rows.Growth.{childless}
use Rattle.cm_table.proofs.lemmas.tree.Changes.{keeping, spares}
use Rattle.cm_table.proofs.lemmas.lists.Editing.{edited}
use Rattle.cm_table.proofs.lemmas.slots.Rowed.{rows_changed, rows_indexed, rows_append, slots_rise}
use Rattle.cm_table.proofs.lemmas.indexes.Children.{NoneHas, each_row, has_by}
use Rattle.cm_table.proofs.lemmas.indexes.Indexing.{IsNew, all_changed, all_grown, each_at}
use Rattle.cm_trees.proofs.rows.Taking.{unresolved_row}

-- what became of the slots
pub record IsTaken (ss mid put ts news : List Slot) (i : ℕ) (a : List ℕ) (d : Decl) (x : ChildIndex) : Type 0 where
  pub changed : mid ≡ edited inc_of i (with_row_by (change_row (Resolve a d))) ss
  pub indexed : put ≡ edited inc_of i (indexed_by (Some x)) mid
  pub pushed : ts ≡ put ++ news

-- The rows where this one got its declaration, with the rows of its children.
abbrev pub taken_rows : ℕ → ℕ → List ℕ → Decl → List Row → List Row
taken_rows i next a d rows = rows_by i next (finish.Resolved a d) outcome.Resolved rows

-- The rows of slots in which one gets its declaration are the rows with it resolved.
mid_rows : (ss mid : List Slot) (i : ℕ) (a : List ℕ) (d : Decl) → mid ≡ edited inc_of i (with_row_by (change_row (Resolve a d))) ss → rows_in mid ≡ changed i (change_row (Resolve a d)) (rows_in ss)
mid_rows ss mid i a d e = ap rows_in e ∙ rows_changed i (change_row (Resolve a d)) ss

-- Slots where one got its declaration, and those of its children, have the rows of a resolve.
pub rows_taken : (ss mid put ts news : List Slot) (i next : ℕ) (a : List ℕ) (d : Decl) (x : ChildIndex) → IsTaken ss mid put ts news i a d x → rows_in news ≡ child_rows i next d.children → rows_in ts ≡ taken_rows i next a d (rows_in ss)
rows_taken ss mid put ts news i next a d x t numbered =
    ap rows_in t.pushed ∙ rows_append put news ∙ ap (λ l. rows_in put ++ l) numbered
    ∙ ap (λ l. l ++ child_rows i next d.children) (ap rows_in t.indexed ∙ rows_indexed i (Some x) mid ∙ mid_rows ss mid i a d t.changed)

-- Incarnations increase along slots of which one got a valid declaration.
pub mid_rises : (ss mid : List Slot) (i next : ℕ) (a : List ℕ) (d : Decl) → IsOrderly (rows_in ss) next → IsValid d → mid ≡ edited inc_of i (with_row_by (change_row (Resolve a d))) ss → Increasing inc_of mid
mid_rises ss mid i next a d o valid e =
    slots_rise next mid (subst (IncarnationsIncrease next) (sym (mid_rows ss mid i a d e)) (orderly_changed (change_row (Resolve a d)) (keeping (Resolve a d) valid) i next (rows_in ss) o).increasing)

-- No row has an unresolved row as parent when that gets its declaration.
no_children : (rows : List Row) (i next : ℕ) (a : List ℕ) (d : Decl) → IsOrderly rows next → IsValid d → IsTrue (is_live rows i) → decl_of rows i ≡ None → NoneHas i (changed i (change_row (Resolve a d)) rows)
no_children rows i next a d o valid lives unresolved =
    let f : Row → Row = change_row (Resolve a d) in
    let k : IsKeeping f = keeping (Resolve a d) valid in
    let row : (q : Row) × (row_of rows i ≡ Some q) = is_some_true (row_of rows i) lives in
    let none : row.0.decl ≡ None = unresolved_row (row_of rows i) row.0 row.1 unresolved in
    each_row (λ r. has_parent i r ≡ false) next (changed i f rows) (orderly_changed f k i next rows o).increasing (λ r here. has_by i r r.parent refl (λ up.
    let w : Was f (row_of rows r.inc) r = was_before i f k.inc rows r.inc r here in
    childless rows next i row.0 o row.1 none r.inc w.row w.was (sym (kept_parent f k r w.row w.is) ∙ up)))

-- Indexes are right where an unresolved row got its declaration, the index and its children's slots.
pub all_taken : (ss mid put ts news : List Slot) (i next : ℕ) (a : List ℕ) (d : Decl) (x : ChildIndex) → IsTaken ss mid put ts news i a d x → IsOrderly (rows_in ss) next → IsTrue (is_live (rows_in ss) i) → decl_of (rows_in ss) i ≡ None → IsValid d → IsNew x i next d.children → rows_in news ≡ child_rows i next d.children → EachItem IsBare news → EachItem (IsIndexed (rows_in ss) next) ss → EachItem (IsIndexed (rows_in ts) (next + length d.children)) ts
all_taken ss mid put ts news i next a d x t o lives unresolved valid new numbered bare all =
    let f : Row → Row = change_row (Resolve a d) in
    let row : (q : Row) × (row_of (rows_in ss) i ≡ Some q) = is_some_true (row_of (rows_in ss) i) lives in
    let low : i < next = lives_below (rows_in ss) next i row.0 o.increasing row.1 in
    let moved : EachItem (IsIndexed (changed i f (rows_in ss)) next) mid = subst (EachItem (IsIndexed (changed i f (rows_in ss)) next)) (sym t.changed) (all_changed i f (spares (Resolve a d) tt) (rows_in ss) next ss all) in
    each_at (taken_rows i next a d (rows_in ss)) (rows_in ts) (next + length d.children) (edited inc_of i (indexed_by (Some x)) mid ++ news) ts
    (rows_taken ss mid put ts news i next a d x t numbered) (t.pushed ∙ ap (λ l. l ++ news) t.indexed)
    (all_grown (changed i f (rows_in ss)) mid news next i d.children x (mid_rows ss mid i a d t.changed)
    (orderly_changed f (keeping (Resolve a d) valid) i next (rows_in ss) o) low (no_children (rows_in ss) i next a d o valid lives unresolved) new numbered bare moved)
