-- Slots and their rows.
use Rattle.std.proofs.Common.{◌≡◌, ℕ, suc, ◌<◌, ap₂, List, [], ◌∷◌, ◌++◌, Bool, true, false, cond, ◌==◌, Option, Some, None, IsSome, is_some, refl, sym, ap, ◌∙◌, subst, length}
use Rattle.std.specs.Prelude.{option_map}
use Rattle.cm_world.specs.declared.row.Row.{Row}
use Rattle.cm_world.specs.Rows.{row_of}
use Rattle.cm_world.specs.End.{changed}
use Rattle.cm_world.specs.Sound.{IncarnationsIncrease}
use Rattle.cm_table.specs.declared.slot.Slot.{Slot}
use Rattle.cm_table.specs.declared.slot.ChildIndex.{ChildIndex}
use Rattle.cm_table.specs.Keys.{EachOf, Increasing}
use Rattle.cm_table.specs.Slots.{inc_of, slot_of, rows_in, indexed_by, with_row_by}
use Rattle.cm_table.specs.Links.{IsUnlinked}
use Rattle.cm_table.proofs.lemmas.tree.Leaves.{without}
use Rattle.cm_table.proofs.lemmas.lists.Editing.{edited, dropped}

-- The row that is found is that of the slot that is found, if so in the rest.
row_by : (t : Bool) (s : Slot) (o : Option Slot) (p : Option Row) → p ≡ option_map (λ s. s.row) o → cond t (Some s.row) p ≡ option_map (λ s. s.row) (cond t (Some s) o)
row_by true s o p e = refl
row_by false s o p e = e

-- The row of an incarnation among slots is the row of its slot, if it has one.
pub row_of-slots : (ss : List Slot) (i : ℕ) → row_of (rows_in ss) i ≡ option_map (λ s. s.row) (slot_of ss i)
row_of-slots [] i = refl
row_of-slots (s ∷ ss) i = row_by (s.row.inc == i) s (slot_of ss i) (row_of (rows_in ss) i) (row_of-slots ss i)

-- A slot is there exactly where its row is.
some_mapped : (o : Option Slot) → is_some (option_map (λ s. s.row) o) ≡ is_some o
some_mapped None = refl
some_mapped (Some s) = refl

-- An incarnation has a row among slots exactly where it has a slot.
pub some_rows : (ss : List Slot) (i : ℕ) → is_some (row_of (rows_in ss) i) ≡ is_some (slot_of ss i)
some_rows ss i = ap is_some (row_of-slots ss i) ∙ some_mapped (slot_of ss i)

-- slots rise where their rows do
pub slots_rise : (next : ℕ) (ss : List Slot) → IncarnationsIncrease next (rows_in ss) → Increasing inc_of ss
slots_rise next [] r = tt
slots_rise next (s ∷ ss) r = (λ j h. r.0.1 j (some_rows ss j ∙ h), slots_rise next ss r.1)

-- The rows in two lists of slots are those in the first, and behind them those in the second.
pub rows_append : (xs ys : List Slot) → rows_in (xs ++ ys) ≡ rows_in xs ++ rows_in ys
rows_append [] ys = refl
rows_append (x ∷ xs) ys = ap (λ l. x.row ∷ l) (rows_append xs ys)

-- There are as many rows as slots.
pub rows_length : (ss : List Slot) → length (rows_in ss) ≡ length ss
rows_length [] = refl
rows_length (s ∷ ss) = ap suc (rows_length ss)

-- The rows stay as they are where the index of a slot is changed, if so in the rest.
indexed_row : (t : Bool) (s : Slot) (x : Option ChildIndex) (ss es : List Slot) → rows_in es ≡ rows_in ss → rows_in (cond t (indexed_by x s ∷ ss) (s ∷ es)) ≡ s.row ∷ rows_in ss
indexed_row true s x ss es e = refl
indexed_row false s x ss es e = ap (λ l. s.row ∷ l) e

-- another index changes no row
pub rows_indexed : (i : ℕ) (x : Option ChildIndex) (ss : List Slot) → rows_in (edited inc_of i (indexed_by x) ss) ≡ rows_in ss
rows_indexed i x [] = refl
rows_indexed i x (s ∷ ss) = indexed_row (s.row.inc == i) s x ss (edited inc_of i (indexed_by x) ss) (rows_indexed i x ss)

-- The rows of slots behind a change of one row are the changed rows, if so in the rest.
changed_row : (t : Bool) (s : Slot) (f : Row → Row) (ss es : List Slot) (rs : List Row) → rows_in es ≡ rs → rows_in (cond t (with_row_by f s ∷ ss) (s ∷ es)) ≡ cond t (f s.row ∷ rows_in ss) (s.row ∷ rs)
changed_row true s f ss es rs e = refl
changed_row false s f ss es rs e = ap (λ l. s.row ∷ l) e

-- To change a slot's row by its incarnation is to change that row among the rows.
pub rows_changed : (i : ℕ) (f : Row → Row) (ss : List Slot) → rows_in (edited inc_of i (with_row_by f) ss) ≡ changed i f (rows_in ss)
rows_changed i f [] = refl
rows_changed i f (s ∷ ss) = changed_row (s.row.inc == i) s f ss (edited inc_of i (with_row_by f) ss) (changed i f (rows_in ss)) (rows_changed i f ss)

-- The rows of slots with one taken away are the rows without its row, if so in the rest.
dropped_row : (t : Bool) (s : Slot) (ss es : List Slot) (rs : List Row) → rows_in es ≡ rs → rows_in (cond t ss (s ∷ es)) ≡ cond t (rows_in ss) (s.row ∷ rs)
dropped_row true s ss es rs e = refl
dropped_row false s ss es rs e = ap (λ l. s.row ∷ l) e

-- The rows in slots without one of an incarnation are those without its row.
pub rows_dropped : (i : ℕ) (ss : List Slot) → rows_in (dropped inc_of i ss) ≡ without i (rows_in ss)
rows_dropped i [] = refl
rows_dropped i (s ∷ ss) = dropped_row (s.row.inc == i) s ss (dropped inc_of i ss) (without i (rows_in ss)) (rows_dropped i ss)

-- slots with the same rows one by one
pub rows_same : (R : Slot → Slot → Type 0) → ((s t : Slot) → R s t → t.row ≡ s.row) → (ss ts : List Slot) → EachOf R ss ts → rows_in ts ≡ rows_in ss
rows_same R same [] [] rel = refl
rows_same R same [] (t ∷ ts) rel = absurd rel
rows_same R same (s ∷ ss) [] rel = absurd rel
rows_same R same (s ∷ ss) (t ∷ ts) rel = ap₂ (λ r l. r ∷ l) (same s t rel.0) (rows_same R same ss ts rel.1)

-- slots whose indexes forget an instance have the same rows, and rise
pub unlinked_rows : (gone : Bool) (i : ℕ) (ss mid : List Slot) → EachOf (IsUnlinked i gone) ss mid → rows_in mid ≡ rows_in ss
unlinked_rows gone i ss mid links = rows_same (IsUnlinked i gone) (λ s t u. u.row) ss mid links

-- Where incarnations increase, they do along slots in which a row was unlinked.
pub unlinked_rise : (gone : Bool) (i next : ℕ) (ss mid : List Slot) → IncarnationsIncrease next (rows_in ss) → EachOf (IsUnlinked i gone) ss mid → Increasing inc_of mid
unlinked_rise gone i next ss mid increasing links = slots_rise next mid (subst (IncarnationsIncrease next) (sym (unlinked_rows gone i ss mid links)) increasing)

-- an index that is put in place of another
twice_by : (t : Bool) (i : ℕ) (x y : Option ChildIndex) (s : Slot) (ss : List Slot) → (s.row.inc == i) ≡ t → edited inc_of i (indexed_by y) (edited inc_of i (indexed_by x) ss) ≡ edited inc_of i (indexed_by y) ss → edited inc_of i (indexed_by y) (cond t (indexed_by x s ∷ ss) (s ∷ edited inc_of i (indexed_by x) ss)) ≡ cond t (indexed_by y s ∷ ss) (s ∷ edited inc_of i (indexed_by y) ss)
twice_by true i x y s ss own later = ap (λ t. cond t (indexed_by y s ∷ ss) (indexed_by x s ∷ edited inc_of i (indexed_by y) ss)) own
twice_by false i x y s ss own later =
    ap (λ t. cond t (indexed_by y s ∷ edited inc_of i (indexed_by x) ss) (s ∷ edited inc_of i (indexed_by y) (edited inc_of i (indexed_by x) ss))) own ∙ ap (λ l. s ∷ l) later

-- A slot that gets an index and then another one has the second.
pub indexed_twice : (i : ℕ) (x y : Option ChildIndex) (ss : List Slot) → edited inc_of i (indexed_by y) (edited inc_of i (indexed_by x) ss) ≡ edited inc_of i (indexed_by y) ss
indexed_twice i x y [] = refl
indexed_twice i x y (s ∷ ss) = twice_by (s.row.inc == i) i x y s ss refl (indexed_twice i x y ss)

-- slots rise whatever their indexes are
some_either : (t : Bool) (a b : Slot) (o p : Option Slot) → is_some o ≡ is_some p → is_some (cond t (Some a) o) ≡ is_some (cond t (Some b) p)
some_either true a b o p e = refl
some_either false a b o p e = e

-- Slots are found as before behind a change of one's index, if so in the rest.
some_indexed_by : (t : Bool) (x : Option ChildIndex) (s : Slot) (ss es : List Slot) (j : ℕ) → is_some (slot_of es j) ≡ is_some (slot_of ss j) → is_some (slot_of (cond t (indexed_by x s ∷ ss) (s ∷ es)) j) ≡ is_some (slot_of (s ∷ ss) j)
some_indexed_by true x s ss es j e = some_either (s.row.inc == j) (indexed_by x s) s (slot_of ss j) (slot_of ss j) refl
some_indexed_by false x s ss es j e = some_either (s.row.inc == j) s s (slot_of es j) (slot_of ss j) e

-- A slot is found behind a change of an index exactly where it was found before.
some_indexed : (i : ℕ) (x : Option ChildIndex) (ss : List Slot) (j : ℕ) → is_some (slot_of (edited inc_of i (indexed_by x) ss) j) ≡ is_some (slot_of ss j)
some_indexed i x [] j = refl
some_indexed i x (s ∷ ss) j = some_indexed_by (s.row.inc == i) x s ss (edited inc_of i (indexed_by x) ss) j (some_indexed i x ss j)

-- Slots increase by incarnation behind a change of one's index, if so in the rest.
increasing_by : (t : Bool) (x : Option ChildIndex) (s : Slot) (ss es : List Slot) → Increasing inc_of (s ∷ ss) → ((j : ℕ) → IsSome (slot_of es j) → s.row.inc < j) → Increasing inc_of es → Increasing inc_of (cond t (indexed_by x s ∷ ss) (s ∷ es))
increasing_by true x s ss es r up later = (r.0, r.1)
increasing_by false x s ss es r up later = (up, later)

-- Where incarnations increase along slots, they do with another index in one.
pub increasing_indexed : (i : ℕ) (x : Option ChildIndex) (ss : List Slot) → Increasing inc_of ss → Increasing inc_of (edited inc_of i (indexed_by x) ss)
increasing_indexed i x [] r = tt
increasing_indexed i x (s ∷ ss) r =
    increasing_by (s.row.inc == i) x s ss (edited inc_of i (indexed_by x) ss) r (λ j h. r.0 j (sym (some_indexed i x ss j) ∙ h)) (increasing_indexed i x ss r.1)
