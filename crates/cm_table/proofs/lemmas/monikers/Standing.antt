-- What is kept of where rows stand is so behind each change.
use Rattle.std.proofs.Common.{◌≡◌, ℕ, ◌+◌, List, [], ◌∷◌, ◌++◌, map, Bool, true, false, cond, ◌==◌, Option, Some, None, IsSome, IsTrue, option_and_then, option_to_list, refl, sym, ◌∙◌, ap, subst, Bor, ne_eqb}
use Rattle.std.specs.Prelude.{IfSome}
use Rattle.std.specs.Option.{option_copied}
use Rattle.std.specs.Cmp.{unsigned_Decides}
use Rattle.cm_names.specs.declared.child.ChildName.{ChildName}
use Rattle.cm_names.specs.declared.moniker.Moniker.{Moniker}
use Rattle.cm_facts.proofs.Options.{is_some_true}
use Rattle.cm_decl.specs.declared.decl.Decl.{Decl}
use Rattle.cm_decl.specs.declared.rows.Child.{Child}
use Rattle.cm_decl.specs.declared.rows.Give.{Give}
use Rattle.cm_decl.specs.Valid.{IsValid}
use Rattle.cm_world.specs.declared.row.Row.{Row}
use Rattle.cm_world.specs.Edits.{edit_first, drop_first}
use Rattle.cm_world.specs.End.{changed, child_rows}
use Rattle.cm_world.specs.Rows.{row_of, is_live, is_resolved, moniker_of}
use Rattle.cm_world.specs.RowsInside.{child_behind}
use Rattle.cm_world.specs.Sound.{IsOrderly}
use Rattle.cm_world.specs.World.{new_row}
use Rattle.cm_world.proofs.lemmas.trees.Finding.{none_some, some_same}
use Rattle.cm_table.specs.declared.change.Change.TheVariants as change
use Rattle.cm_table.specs.declared.marks.MarksAbove.{MarksAbove}
use Rattle.cm_table.specs.declared.slot.ChildIndex.{ChildIndex}
use Rattle.cm_table.specs.declared.slot.Slot.{Slot}
use Rattle.cm_table.specs.Change.{change_row}
use Rattle.cm_table.specs.Keys.{EachItem, EachOf}
use Rattle.cm_table.specs.Links.{IsLinked, IsUnlinked}
use Rattle.cm_table.specs.Marking.{unmarked}
use Rattle.cm_table.specs.Monikers.{kept_at, StandWhereKept, IsMonikerBelow, IsChildMoniker}
use Rattle.cm_table.specs.Numbering.{bare_slot}
use Rattle.cm_table.specs.Slots.{inc_of, slot_of, rows_in, with_row_by, indexed_by}
use Rattle.cm_table.proofs.lemmas.lists.BinarySearch.{some_prefix, none_append}
use Rattle.cm_table.proofs.lemmas.lists.EachItem.{each_find}
use Rattle.cm_table.proofs.lemmas.lists.Editing.{edited, dropped}
use Rattle.cm_trees.proofs.rows.Adding.{resolved_by}
use Rattle.cm_table.proofs.lemmas.tree.Changes.{keeping}
use Rattle.cm_table.proofs.lemmas.tree.Leaves.{without, not_taken}
use Rattle.cm_trees.proofs.rows.Orderly.{IsKeeping, orderly_changed}
use Rattle.cm_table.proofs.lemmas.tree.Resolving.{IsTaken}
use Rattle.cm_trees.proofs.rows.Rows.{row_of-changed}
use Rattle.cm_table.proofs.lemmas.slots.Rowed.{rows_append, rows_changed, rows_indexed, rows_same}
use Rattle.cm_table.proofs.lemmas.flags.Flagging.{row_of-slot, slot_of-none, rows_alike}
use Rattle.cm_table.proofs.lemmas.monikers.Names.{moniker_changed, moniker_left, moniker_before, moniker_child}

-- ---- what is kept, slot by slot

-- What is kept of a slot that is taken by a test is taken by that test.
step_by : (t : Bool) (s : Slot) (o : Option Slot) → option_and_then (λ (z : Slot). z.moniker) (cond t (Some s) o) ≡ cond t s.moniker (option_and_then (λ (z : Slot). z.moniker) o)
step_by true s o = refl
step_by false s o = refl

-- What is kept of a row behind one more slot is that slot's, or what the others keep.
kept_step : (s : Slot) (ss : List Slot) (j : ℕ) → kept_at (s ∷ ss) j ≡ cond (s.row.inc == j) s.moniker (kept_at ss j)
kept_step s ss j = step_by (s.row.inc == j) s (slot_of ss j)

-- A slot in front with the same incarnation and moniker leaves the same kept.
step_same : (s t : Slot) (ss ts : List Slot) (j : ℕ) → t.row.inc ≡ s.row.inc → t.moniker ≡ s.moniker → kept_at ts j ≡ kept_at ss j → kept_at (t ∷ ts) j ≡ kept_at (s ∷ ss) j
step_same s t ss ts j inc same later =
    kept_step t ts j
    ∙ ap (λ n. cond (n == j) t.moniker (kept_at ts j)) inc
    ∙ ap (λ m. cond (s.row.inc == j) m (kept_at ts j)) same
    ∙ ap (λ m. cond (s.row.inc == j) s.moniker m) later
    ∙ sym (kept_step s ss j)

-- Slots that have the same rows and monikers one by one keep the same of each row.
kept_zip : (R : Slot → Slot → Type 0) → ((s t : Slot) → R s t → t.row ≡ s.row) → ((s t : Slot) → R s t → t.moniker ≡ s.moniker) → (ss ts : List Slot) (j : ℕ) → EachOf R ss ts → kept_at ts j ≡ kept_at ss j
kept_zip R row same [] [] j rel = refl
kept_zip R row same [] (t ∷ ts) j rel = absurd rel
kept_zip R row same (s ∷ ss) [] j rel = absurd rel
kept_zip R row same (s ∷ ss) (t ∷ ts) j rel = step_same s t ss ts j (ap (λ (r : Row). r.inc) (row s t rel.0)) (same s t rel.0) (kept_zip R row same ss ts j rel.1)

-- A change that leaves a slot's incarnation and moniker leaves what is kept, slot by slot.
edited_by : (t : Bool) (f : Slot → Slot) (s : Slot) (ss zs : List Slot) (j : ℕ) → (f s).row.inc ≡ s.row.inc → (f s).moniker ≡ s.moniker → kept_at zs j ≡ kept_at ss j → kept_at (cond t (f s ∷ ss) (s ∷ zs)) j ≡ kept_at (s ∷ ss) j
edited_by true f s ss zs j inc same later = step_same s (f s) ss ss j inc same refl
edited_by false f s ss zs j inc same later = step_same s s ss zs j refl refl later

-- A change of a slot that leaves its incarnation and moniker leaves what is kept of each row.
kept_edited : (f : Slot → Slot) (x j : ℕ) (ss : List Slot) → ((s : Slot) → (f s).row.inc ≡ s.row.inc) → ((s : Slot) → (f s).moniker ≡ s.moniker) → kept_at (edit_first (λ s. s.row.inc == x) f ss) j ≡ kept_at ss j
kept_edited f x j [] inc same = refl
kept_edited f x j (s ∷ ss) inc same =
    edited_by (s.row.inc == x) f s ss (edit_first (λ z. z.row.inc == x) f ss) j (inc s) (same s) (kept_edited f x j ss inc same)

-- Where the slot of another row is left out, what is kept of a row stays, slot by slot.
left_by : (t : Bool) (x j : ℕ) (s : Slot) (ss zs : List Slot) → (s.row.inc == x) ≡ t → (j ≡ x → ⊥) → kept_at zs j ≡ kept_at ss j → kept_at (cond t ss (s ∷ zs)) j ≡ kept_at (s ∷ ss) j
left_by true x j s ss zs own differ later =
    let off : (s.row.inc == j) ≡ false = ne_eqb s.row.inc j (λ e. differ (sym e ∙ (unsigned_Decides s.row.inc x).0 own)) in
    sym (kept_step s ss j ∙ ap (λ t. cond t s.moniker (kept_at ss j)) off)
left_by false x j s ss zs own differ later = step_same s s ss zs j refl refl later

-- Where the slot of another row is dropped, what is kept of a row stays.
kept_dropped : (x j : ℕ) (ss : List Slot) → (j ≡ x → ⊥) → kept_at (drop_first (λ s. s.row.inc == x) ss) j ≡ kept_at ss j
kept_dropped x j [] differ = refl
kept_dropped x j (s ∷ ss) differ = left_by (s.row.inc == x) x j s ss (drop_first (λ z. z.row.inc == x) ss) refl differ (kept_dropped x j ss differ)

-- Slots without their marks keep the same of where rows stand.
kept_unmarked : (ss : List Slot) (j : ℕ) → kept_at (map unmarked ss) j ≡ kept_at ss j
kept_unmarked [] j = refl
kept_unmarked (s ∷ ss) j = step_same s (unmarked s) ss (map unmarked ss) j refl refl (kept_unmarked ss j)

-- where it is kept, a slot is there
slot_by : (ss : List Slot) (j : ℕ) (m : Moniker) (o : Option Slot) → slot_of ss j ≡ o → option_and_then (λ (s : Slot). s.moniker) o ≡ Some m → (s : Slot) × (slot_of ss j ≡ Some s) × (s.moniker ≡ Some m)
slot_by ss j m None e h = absurd (none_some m h)
slot_by ss j m (Some s) e h = (s, e, h)

-- Where it is kept where a row stands, its slot has that moniker.
kept_slot : (ss : List Slot) (j : ℕ) (m : Moniker) → kept_at ss j ≡ Some m → (s : Slot) × (slot_of ss j ≡ Some s) × (s.moniker ≡ Some m)
kept_slot ss j m h = slot_by ss j m (slot_of ss j) refl h

-- what is told of a moniker that is borrowed
pub if_kept : (o : Option (Bor Moniker)) (n w : Moniker) → IfSome o (λ m. m.now ≡ n) → option_copied o ≡ Some w → w ≡ n
if_kept None n w is e = absurd (none_some w e)
if_kept (Some b) n w is e = sym (some_same b.now w e) ∙ is

-- Where a moniker that is kept can only be this one, the one that was read there is this one.
pub kept_if : (o : Option (Bor Moniker)) (k : Option Moniker) (n : Moniker) → option_copied o ≡ k → ((m : Moniker) → k ≡ Some m → m ≡ n) → IfSome o (λ m. m.now ≡ n)
kept_if None k n e f = tt
kept_if (Some b) k n e f = f b.now (sym e)

-- ---- each change

-- rows and what is kept are the same
pub standing_same : (ss ts : List Slot) → rows_in ts ≡ rows_in ss → ((i : ℕ) → kept_at ts i ≡ kept_at ss i) → StandWhereKept ss → StandWhereKept ts
standing_same ss ts rows same stands i m h = stands i m (sym (same i) ∙ h) ∙ sym (ap (λ l. moniker_of l i) rows)

-- Where rows stand is kept rightly still, if each slot has the same row and moniker as before.
pub standing_zipped : (R : Slot → Slot → Type 0) → ((s t : Slot) → R s t → t.row ≡ s.row) → ((s t : Slot) → R s t → t.moniker ≡ s.moniker) → (ss ts : List Slot) → EachOf R ss ts → StandWhereKept ss → StandWhereKept ts
standing_zipped R row same ss ts rel = standing_same ss ts (rows_same R row ss ts rel) (λ i. kept_zip R row same ss ts i rel)

-- Where rows stand is kept rightly still, if nothing but marks changes.
pub standing_marked : (ss ms : List Slot) → map unmarked ms ≡ map unmarked ss → StandWhereKept ss → StandWhereKept ms
standing_marked ss ms e = standing_same ss ms (rows_alike ss ms e) (λ i. sym (kept_unmarked ms i) ∙ ap (λ l. kept_at l i) e ∙ kept_unmarked ss i)

-- Where rows stand is kept rightly still, if a slot gets another index.
pub standing_indexed : (ss ts : List Slot) (x : ℕ) (index : Option ChildIndex) → ts ≡ edited inc_of x (indexed_by index) ss → StandWhereKept ss → StandWhereKept ts
standing_indexed ss ts x index is =
    standing_same ss ts (ap rows_in is ∙ rows_indexed x index ss) (λ i. ap (λ l. kept_at l i) is ∙ kept_edited (indexed_by index) x i ss (λ s. refl) (λ s. refl))

-- a change of a row that keeps its place
pub standing_changed : (f : Row → Row) (ss ts : List Slot) (next x : ℕ) → IsKeeping f → IsOrderly (rows_in ss) next → ts ≡ edited inc_of x (with_row_by f) ss → StandWhereKept ss → StandWhereKept ts
standing_changed f ss ts next x k o is stands i m h =
    let old : kept_at ss i ≡ Some m = sym (ap (λ l. kept_at l i) is ∙ kept_edited (with_row_by f) x i ss (λ s. k.inc s.row) (λ s. refl)) ∙ h in
    let q : (s : Slot) × (slot_of ss i ≡ Some s) × (s.moniker ≡ Some m) = kept_slot ss i m old in
    stands i m old
    ∙ sym (moniker_changed f (rows_in ss) next x i q.0.row k o (orderly_changed f k x next (rows_in ss) o) (row_of-slot ss i q.0 q.1))
    ∙ sym (ap (λ l. moniker_of l i) (ap rows_in is ∙ rows_changed x f ss))

-- a row without children is taken away
left_at : (ss mid ts : List Slot) (next leaf i : ℕ) (m : Moniker) (o : Option Row) → IsOrderly (rows_in ss) next → child_behind (rows_in ss) leaf None ≡ None → EachOf (IsUnlinked leaf true) ss mid → ts ≡ dropped inc_of leaf mid → rows_in ts ≡ without leaf (rows_in ss) → StandWhereKept ss → kept_at ts i ≡ Some m → row_of (without leaf (rows_in ss)) i ≡ o → m ≡ moniker_of (rows_in ts) i
left_at ss mid ts next leaf i m None orderly childless links is to stands h e =
    absurd (none_some m (sym (ap (option_and_then (λ (s : Slot). s.moniker)) (slot_of-none ts i (ap (λ l. row_of l i) to ∙ e))) ∙ h))
left_at ss mid ts next leaf i m (Some r) orderly childless links is to stands h e =
    let same : kept_at ts i ≡ kept_at ss i =
    ap (λ l. kept_at l i) is ∙ kept_dropped leaf i mid (not_taken leaf next i (rows_in ss) r orderly.increasing e)
    ∙ kept_zip (IsUnlinked leaf true) (λ s t u. u.row) (λ s t u. u.moniker) ss mid i links in
    stands i m (sym same ∙ h) ∙ moniker_left (rows_in ss) next leaf i r orderly childless e ∙ sym (ap (λ l. moniker_of l i) to)

-- Where rows stand is kept rightly still, if a row without children is taken away.
pub standing_left : (ss mid ts : List Slot) (next leaf : ℕ) → IsOrderly (rows_in ss) next → child_behind (rows_in ss) leaf None ≡ None → EachOf (IsUnlinked leaf true) ss mid → ts ≡ dropped inc_of leaf mid → rows_in ts ≡ without leaf (rows_in ss) → StandWhereKept ss → StandWhereKept ts
standing_left ss mid ts next leaf o childless links is to stands i m h = left_at ss mid ts next leaf i m (row_of (without leaf (rows_in ss)) i) o childless links is to stands h refl

-- ---- more children behind

-- where it is kept where a child stands, it has the names down to its parent, and its own
abbrev pub StandsBelow : List Row → ℕ → Slot → Type 0
StandsBelow rows p s = (s.row.parent ≡ Some p) × ((m : Moniker) → s.moniker ≡ Some m → m.parts ≡ (moniker_of rows p).parts ++ option_to_list s.row.name)

-- A moniker that has these names.
abbrev moniker_with : List ChildName → Moniker
moniker_with l = record { parts = l }

module _ (ss news : List Slot) (next more p : ℕ) (q : Row) (o : IsOrderly (rows_in ss) next) (on : IsOrderly (rows_in (ss ++ news)) more) (here : row_of (rows_in ss) p ≡ Some q) (stands : StandWhereKept ss) (below : EachItem (StandsBelow (rows_in ss) p) news) where
  -- With the new rows at the end the rows are orderly.
  after : IsOrderly (rows_in ss ++ rows_in news) more
  after = subst (λ l. IsOrderly l more) (rows_append ss news) on

  -- The moniker of an old row is the same with the new rows.
  old_same : (i : ℕ) (r : Row) → row_of (rows_in ss) i ≡ Some r → moniker_of (rows_in (ss ++ news)) i ≡ moniker_of (rows_in ss) i
  old_same i r lives = ap (λ l. moniker_of l i) (rows_append ss news) ∙ moniker_before (rows_in ss) (rows_in news) next more i r o after lives

  -- What a new slot keeps of where it stands is its row's moniker.
  new_by : (i : ℕ) (m : Moniker) (s : Slot) → slot_of ss i ≡ None → slot_of (ss ++ news) i ≡ Some s → s.moniker ≡ Some m → m ≡ moniker_of (rows_in (ss ++ news)) i
  new_by i m s none there h =
      let b : StandsBelow (rows_in ss) p s = each_find (StandsBelow (rows_in ss) p) (λ z. z.row.inc == i) news s below (sym (none_append inc_of ss news i none) ∙ there) in
      ap moniker_with (b.1 m h ∙ sym (ap (λ (w : Moniker). w.parts ++ option_to_list s.row.name) (old_same p q here)))
      ∙ sym (moniker_child (rows_in (ss ++ news)) more i p s.row on (row_of-slot (ss ++ news) i s there) b.0)

  -- What is kept of a row, old or new, is its moniker in the grown rows.
  grown_by : (i : ℕ) (m : Moniker) (z : Option Slot) → slot_of ss i ≡ z → kept_at (ss ++ news) i ≡ Some m → m ≡ moniker_of (rows_in (ss ++ news)) i
  grown_by i m None e h =
      let k = kept_slot (ss ++ news) i m h in new_by i m k.0 e k.1 k.2
  grown_by i m (Some s) e h =
      let old : kept_at ss i ≡ Some m = ap (option_and_then (λ (z : Slot). z.moniker)) (e ∙ sym (some_prefix inc_of ss news i s e)) ∙ h in
      stands i m old ∙ sym (old_same i s.row (row_of-slot ss i s e))

  -- Where rows stand is kept rightly still, with new children behind that stand below their parent.
  pub standing_grown : StandWhereKept (ss ++ news)
  standing_grown i m h = grown_by i m (slot_of ss i) refl h

-- What holds of all rows in slots holds of each slot's row.
pub parents_by : (P : Row → Type 0) (ss : List Slot) → EachItem P (rows_in ss) → EachItem (λ s. P s.row) ss
parents_by P [] all = tt
parents_by P (s ∷ ss) all = (all.0, parents_by P ss all.1)

-- The rows of declared children have the row that they are made for as their parent.
child_parents : (p next : ℕ) (ks : List Child) → EachItem (λ r. r.parent ≡ Some p) (child_rows p next ks)
child_parents p next [] = tt
child_parents p next (k ∷ ks) = (refl, child_parents p (next + 1) ks)

-- Slots of children that have the names of a row before their own stand below that row.
stand_below : (rows : List Row) (p : ℕ) (above : Option Moniker) (ss : List Slot) → ((w : Moniker) → above ≡ Some w → w ≡ moniker_of rows p) → EachItem (λ s. s.row.parent ≡ Some p) ss → EachItem (IsMonikerBelow above) ss → EachItem (StandsBelow rows p) ss
stand_below rows p above [] is parents below = tt
stand_below rows p above (s ∷ ss) is parents below = (
  (parents.0, λ m h. let b = below.0 m h in b.2 ∙ ap (λ (w : Moniker). w.parts ++ option_to_list s.row.name) (is b.0 b.1)),
  stand_below rows p above ss is parents.1 below.1,
)

-- With the children that a resolve brings, all monikers that are kept are still those of their rows.
pub standing_taken : (ss mid put ts news : List Slot) (i next more : ℕ) (a : List ℕ) (d : Decl) (x : ChildIndex) (above : Option Moniker) → IsTaken ss mid put ts news i a d x → IsOrderly (rows_in ss) next → IsOrderly (rows_in ts) more → IsTrue (is_live (rows_in ss) i) → IsValid d → ((w : Moniker) → above ≡ Some w → w ≡ moniker_of (rows_in ss) i) → EachItem (IsMonikerBelow above) news → rows_in news ≡ child_rows i next d.children → StandWhereKept ss → StandWhereKept ts
standing_taken ss mid put ts news i next more a d x above t o on lives valid is below numbered stands =
    let f : Row → Row = change_row (change.Resolve a d) in
    let k : IsKeeping f = keeping (change.Resolve a d) valid in
    let row : (q : Row) × (row_of (rows_in ss) i ≡ Some q) = is_some_true (row_of (rows_in ss) i) lives in
    let after : IsOrderly (changed i f (rows_in ss)) next = orderly_changed f k i next (rows_in ss) o in
    let rows : rows_in put ≡ changed i f (rows_in ss) = ap rows_in t.indexed ∙ rows_indexed i (Some x) mid ∙ ap rows_in t.changed ∙ rows_changed i f ss in
    let same : moniker_of (rows_in put) i ≡ moniker_of (rows_in ss) i = ap (λ l. moniker_of l i) rows ∙ moniker_changed f (rows_in ss) next i i row.0 k o after row.1 in
    subst StandWhereKept (sym t.pushed)
    (standing_grown put news next more i (f row.0)
    (subst (λ l. IsOrderly l next) (sym rows) after)
    (subst (λ l. IsOrderly (rows_in l) more) t.pushed on)
    (ap (λ l. row_of l i) rows ∙ row_of-changed i f k.inc (rows_in ss) row.0 row.1)
    (standing_indexed mid put i (Some x) t.indexed (standing_changed f ss mid next i k o t.changed stands))
    (stand_below (rows_in put) i above news (λ w e. is w e ∙ sym same)
    (parents_by (λ r. r.parent ≡ Some i) news (subst (EachItem (λ r. r.parent ≡ Some i)) (sym numbered) (child_parents i next d.children))) below))

-- With a child added, all monikers that are kept are still those of their rows.
pub standing_joined : (ss mid ts : List Slot) (next p : ℕ) (name : ChildName) (url : List ℕ) (gives : List Give) (marks : MarksAbove) (kept : Option Moniker) → IsOrderly (rows_in ss) next → IsOrderly (rows_in ts) (next + 1) → IsTrue (is_resolved (rows_in ss) p) → EachOf (IsLinked p name next) ss mid → ts ≡ mid ++ bare_slot (new_row next (Some p) (Some name) url gives) marks kept ∷ [] → IsChildMoniker (rows_in ss) p name kept → StandWhereKept ss → StandWhereKept ts
standing_joined ss mid ts next p name url gives marks kept o on resolved links pushed below stands =
    let q : (q : Row) × (row_of (rows_in ss) p ≡ Some q) × IsSome q.decl = resolved_by (row_of (rows_in ss) p) resolved in
    let same : rows_in mid ≡ rows_in ss = rows_same (IsLinked p name next) (λ s t u. u.row) ss mid links in
    subst StandWhereKept (sym pushed)
    (standing_grown mid (bare_slot (new_row next (Some p) (Some name) url gives) marks kept ∷ []) next (next + 1) p q.0
    (subst (λ l. IsOrderly l next) (sym same) o)
    (subst (λ l. IsOrderly (rows_in l) (next + 1)) pushed on)
    (ap (λ l. row_of l p) same ∙ q.1)
    (standing_zipped (IsLinked p name next) (λ s t u. u.row) (λ s t u. u.moniker) ss mid links stands)
    ((refl, λ m h. below m h ∙ sym (ap (λ l. (moniker_of l p).parts ++ option_to_list (Some name)) same)), tt))
