-- What is kept of marks beside the rows is so behind each change.
use Rattle.std.proofs.Common.{◌≡◌, ℕ, ◌+◌, List, [], ◌∷◌, ◌++◌, length, true, false, ◌||◌, ◌==◌, Option, Some, None, IsSome, IsTrue, refl, sym, ◌∙◌, ap, subst}
use Rattle.std.specs.Prelude.{option_map}
use Rattle.std.proofs.lemmas.Bool.{or_right}
use Rattle.cm_names.specs.declared.child.ChildName.{ChildName}
use Rattle.cm_names.specs.declared.moniker.Moniker.{Moniker}
use Rattle.cm_facts.proofs.Options.{is_some_true}
use Rattle.cm_decl.specs.declared.decl.Decl.{Decl}
use Rattle.cm_decl.specs.declared.rows.Child.{Child}
use Rattle.cm_decl.specs.declared.rows.Give.{Give}
use Rattle.cm_decl.specs.Valid.{IsValid}
use Rattle.cm_world.specs.declared.row.Row.{Row}
use Rattle.cm_world.specs.declared.action.Outcome.{Outcome}
use Rattle.cm_world.specs.declared.action.Outcome.TheVariants.{Started, Stopped, Killed}
use Rattle.cm_world.specs.End.{changed, end_row, set_closing, set_doomed, child_rows}
use Rattle.cm_world.specs.Rows.{row_of, is_live, is_resolved, is_below, at_or_above, some_above}
use Rattle.cm_world.specs.RowsInside.{child_behind}
use Rattle.cm_world.specs.Sound.{IsOrderly}
use Rattle.cm_world.specs.World.{new_row}
use Rattle.cm_world.proofs.lemmas.trees.Climbing.{some_above-step}
use Rattle.cm_table.specs.declared.change.Change.{Change}
use Rattle.cm_table.specs.declared.change.Change.TheVariants as change
use Rattle.cm_table.specs.declared.marks.MarkKind.{MarkKind}
use Rattle.cm_table.specs.declared.marks.MarkKind.TheVariants.{Closing, Doomed}
use Rattle.cm_table.specs.declared.marks.MarksAbove.{MarksAbove}
use Rattle.cm_table.specs.declared.slot.ChildIndex.{ChildIndex}
use Rattle.cm_table.specs.declared.slot.Slot.{Slot}
use Rattle.cm_table.specs.Change.{change_row, IsSparing}
use Rattle.cm_table.specs.Flags.{has_mark, flag_in, flag_of, AreFlagged}
use Rattle.cm_table.specs.Keys.{EachItem, EachOf}
use Rattle.cm_table.specs.Links.{IsLinked, IsUnlinked}
use Rattle.cm_table.specs.Marking.{IsDown, Marks}
use Rattle.cm_table.specs.Numbering.{HasMarks, bare_slot}
use Rattle.cm_table.specs.Slots.{inc_of, slot_of, rows_in, with_row_by, indexed_by}
use Rattle.cm_table.proofs.lemmas.lists.BinarySearch.{none_append}
use Rattle.cm_table.proofs.lemmas.lists.EachItem.{each_find}
use Rattle.cm_table.proofs.lemmas.lists.Editing.{edited, dropped}
use Rattle.cm_trees.proofs.rows.Adding.{resolved_by}
use Rattle.cm_table.proofs.lemmas.tree.Changes.{keeping}
use Rattle.cm_trees.proofs.rows.Orderly.{orderly_changed}
use Rattle.cm_table.proofs.lemmas.tree.Resolving.{IsTaken}
use Rattle.cm_trees.proofs.rows.Rows.{lives_left, row_of-changed}
use Rattle.cm_table.proofs.lemmas.tree.Leaves.{without, not_taken, above_same}
use Rattle.cm_table.proofs.lemmas.slots.Rowed.{row_of-slots, rows_append, rows_changed, rows_indexed, rows_same}
use Rattle.cm_table.proofs.lemmas.flags.Climbs.{IsTwin, tests_same, none_above, unmarked_changed, marked_changed}
use Rattle.cm_table.proofs.lemmas.flags.Flagging.{row_of-slot, slot_of-none, flag-slot, flag-none, flags_zip, flags_edited, flags_dropped, flag_before, flag_behind, rows_alike}
use Rattle.cm_table.proofs.lemmas.monikers.Standing.{parents_by}

-- ---- the children of what is flagged

-- Where what is kept of marks is right, the children of what has one kept have it kept too.
pub down : (k : MarkKind) (ss : List Slot) (next : ℕ) → IsOrderly (rows_in ss) next → AreFlagged ss → IsDown k ss
down k ss next o flags i p r here up flag =
    flags k i
    ∙ some_above-step (has_mark k) (rows_in ss) next i r o here
    ∙ ap (λ u. has_mark k r || at_or_above (length (rows_in ss)) (has_mark k) (rows_in ss) u) up
    ∙ or_right (has_mark k r) (some_above (has_mark k) (rows_in ss) p) (sym (flags k p) ∙ flag)

-- Behind a mark for closing, doomed marks still go down the tree.
pub down_still : (ss ms : List Slot) (next x : ℕ) → Marks Closing x ss ms → IsOrderly (rows_in ss) next → AreFlagged ss → IsDown Doomed ms
down_still ss ms next x marks o flags i p r here up flag =
    marks.others Doomed i (λ m. refl)
    ∙ down Doomed ss next o flags i p r (sym (ap (λ l. row_of l i) (rows_alike ss ms marks.same)) ∙ here) up (sym (marks.others Doomed p (λ m. refl)) ∙ flag)

-- ---- a change that puts no mark at a row

-- A change that keeps incarnation, parent and marks of each row.
pub record IsUnmarking (f : Row → Row) : Type 0 where
  pub inc : (r : Row) → (f r).inc ≡ r.inc
  pub parent : (r : Row) → (f r).parent ≡ r.parent
  pub closing : (r : Row) → (f r).closing ≡ r.closing
  pub doomed : (r : Row) → (f r).doomed ≡ r.doomed

-- The end of an action changes no marks.
unmarking_end : (o : Outcome) → IsUnmarking (end_row o)
unmarking_end Started = record { inc = λ r. refl; parent = λ r. refl; closing = λ r. refl; doomed = λ r. refl }
unmarking_end Stopped = record { inc = λ r. refl; parent = λ r. refl; closing = λ r. refl; doomed = λ r. refl }
unmarking_end Killed = record { inc = λ r. refl; parent = λ r. refl; closing = λ r. refl; doomed = λ r. refl }
unmarking_end _ = record { inc = λ r. refl; parent = λ r. refl; closing = λ r. refl; doomed = λ r. refl }

-- A change that puts no mark at its row keeps that row's incarnation, its parent and its marks.
pub unmarking : (c : Change) → IsSparing c → IsUnmarking (change_row c)
unmarking (change.On on) sparing = record { inc = λ r. refl; parent = λ r. refl; closing = λ r. refl; doomed = λ r. refl }
unmarking (change.Pending pending) sparing = record { inc = λ r. refl; parent = λ r. refl; closing = λ r. refl; doomed = λ r. refl }
unmarking change.Closing sparing = absurd sparing
unmarking change.Doomed sparing = absurd sparing
unmarking change.Shut sparing = record { inc = λ r. refl; parent = λ r. refl; closing = λ r. refl; doomed = λ r. refl }
unmarking (change.End o) sparing = unmarking_end o
unmarking (change.Resolve absolute d) sparing = record { inc = λ r. refl; parent = λ r. refl; closing = λ r. refl; doomed = λ r. refl }

-- A change that keeps marks keeps whether a row has a mark of each kind.
mark_kept : (k : MarkKind) (f : Row → Row) → IsUnmarking f → (r : Row) → has_mark k (f r) ≡ has_mark k r
mark_kept Closing f u r = u.closing r
mark_kept Doomed f u r = u.doomed r

-- What is kept of marks stays right where one row is changed, but in its marks.
pub flags_changed : (f : Row → Row) (ss ts : List Slot) (next x : ℕ) → IsUnmarking f → IsOrderly (rows_in ss) next → IsOrderly (changed x f (rows_in ss)) next → ts ≡ edited inc_of x (with_row_by f) ss → AreFlagged ss → AreFlagged ts
flags_changed f ss ts next x u o on is flags k i =
    ap (λ l. flag_of k l i) is
    ∙ flags_edited k (with_row_by f) x i ss (λ s. u.inc s.row) (λ s. refl)
    ∙ flags k i
    ∙ sym (unmarked_changed (has_mark k) f (rows_in ss) next x o on u.inc u.parent (mark_kept k f u) i)
    ∙ sym (ap (λ l. some_above (has_mark k) l i) (ap rows_in is ∙ rows_changed x f ss))

-- ---- slots with the same rows and the same marks

-- What is kept of marks stays right where each slot has the same row and marks as before.
pub flags_same : (R : Slot → Slot → Type 0) → ((s t : Slot) → R s t → t.row ≡ s.row) → ((s t : Slot) → R s t → t.marks ≡ s.marks) → (ss ts : List Slot) → EachOf R ss ts → AreFlagged ss → AreFlagged ts
flags_same R row marks ss ts rel flags k i =
    flags_zip R row marks k ss ts i rel ∙ flags k i ∙ sym (ap (λ l. some_above (has_mark k) l i) (rows_same R row ss ts rel))

-- ---- more children behind

-- a child of a row that has no mark itself
pub record IsUnmarkedChild (p : ℕ) (r : Row) : Type 0 where
  pub under : r.parent ≡ Some p
  pub closing : r.closing ≡ false
  pub doomed : r.doomed ≡ false

-- A new child has no mark of any kind.
no_mark : (k : MarkKind) (p : ℕ) (r : Row) → IsUnmarkedChild p r → has_mark k r ≡ false
no_mark Closing p r c = c.closing
no_mark Doomed p r c = c.doomed

module _ (ss news : List Slot) (next more p : ℕ) (m : MarksAbove) (q : Row) (o : IsOrderly (rows_in ss) next) (on : IsOrderly (rows_in (ss ++ news)) more) (flags : AreFlagged ss) (here : row_of (rows_in ss) p ≡ Some q) (told : (k : MarkKind) → flag_in k m ≡ some_above (has_mark k) (rows_in ss) p) (marks : EachItem (HasMarks m) news) (children : EachItem (λ s. IsUnmarkedChild p s.row) news) where
  -- An old row stands alike, with the same mark, with new slots behind all.
  twin : (k : MarkKind) (i : ℕ) (r : Row) → row_of (rows_in ss) i ≡ Some r → IsTwin (rows_in (ss ++ news)) (has_mark k) i r
  twin k i r lives = record { row = r; lives = ap (λ l. row_of l i) (rows_append ss news) ∙ lives_left (rows_in ss) (rows_in news) i r lives; parent = refl; test = refl }

  -- Whether a row at or above an old one has a mark is as before, with new slots behind all.
  above_old : (k : MarkKind) (i : ℕ) (r : Row) → row_of (rows_in ss) i ≡ Some r → some_above (has_mark k) (rows_in (ss ++ news)) i ≡ some_above (has_mark k) (rows_in ss) i
  above_old k i r lives = tests_same (has_mark k) (rows_in ss) (rows_in (ss ++ news)) next more o on (twin k) i r lives

  -- The flag of a new slot tells whether a row at or above it has the mark.
  new_by : (k : MarkKind) (i : ℕ) (z : Option Slot) → slot_of ss i ≡ None → slot_of news i ≡ z → flag_of k news i ≡ some_above (has_mark k) (rows_in (ss ++ news)) i
  new_by k i None none e =
      flag-none k news i e
      ∙ sym (none_above (has_mark k) (rows_in (ss ++ news)) i (row_of-slots (ss ++ news) i ∙ ap (option_map (λ s. s.row)) (none_append inc_of ss news i none ∙ e)))
  new_by k i (Some s) none e =
      let child : IsUnmarkedChild p s.row = each_find (λ z. IsUnmarkedChild p z.row) (λ z. z.row.inc == i) news s children e in
      flag-slot k news i s e
      ∙ ap (flag_in k) (each_find (HasMarks m) (λ z. z.row.inc == i) news s marks e)
      ∙ told k
      ∙ sym (some_above-step (has_mark k) (rows_in (ss ++ news)) more i s.row on (row_of-slot (ss ++ news) i s (none_append inc_of ss news i none ∙ e))
      ∙ ap (λ b. b || at_or_above (length (rows_in (ss ++ news))) (has_mark k) (rows_in (ss ++ news)) s.row.parent) (no_mark k p s.row child)
      ∙ ap (at_or_above (length (rows_in (ss ++ news))) (has_mark k) (rows_in (ss ++ news))) child.under
      ∙ above_old k p q here)

  -- Each flag with new slots behind all tells whether a row at or above has the mark.
  grown_by : (k : MarkKind) (i : ℕ) (z : Option Slot) → slot_of ss i ≡ z → flag_of k (ss ++ news) i ≡ some_above (has_mark k) (rows_in (ss ++ news)) i
  grown_by k i None e = flag_behind k ss news i e ∙ new_by k i (slot_of news i) e refl
  grown_by k i (Some s) e = flag_before k ss news i s e ∙ flags k i ∙ sym (above_old k i s.row (row_of-slot ss i s e))

  -- they have the marks of their parent
  pub flags_grown : AreFlagged (ss ++ news)
  flags_grown k i = grown_by k i (slot_of ss i) refl

-- The rows of new children are unmarked children of their parent.
child_rows_unmarked : (p next : ℕ) (ks : List Child) → EachItem (IsUnmarkedChild p) (child_rows p next ks)
child_rows_unmarked p next [] = tt
child_rows_unmarked p next (c ∷ cs) = (record { under = refl; closing = refl; doomed = refl }, child_rows_unmarked p (next + 1) cs)

-- the slots of declared children
pub children_unmarked : (p next : ℕ) (ks : List Child) (news : List Slot) → rows_in news ≡ child_rows p next ks → EachItem (λ s. IsUnmarkedChild p s.row) news
children_unmarked p next ks news e = parents_by (IsUnmarkedChild p) news (subst (EachItem (IsUnmarkedChild p)) (sym e) (child_rows_unmarked p next ks))

-- ---- without a row that has no children

-- The flags that are left without a leaf tell whether a row at or above has the mark.
left_by : (k : MarkKind) (ss mid ts : List Slot) (next leaf i : ℕ) (z : Option Row) → IsOrderly (rows_in ss) next → child_behind (rows_in ss) leaf None ≡ None → EachOf (IsUnlinked leaf true) ss mid → ts ≡ dropped inc_of leaf mid → rows_in ts ≡ without leaf (rows_in ss) → AreFlagged ss → row_of (without leaf (rows_in ss)) i ≡ z → flag_of k ts i ≡ some_above (has_mark k) (rows_in ts) i
left_by k ss mid ts next leaf i None o childless links is to flags e =
    let none : row_of (rows_in ts) i ≡ None = ap (λ l. row_of l i) to ∙ e in
    flag-none k ts i (slot_of-none ts i none) ∙ sym (none_above (has_mark k) (rows_in ts) i none)
left_by k ss mid ts next leaf i (Some r) o childless links is to flags e =
    ap (λ l. flag_of k l i) is
    ∙ flags_dropped k leaf i mid (not_taken leaf next i (rows_in ss) r o.increasing e)
    ∙ flags_zip (IsUnlinked leaf true) (λ s t u. u.row) (λ s t u. u.marks) k ss mid i links
    ∙ flags k i
    ∙ sym (above_same (has_mark k) (rows_in ss) next leaf i r o childless e)
    ∙ sym (ap (λ l. some_above (has_mark k) l i) to)

-- What is kept of marks stays right where a row without children is taken away.
pub flags_left : (ss mid ts : List Slot) (next leaf : ℕ) → IsOrderly (rows_in ss) next → child_behind (rows_in ss) leaf None ≡ None → EachOf (IsUnlinked leaf true) ss mid → ts ≡ dropped inc_of leaf mid → rows_in ts ≡ without leaf (rows_in ss) → AreFlagged ss → AreFlagged ts
flags_left ss mid ts next leaf o childless links is to flags k i = left_by k ss mid ts next leaf i (row_of (without leaf (rows_in ss)) i) o childless links is to flags refl

-- ---- behind a mark

module _ (ss : List Slot) (next x : ℕ) (o : IsOrderly (rows_in ss) next) (flags : AreFlagged ss) where
  -- a flag that went down
  went_down : (k : MarkKind) (f : Row → Row) (on : IsOrderly (changed x f (rows_in ss)) next) → ((r : Row) → (f r).inc ≡ r.inc) → ((r : Row) → has_mark k (f r) ≡ true) → (zs : List Slot) (i : ℕ) → flag_of k zs i ≡ (flag_of k ss i || is_below (rows_in ss) x i) → rows_in zs ≡ changed x f (rows_in ss) → flag_of k zs i ≡ some_above (has_mark k) (rows_in zs) i
  went_down k f on inc hits zs i e to =
      e
      ∙ ap (λ b. b || is_below (rows_in ss) x i) (flags k i)
      ∙ sym (marked_changed (has_mark k) f (rows_in ss) next x o on inc hits i)
      ∙ sym (ap (λ l. some_above (has_mark k) l i) to)

  -- to be shut down
  pub flags_closed : (ms zs : List Slot) → IsOrderly (changed x set_closing (rows_in ss)) next → Marks Closing x ss ms → zs ≡ edited inc_of x (with_row_by set_closing) ms → rows_in zs ≡ changed x set_closing (rows_in ss) → AreFlagged zs
  flags_closed ms zs on marks is to Closing i =
      went_down Closing set_closing on (λ r. refl) (λ r. refl) zs i
      (ap (λ l. flag_of Closing l i) is ∙ flags_edited Closing (with_row_by set_closing) x i ms (λ s. refl) (λ s. refl) ∙ marks.flags i) to
  flags_closed ms zs on marks is to Doomed i =
      ap (λ l. flag_of Doomed l i) is
      ∙ flags_edited Doomed (with_row_by set_closing) x i ms (λ s. refl) (λ s. refl)
      ∙ marks.others Doomed i (λ m. refl)
      ∙ flags Doomed i
      ∙ sym (unmarked_changed (has_mark Doomed) set_closing (rows_in ss) next x o on (λ r. refl) (λ r. refl) (λ r. refl) i)
      ∙ sym (ap (λ l. some_above (has_mark Doomed) l i) to)

  -- to be destroyed, and shut down with that
  pub flags_doomed : (m1 m2 mid zs : List Slot) → IsOrderly (changed x set_doomed (rows_in ss)) next → Marks Closing x ss m1 → Marks Doomed x m1 m2 → EachOf (IsUnlinked x false) m2 mid → zs ≡ edited inc_of x (with_row_by set_doomed) mid → rows_in zs ≡ changed x set_doomed (rows_in ss) → AreFlagged zs
  flags_doomed m1 m2 mid zs on first second links is to Closing i =
      went_down Closing set_doomed on (λ r. refl) (λ r. refl) zs i
      (ap (λ l. flag_of Closing l i) is ∙ flags_edited Closing (with_row_by set_doomed) x i mid (λ s. refl) (λ s. refl)
      ∙ flags_zip (IsUnlinked x false) (λ s t u. u.row) (λ s t u. u.marks) Closing m2 mid i links
      ∙ second.others Closing i (λ m. refl)
      ∙ first.flags i) to
  flags_doomed m1 m2 mid zs on first second links is to Doomed i =
      went_down Doomed set_doomed on (λ r. refl) (λ r. refl) zs i
      (ap (λ l. flag_of Doomed l i) is ∙ flags_edited Doomed (with_row_by set_doomed) x i mid (λ s. refl) (λ s. refl)
      ∙ flags_zip (IsUnlinked x false) (λ s t u. u.row) (λ s t u. u.marks) Doomed m2 mid i links
      ∙ second.flags i
      ∙ ap (λ b. b || is_below (rows_in m1) x i) (first.others Doomed i (λ m. refl))
      ∙ ap (λ l. flag_of Doomed ss i || is_below l x i) (rows_alike ss m1 first.same)) to

-- ---- another index

-- What is kept of marks stays right where a slot gets another index.
pub flags_indexed : (ss ts : List Slot) (i : ℕ) (x : Option ChildIndex) → ts ≡ edited inc_of i (indexed_by x) ss → AreFlagged ss → AreFlagged ts
flags_indexed ss ts i x is flags k j =
    ap (λ l. flag_of k l j) is
    ∙ flags_edited k (indexed_by x) i j ss (λ s. refl) (λ s. refl)
    ∙ flags k j
    ∙ sym (ap (λ l. some_above (has_mark k) l j) (ap rows_in is ∙ rows_indexed i x ss))

-- ---- a row that gets its declaration, and its children

-- What is kept of marks stays right where a row gets its declaration, and children with its marks.
pub flags_taken : (ss mid put ts news : List Slot) (i next more : ℕ) (a : List ℕ) (d : Decl) (x : ChildIndex) (m : MarksAbove) → IsTaken ss mid put ts news i a d x → IsOrderly (rows_in ss) next → IsOrderly (rows_in ts) more → IsTrue (is_live (rows_in ss) i) → IsValid d → ((k : MarkKind) → flag_in k m ≡ some_above (has_mark k) (rows_in ss) i) → EachItem (HasMarks m) news → rows_in news ≡ child_rows i next d.children → AreFlagged ss → AreFlagged ts
flags_taken ss mid put ts news i next more a d x m t o on lives valid told marks numbered flags =
    let f : Row → Row = change_row (change.Resolve a d) in
    let u : IsUnmarking f = unmarking (change.Resolve a d) tt in
    let row : (q : Row) × (row_of (rows_in ss) i ≡ Some q) = is_some_true (row_of (rows_in ss) i) lives in
    let after : IsOrderly (changed i f (rows_in ss)) next = orderly_changed f (keeping (change.Resolve a d) valid) i next (rows_in ss) o in
    let rows : rows_in put ≡ changed i f (rows_in ss) = ap rows_in t.indexed ∙ rows_indexed i (Some x) mid ∙ ap rows_in t.changed ∙ rows_changed i f ss in
    subst AreFlagged (sym t.pushed)
    (flags_grown put news next more i m (f row.0)
    (subst (λ l. IsOrderly l next) (sym rows) after)
    (subst (λ l. IsOrderly (rows_in l) more) t.pushed on)
    (flags_indexed mid put i (Some x) t.indexed (flags_changed f ss mid next i u o after t.changed flags))
    (ap (λ l. row_of l i) rows ∙ row_of-changed i f u.inc (rows_in ss) row.0 row.1)
    (λ k. told k
    ∙ sym (unmarked_changed (has_mark k) f (rows_in ss) next i o after u.inc u.parent (mark_kept k f u) i)
    ∙ sym (ap (λ l. some_above (has_mark k) l i) rows))
    marks (children_unmarked i next d.children news numbered))

-- ---- a child that is added

-- What is kept of marks stays right where a child is added with the marks of its parent.
pub flags_joined : (ss mid ts : List Slot) (next p : ℕ) (name : ChildName) (url : List ℕ) (gives : List Give) (m : MarksAbove) (kept : Option Moniker) → IsOrderly (rows_in ss) next → IsOrderly (rows_in ts) (next + 1) → IsTrue (is_resolved (rows_in ss) p) → EachOf (IsLinked p name next) ss mid → ts ≡ mid ++ bare_slot (new_row next (Some p) (Some name) url gives) m kept ∷ [] → ((k : MarkKind) → flag_in k m ≡ some_above (has_mark k) (rows_in ss) p) → AreFlagged ss → AreFlagged ts
flags_joined ss mid ts next p name url gives m kept o on resolved links pushed told flags =
    let q : (q : Row) × (row_of (rows_in ss) p ≡ Some q) × IsSome q.decl = resolved_by (row_of (rows_in ss) p) resolved in
    let same : rows_in mid ≡ rows_in ss = rows_same (IsLinked p name next) (λ s t u. u.row) ss mid links in
    subst AreFlagged (sym pushed)
    (flags_grown mid (bare_slot (new_row next (Some p) (Some name) url gives) m kept ∷ []) next (next + 1) p m q.0
    (subst (λ l. IsOrderly l next) (sym same) o)
    (subst (λ l. IsOrderly (rows_in l) (next + 1)) pushed on)
    (flags_same (IsLinked p name next) (λ s t u. u.row) (λ s t u. u.marks) ss mid links flags)
    (ap (λ l. row_of l p) same ∙ q.1)
    (λ k. told k ∙ sym (ap (λ l. some_above (has_mark k) l p) same))
    (refl, tt)
    (record { under = refl; closing = refl; doomed = refl }, tt))
