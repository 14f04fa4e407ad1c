-- The flags of slots, one by one, and what flagging one of them leaves.
use Rattle.std.proofs.Common.{◌≡◌, ℕ, suc, ◌<◌, List, [], ◌∷◌, ◌++◌, length, map, filter, Bool, true, false, cond, not, ◌==◌, true≢false, Option, Some, None, refl, sym, ◌∙◌, ap, subst, ◌⊎◌, inl, inr, arith, ne_eqb}
use Rattle.std.specs.Prelude.{option_map}
use Rattle.std.specs.Option.{option_map_or}
use Rattle.std.specs.Cmp.{unsigned_Decides}
use Rattle.cm_world.specs.declared.row.Row.{Row}
use Rattle.cm_world.specs.Edits.{edit_first, drop_first}
use Rattle.cm_world.specs.Rows.{row_of}
use Rattle.cm_world.specs.Sound.{IsOrderly}
use Rattle.cm_world.proofs.lemmas.trees.Finding.{some_same, none_some}
use Rattle.cm_table.specs.declared.marks.MarkKind.{MarkKind}
use Rattle.cm_table.specs.declared.marks.MarkKind.TheVariants.{Closing, Doomed}
use Rattle.cm_table.specs.declared.marks.MarksAbove.{MarksAbove}
use Rattle.cm_table.specs.declared.slot.Slot.{Slot}
use Rattle.cm_table.specs.Flags.{flag_in, with_flag, no_flags, flag_of}
use Rattle.cm_table.specs.Keys.{EachOf, EachItem}
use Rattle.cm_table.specs.Marking.{flagged, unmarked, open_count, OthersAreKept, AreIndexed}
use Rattle.cm_table.specs.Slots.{inc_of, slot_of, rows_in, IsIndexed}
use Rattle.cm_table.proofs.lemmas.lists.BinarySearch.{some_prefix, none_append}
use Rattle.cm_table.proofs.lemmas.slots.Rowed.{row_of-slots}

-- ---- a flag that is put down

-- A mark that is set among the kept ones is among them.
pub flag_put : (k : MarkKind) (m : MarksAbove) → flag_in k (with_flag k m) ≡ true
flag_put Closing m = refl
flag_put Doomed m = refl

-- Where no mark is kept, none is among those that are.
pub no_flag : (k : MarkKind) → flag_in k no_flags ≡ false
no_flag Closing = refl
no_flag Doomed = refl

-- ---- slots and rows

-- Where a slot's row is there, the slot is, with that row.
slot_by : (o : Option Slot) (r : Row) → option_map (λ s. s.row) o ≡ Some r → (s : Slot) × (o ≡ Some s) × (s.row ≡ r)
slot_by None r e = absurd (none_some r e)
slot_by (Some s) r e = (s, refl, some_same s.row r e)

-- a row that lives has a slot
pub slot_of-row : (ss : List Slot) (i : ℕ) (r : Row) → row_of (rows_in ss) i ≡ Some r → (s : Slot) × (slot_of ss i ≡ Some s) × (s.row ≡ r)
slot_of-row ss i r e = slot_by (slot_of ss i) r (sym (row_of-slots ss i) ∙ e)

-- The row of an incarnation is the one in its slot.
pub row_of-slot : (ss : List Slot) (i : ℕ) (s : Slot) → slot_of ss i ≡ Some s → row_of (rows_in ss) i ≡ Some s.row
row_of-slot ss i s e = row_of-slots ss i ∙ ap (option_map (λ z. z.row)) e

-- Where no slot's row is there, no slot is.
none_slot : (o : Option Slot) → option_map (λ s. s.row) o ≡ None → o ≡ None
none_slot None e = refl
none_slot (Some s) e = absurd (none_some s.row (sym e))

-- An incarnation that has no row has no slot.
pub slot_of-none : (ss : List Slot) (i : ℕ) → row_of (rows_in ss) i ≡ None → slot_of ss i ≡ None
slot_of-none ss i e = none_slot (slot_of ss i) (sym (row_of-slots ss i) ∙ e)

-- ---- the flag of an incarnation

-- An incarnation is flagged where its slot has the mark kept.
pub flag-slot : (k : MarkKind) (ss : List Slot) (i : ℕ) (s : Slot) → slot_of ss i ≡ Some s → flag_of k ss i ≡ flag_in k s.marks
flag-slot k ss i s e = ap (λ o. option_map_or (λ (z : Slot). flag_in k z.marks) o false) e

-- An incarnation that has no slot isn't flagged.
pub flag-none : (k : MarkKind) (ss : List Slot) (i : ℕ) → slot_of ss i ≡ None → flag_of k ss i ≡ false
flag-none k ss i e = ap (λ o. option_map_or (λ (z : Slot). flag_in k z.marks) o false) e

-- A flag by the slots with one in front is that slot's own, where it has the incarnation, or else the
-- others'.
step_by : (t : Bool) (k : MarkKind) (s : Slot) (o : Option Slot) → option_map_or (λ (z : Slot). flag_in k z.marks) (cond t (Some s) o) false ≡ cond t (flag_in k s.marks) (option_map_or (λ (z : Slot). flag_in k z.marks) o false)
step_by true k s o = refl
step_by false k s o = refl

-- The flag of an incarnation is that of the first slot, if that has it, else that in the rest.
flag_step : (k : MarkKind) (s : Slot) (ss : List Slot) (j : ℕ) → flag_of k (s ∷ ss) j ≡ cond (s.row.inc == j) (flag_in k s.marks) (flag_of k ss j)
flag_step k s ss j = step_by (s.row.inc == j) k s (slot_of ss j)

-- The flag of an incarnation by the first slot or the rest, by whether that slot has it.
flag_at : (t : Bool) (k : MarkKind) (s : Slot) (ss : List Slot) (j : ℕ) → (s.row.inc == j) ≡ t → flag_of k (s ∷ ss) j ≡ cond t (flag_in k s.marks) (flag_of k ss j)
flag_at t k s ss j e = flag_step k s ss j ∙ ap (λ u. cond u (flag_in k s.marks) (flag_of k ss j)) e

-- a slot more before others, which may be another
step_same : (k : MarkKind) (s t : Slot) (ss ts : List Slot) (j : ℕ) → t.row.inc ≡ s.row.inc → flag_in k t.marks ≡ flag_in k s.marks → flag_of k ts j ≡ flag_of k ss j → flag_of k (t ∷ ts) j ≡ flag_of k (s ∷ ss) j
step_same k s t ss ts j inc same later =
    flag_step k t ts j
    ∙ ap (λ n. cond (n == j) (flag_in k t.marks) (flag_of k ts j)) inc
    ∙ ap (λ f. cond (s.row.inc == j) f (flag_of k ts j)) same
    ∙ ap (λ f. cond (s.row.inc == j) (flag_in k s.marks) f) later
    ∙ sym (flag_step k s ss j)

-- slots with the same rows and the same marks one by one
pub flags_zip : (R : Slot → Slot → Type 0) → ((s t : Slot) → R s t → t.row ≡ s.row) → ((s t : Slot) → R s t → t.marks ≡ s.marks) → (k : MarkKind) (ss ts : List Slot) (j : ℕ) → EachOf R ss ts → flag_of k ts j ≡ flag_of k ss j
flags_zip R row marks k [] [] j rel = refl
flags_zip R row marks k [] (t ∷ ts) j rel = absurd rel
flags_zip R row marks k (s ∷ ss) [] j rel = absurd rel
flags_zip R row marks k (s ∷ ss) (t ∷ ts) j rel =
    step_same k s t ss ts j (ap (λ (r : Row). r.inc) (row s t rel.0)) (ap (flag_in k) (marks s t rel.0)) (flags_zip R row marks k ss ts j rel.1)

-- A change of a slot that keeps its flag leaves all flags, if so in the rest.
edited_by : (t : Bool) (k : MarkKind) (f : Slot → Slot) (s : Slot) (ss zs : List Slot) (j : ℕ) → (f s).row.inc ≡ s.row.inc → flag_in k (f s).marks ≡ flag_in k s.marks → flag_of k zs j ≡ flag_of k ss j → flag_of k (cond t (f s ∷ ss) (s ∷ zs)) j ≡ flag_of k (s ∷ ss) j
edited_by true k f s ss zs j inc same later = step_same k s (f s) ss ss j inc same refl
edited_by false k f s ss zs j inc same later = step_same k s s ss zs j refl refl later

-- a change of one slot that leaves its flag
pub flags_edited : (k : MarkKind) (f : Slot → Slot) (x j : ℕ) (ss : List Slot) → ((s : Slot) → (f s).row.inc ≡ s.row.inc) → ((s : Slot) → flag_in k (f s).marks ≡ flag_in k s.marks) → flag_of k (edit_first (λ s. s.row.inc == x) f ss) j ≡ flag_of k ss j
flags_edited k f x j [] inc same = refl
flags_edited k f x j (s ∷ ss) inc same =
    edited_by (s.row.inc == x) k f s ss (edit_first (λ z. z.row.inc == x) f ss) j (inc s) (same s) (flags_edited k f x j ss inc same)

-- The removal of a slot leaves the flags of other incarnations, if so in the rest.
left_by : (t : Bool) (k : MarkKind) (x j : ℕ) (s : Slot) (ss zs : List Slot) → (s.row.inc == x) ≡ t → (j ≡ x → ⊥) → flag_of k zs j ≡ flag_of k ss j → flag_of k (cond t ss (s ∷ zs)) j ≡ flag_of k (s ∷ ss) j
left_by true k x j s ss zs own differ later =
    let off : (s.row.inc == j) ≡ false = ne_eqb s.row.inc j (λ e. differ (sym e ∙ (unsigned_Decides s.row.inc x).0 own)) in
    sym (flag_at false k s ss j off)
left_by false k x j s ss zs own differ later = step_same k s s ss zs j refl refl later

-- the others, where one slot is taken away
pub flags_dropped : (k : MarkKind) (x j : ℕ) (ss : List Slot) → (j ≡ x → ⊥) → flag_of k (drop_first (λ s. s.row.inc == x) ss) j ≡ flag_of k ss j
flags_dropped k x j [] differ = refl
flags_dropped k x j (s ∷ ss) differ =
    left_by (s.row.inc == x) k x j s ss (drop_first (λ z. z.row.inc == x) ss) refl differ (flags_dropped k x j ss differ)

-- With more slots behind, a row's flag is what it was.
pub flag_before : (k : MarkKind) (ss ts : List Slot) (j : ℕ) (s : Slot) → slot_of ss j ≡ Some s → flag_of k (ss ++ ts) j ≡ flag_of k ss j
flag_before k ss ts j s e = flag-slot k (ss ++ ts) j s (some_prefix inc_of ss ts j s e) ∙ sym (flag-slot k ss j s e)

-- An incarnation without a slot among the first is flagged where it is so among those behind them.
pub flag_behind : (k : MarkKind) (ss ts : List Slot) (j : ℕ) → slot_of ss j ≡ None → flag_of k (ss ++ ts) j ≡ flag_of k ts j
flag_behind k ss ts j e = ap (λ o. option_map_or (λ (z : Slot). flag_in k z.marks) o false) (none_append inc_of ss ts j e)

-- ---- one slot is flagged

-- Flagging a slot leaves the slots the same but for their marks, if so in the rest.
same_by : (t : Bool) (k : MarkKind) (s : Slot) (ss zs : List Slot) → map unmarked zs ≡ map unmarked ss → map unmarked (cond t (flagged k s ∷ ss) (s ∷ zs)) ≡ map unmarked (s ∷ ss)
same_by true k s ss zs later = refl
same_by false k s ss zs later = ap (λ l. unmarked s ∷ l) later

-- Flagging a slot changes nothing but marks.
pub same-flagged : (k : MarkKind) (b : ℕ) (ss : List Slot) → map unmarked (edit_first (λ s. s.row.inc == b) (flagged k) ss) ≡ map unmarked ss
same-flagged k b [] = refl
same-flagged k b (s ∷ ss) = same_by (s.row.inc == b) k s ss (edit_first (λ z. z.row.inc == b) (flagged k) ss) (same-flagged k b ss)

-- The rows of slots without marks are the rows of the slots.
rows_unmarked : (ss : List Slot) → map (λ s. s.row) (map unmarked ss) ≡ rows_in ss
rows_unmarked [] = refl
rows_unmarked (s ∷ ss) = ap (λ l. s.row ∷ l) (rows_unmarked ss)

-- the rows are the same, where all but the marks is
pub rows_alike : (ss zs : List Slot) → map unmarked zs ≡ map unmarked ss → rows_in zs ≡ rows_in ss
rows_alike ss zs e = sym (rows_unmarked zs) ∙ ap (map (λ s. s.row)) e ∙ rows_unmarked ss

-- The indexes of slots are right without their marks.
unmark_index : (rows : List Row) (next : ℕ) (ss : List Slot) → EachItem (IsIndexed rows next) ss → EachItem (IsIndexed rows next) (map unmarked ss)
unmark_index rows next [] all = tt
unmark_index rows next (s ∷ ss) all = (record { base = all.0.base; kids = all.0.kids; names = all.0.names }, unmark_index rows next ss all.1)

-- The indexes of slots are right where they are so without their marks.
mark_index : (rows : List Row) (next : ℕ) (ss : List Slot) → EachItem (IsIndexed rows next) (map unmarked ss) → EachItem (IsIndexed rows next) ss
mark_index rows next [] all = tt
mark_index rows next (s ∷ ss) all = (record { base = all.0.base; kids = all.0.kids; names = all.0.names }, mark_index rows next ss all.1)

-- Slots that are the same but for marks have indexes that are right where the others' are.
pub index_alike : (rows : List Row) (next : ℕ) (ss zs : List Slot) → map unmarked zs ≡ map unmarked ss → EachItem (IsIndexed rows next) ss → EachItem (IsIndexed rows next) zs
index_alike rows next ss zs e all = mark_index rows next zs (subst (EachItem (IsIndexed rows next)) (sym e) (unmark_index rows next ss all))

-- Slots that are alike but for their marks are indexed where the others are.
pub indexed_alike : (ss zs : List Slot) (next : ℕ) → map unmarked zs ≡ map unmarked ss → AreIndexed next ss → AreIndexed next zs
indexed_alike ss zs next e a =
    let rows : rows_in zs ≡ rows_in ss = rows_alike ss zs e in
    record {
      fits = a.fits;
      orderly = subst (λ l. IsOrderly l next) (sym rows) a.orderly;
      indexed = subst (λ l. EachItem (IsIndexed l next) zs) (sym rows) (index_alike (rows_in ss) next ss zs e a.indexed);
    }

-- flags of other kinds stay
pub others-flagged : (k : MarkKind) (b : ℕ) (ss : List Slot) → OthersAreKept k ss (edit_first (λ s. s.row.inc == b) (flagged k) ss)
others-flagged k b ss other i apart = flags_edited other (flagged k) b i ss (λ s. refl) (λ s. apart s.marks)

-- A flag that is set stays so where a slot is flagged, if so in the rest.
kept_by : (t u : Bool) (k : MarkKind) (b j : ℕ) (s : Slot) (ss : List Slot) → (s.row.inc == b) ≡ t → (s.row.inc == j) ≡ u → (flag_of k ss j ≡ true → flag_of k (edit_first (λ z. z.row.inc == b) (flagged k) ss) j ≡ true) → cond u (flag_in k s.marks) (flag_of k ss j) ≡ true
    → flag_of k (cond t (flagged k s ∷ ss) (s ∷ edit_first (λ z. z.row.inc == b) (flagged k) ss)) j ≡ true
kept_by true true k b j s ss here at later e = flag_at true k (flagged k s) ss j at ∙ flag_put k s.marks
kept_by true false k b j s ss here at later e = flag_at false k (flagged k s) ss j at ∙ e
kept_by false true k b j s ss here at later e = flag_at true k s (edit_first (λ z. z.row.inc == b) (flagged k) ss) j at ∙ e
kept_by false false k b j s ss here at later e = flag_at false k s (edit_first (λ z. z.row.inc == b) (flagged k) ss) j at ∙ later e

-- What is flagged stays so where a slot is flagged.
pub flag-kept : (k : MarkKind) (b j : ℕ) (ss : List Slot) → flag_of k ss j ≡ true → flag_of k (edit_first (λ s. s.row.inc == b) (flagged k) ss) j ≡ true
flag-kept k b j [] e = absurd (true≢false (sym e))
flag-kept k b j (s ∷ ss) e =
    kept_by (s.row.inc == b) (s.row.inc == j) k b j s ss refl refl (flag-kept k b j ss) (sym (flag_step k s ss j) ∙ e)

-- A flag that is set behind the flagging of a slot was so or is that slot's, if so in the rest.
only_by : (t u : Bool) (k : MarkKind) (b j : ℕ) (s : Slot) (ss : List Slot) → (s.row.inc == b) ≡ t → (s.row.inc == j) ≡ u
    → (flag_of k (edit_first (λ z. z.row.inc == b) (flagged k) ss) j ≡ true → (flag_of k ss j ≡ true) ⊎ (j ≡ b))
    → flag_of k (cond t (flagged k s ∷ ss) (s ∷ edit_first (λ z. z.row.inc == b) (flagged k) ss)) j ≡ true → (cond u (flag_in k s.marks) (flag_of k ss j) ≡ true) ⊎ (j ≡ b)
only_by true true k b j s ss here at later e = inr (sym ((unsigned_Decides s.row.inc j).0 at) ∙ (unsigned_Decides s.row.inc b).0 here)
only_by true false k b j s ss here at later e = inl (sym (flag_at false k (flagged k s) ss j at) ∙ e)
only_by false true k b j s ss here at later e = inl (sym (flag_at true k s (edit_first (λ z. z.row.inc == b) (flagged k) ss) j at) ∙ e)
only_by false false k b j s ss here at later e = later (sym (flag_at false k s (edit_first (λ z. z.row.inc == b) (flagged k) ss) j at) ∙ e)

-- A row that is flagged behind the flagging of one was flagged before, or is that one.
pub flag-only : (k : MarkKind) (b j : ℕ) (ss : List Slot) → flag_of k (edit_first (λ s. s.row.inc == b) (flagged k) ss) j ≡ true → (flag_of k ss j ≡ true) ⊎ (j ≡ b)
flag-only k b j [] e = inl e
flag-only k b j (s ∷ ss) e =
    subst (λ f. (f ≡ true) ⊎ (j ≡ b)) (sym (flag_step k s ss j))
    (only_by (s.row.inc == b) (s.row.inc == j) k b j s ss refl refl (flag-only k b j ss) e)

-- The flag of a slot that is there is set behind its flagging, if so in the rest.
hit_by : (t : Bool) (k : MarkKind) (b : ℕ) (s z : Slot) (ss : List Slot) → (s.row.inc == b) ≡ t → (slot_of ss b ≡ Some z → flag_of k (edit_first (λ y. y.row.inc == b) (flagged k) ss) b ≡ true) → cond t (Some s) (slot_of ss b) ≡ Some z
    → flag_of k (cond t (flagged k s ∷ ss) (s ∷ edit_first (λ y. y.row.inc == b) (flagged k) ss)) b ≡ true
hit_by true k b s z ss here later e = flag_at true k (flagged k s) ss b here ∙ flag_put k s.marks
hit_by false k b s z ss here later e = flag_at false k s (edit_first (λ y. y.row.inc == b) (flagged k) ss) b here ∙ later e

-- A row that is flagged and has a slot is flagged then.
pub flag-hit : (k : MarkKind) (b : ℕ) (ss : List Slot) (z : Slot) → slot_of ss b ≡ Some z → flag_of k (edit_first (λ s. s.row.inc == b) (flagged k) ss) b ≡ true
flag-hit k b [] z e = absurd (none_some z e)
flag-hit k b (s ∷ ss) z e = hit_by (s.row.inc == b) k b s z ss refl (flag-hit k b ss z) e

-- ---- how many aren't flagged

-- The slots left without a flag are one more with an open slot in front, and as many else.
counts_by : (u : Bool) (k : MarkKind) (s : Slot) (ss : List Slot) → length (cond (not u) (s ∷ filter (λ (z : Slot). not (flag_in k z.marks)) ss) (filter (λ (z : Slot). not (flag_in k z.marks)) ss)) ≡ cond u (open_count k ss) (suc (open_count k ss))
counts_by true k s ss = refl
counts_by false k s ss = refl

-- One more slot is open with an open slot in front, and as many as before with a flagged one.
counts : (u : Bool) (k : MarkKind) (s : Slot) (ss : List Slot) → flag_in k s.marks ≡ u → open_count k (s ∷ ss) ≡ cond u (open_count k ss) (suc (open_count k ss))
counts u k s ss e = ap (λ c. length (cond (not c) (s ∷ filter (λ (z : Slot). not (flag_in k z.marks)) ss) (filter (λ (z : Slot). not (flag_in k z.marks)) ss))) e ∙ counts_by u k s ss

-- A number that is one less than another is below it.
fewer_at : (a b c : ℕ) → a ≡ suc c → b ≡ c → b < a
fewer_at a b c x y = omega arith

-- One more on both sides, by the same test, leaves the lower number lower.
fewer_on : (u : Bool) (a b n m : ℕ) → a ≡ cond u n (suc n) → b ≡ cond u m (suc m) → m < n → b < a
fewer_on true a b n m x y less = omega arith
fewer_on false a b n m x y less = omega arith

-- Flagging an open slot that is there leaves fewer open, if so in the rest.
fewer_by : (t : Bool) (k : MarkKind) (b : ℕ) (s z : Slot) (ss : List Slot) → flag_in k z.marks ≡ false → (slot_of ss b ≡ Some z → open_count k (edit_first (λ y. y.row.inc == b) (flagged k) ss) < open_count k ss) → cond t (Some s) (slot_of ss b) ≡ Some z
    → open_count k (cond t (flagged k s ∷ ss) (s ∷ edit_first (λ y. y.row.inc == b) (flagged k) ss)) < open_count k (s ∷ ss)
fewer_by true k b s z ss open_one later e =
    let shut : flag_in k s.marks ≡ false = ap (λ (y : Slot). flag_in k y.marks) (some_same s z e) ∙ open_one in
    fewer_at (open_count k (s ∷ ss)) (open_count k (flagged k s ∷ ss)) (open_count k ss) (counts false k s ss shut) (counts true k (flagged k s) ss (flag_put k s.marks))
fewer_by false k b s z ss open_one later e =
    let zs = edit_first (λ y. y.row.inc == b) (flagged k) ss in
    fewer_on (flag_in k s.marks) (open_count k (s ∷ ss)) (open_count k (s ∷ zs)) (open_count k ss) (open_count k zs) (counts (flag_in k s.marks) k s ss refl) (counts (flag_in k s.marks) k s zs refl) (later e)

-- Where a slot that isn't flagged is flagged, there are fewer that aren't.
pub fewer-flagged : (k : MarkKind) (b : ℕ) (ss : List Slot) (z : Slot) → slot_of ss b ≡ Some z → flag_in k z.marks ≡ false → open_count k (edit_first (λ s. s.row.inc == b) (flagged k) ss) < open_count k ss
fewer-flagged k b [] z e open_one = absurd (none_some z e)
fewer-flagged k b (s ∷ ss) z e open_one = fewer_by (s.row.inc == b) k b s z ss open_one (λ h. fewer-flagged k b ss z h open_one) e
