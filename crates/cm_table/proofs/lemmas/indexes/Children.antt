-- The children of a row, and the child of a name, behind each change of the rows.
use Rattle.std.proofs.Common.{◌≡◌, ℕ, ◌<◌, ◌≤◌, List, [], ◌∷◌, ◌++◌, map, Bool, true, false, cond, ◌==◌, ◌&&◌, not, nat_eq, true≢false, Option, Some, None, IsSome, is_some, IsTrue, find, filter, refl, sym, ap, ◌∙◌, subst, arith, ne_eqb, ne_of_lt}
use Rattle.std.specs.Prelude.{option_map}
use Rattle.std.specs.Option.{option_eq}
use Rattle.std.specs.Cmp.{unsigned_Decides, first_so, second_so}
use Rattle.std.proofs.lemmas.Bool.{not-true}
use Rattle.cm_names.specs.declared.child.ChildName.{ChildName}
use Rattle.cm_facts.proofs.Options.{option_eq_some, is_some_true}
use Rattle.cm_decl.specs.Same.{same_child}
use Rattle.cm_world.specs.declared.row.Row.{Row}
use Rattle.cm_world.specs.Edits.{drop_first}
use Rattle.cm_world.specs.Rows.{row_of, has_parent, has_name, child_of}
use Rattle.cm_world.specs.RowsInside.{is_behind, child_behind}
use Rattle.cm_world.specs.End.{changed, set_doomed}
use Rattle.cm_world.specs.Sound.{IncarnationsIncrease, IsOrderly}
use Rattle.cm_world.proofs.lemmas.trees.Finding.{some_same, none_some, find-passes}
use Rattle.cm_world.proofs.lemmas.trees.Walks.{find-lives}
use Rattle.cm_table.specs.Keys.{EachItem}
use Rattle.cm_table.specs.Links.{unless}
use Rattle.cm_trees.proofs.rows.Rows.{is_some_by, lives_below}
use Rattle.cm_table.proofs.lemmas.tree.Leaves.{without, was_there, not_taken, increasing_without}
use Rattle.cm_table.proofs.lemmas.lists.BinarySearch.{no_some}
use Rattle.cm_trees.specs.Reading.{is_there}
use Rattle.cm_trees.proofs.names.Naming.{some_name}
use Rattle.cm_trees.proofs.rows.Finding.{first_row as own_row}

-- The incarnations of these rows, in their order.
abbrev pub incs : List Row → List ℕ
incs rows = map (λ r. r.inc) rows

-- The incarnations of the children of a row, in their order.
abbrev pub kids : List Row → ℕ → List ℕ
kids rows j = incs (filter (has_parent j) rows)

-- ---- a change that keeps parents, names and who is doomed

-- Incarnations are the same with one more in front on both sides, kept by the same test.
incs_same : (c : Bool) (x y : Row) (l m : List Row) → x.inc ≡ y.inc → incs l ≡ incs m → incs (cond c (x ∷ l) l) ≡ incs (cond c (y ∷ m) m)
incs_same true x y l m n h = ap (λ z. z ∷ incs l) n ∙ ap (λ z. y.inc ∷ z) h
incs_same false x y l m n h = h

-- Incarnations are the same with one more in front on both sides, kept by tests that agree.
incs_by : (b c : Bool) (x y : Row) (l m : List Row) → b ≡ c → x.inc ≡ y.inc → incs l ≡ incs m → incs (cond b (x ∷ l) l) ≡ incs (cond c (y ∷ m) m)
incs_by b c x y l m e n h = ap (λ t. incs (cond t (x ∷ l) l)) e ∙ incs_same c x y l m n h

-- The children of a row stay the same behind a change that keeps parents, if so in the rest.
kids_changed_by : (t : Bool) (i j : ℕ) (f : Row → Row) (x : Row) (xs : List Row) → (f x).inc ≡ x.inc → (f x).parent ≡ x.parent → kids (changed i f xs) j ≡ kids xs j → kids (cond t (f x ∷ xs) (x ∷ changed i f xs)) j ≡ kids (x ∷ xs) j
kids_changed_by true i j f x xs n p later =
    incs_by (has_parent j (f x)) (has_parent j x) (f x) x (filter (has_parent j) xs) (filter (has_parent j) xs) (ap (λ o. option_eq nat_eq o (Some j)) p) n refl
kids_changed_by false i j f x xs n p later =
    incs_by (has_parent j x) (has_parent j x) x x (filter (has_parent j) (changed i f xs)) (filter (has_parent j) xs) refl refl later

-- A change that keeps incarnations and parents leaves the children of each row as they are.
pub kids_changed : (i j : ℕ) (f : Row → Row) → ((r : Row) → (f r).inc ≡ r.inc) → ((r : Row) → (f r).parent ≡ r.parent) → (rows : List Row) → kids (changed i f rows) j ≡ kids rows j
kids_changed i j f n p [] = refl
kids_changed i j f n p (x ∷ xs) = kids_changed_by (x.inc == i) i j f x xs (n x) (p x) (kids_changed i j f n p xs)

-- Whether parent, name and doom are those of a child that is there.
there_by : ℕ → ChildName → Option ℕ → Option ChildName → Bool → Bool
there_by p c parent name doomed = option_eq nat_eq parent (Some p) && option_eq same_child name (Some c) && not doomed

-- A row alike in parent, name and doom is a child that is there exactly where the other is.
same_test : (j : ℕ) (c : ChildName) (x y : Row) → y.parent ≡ x.parent → y.name ≡ x.name → y.doomed ≡ x.doomed → is_there j c y ≡ is_there j c x
unfolding there_by
same_test j c x y p n d =
    ap (λ o. there_by j c o y.name y.doomed) p ∙ ap (λ o. there_by j c x.parent o y.doomed) n ∙ ap (λ b. there_by j c x.parent x.name b) d

-- The same incarnation is found with a row more on both sides, picked by the same test.
found_same : (c : Bool) (x y : Row) (o p : Option Row) → x.inc ≡ y.inc → option_map (λ r. r.inc) o ≡ option_map (λ r. r.inc) p → option_map (λ r. r.inc) (cond c (Some x) o) ≡ option_map (λ r. r.inc) (cond c (Some y) p)
found_same true x y o p n e = ap Some n
found_same false x y o p n e = e

-- The same incarnation is found with a row more on both sides, picked by tests that agree.
found_by : (b c : Bool) (x y : Row) (o p : Option Row) → b ≡ c → x.inc ≡ y.inc → option_map (λ r. r.inc) o ≡ option_map (λ r. r.inc) p → option_map (λ r. r.inc) (cond b (Some x) o) ≡ option_map (λ r. r.inc) (cond c (Some y) p)
found_by b c x y o p e n h = ap (λ t. option_map (λ r. r.inc) (cond t (Some x) o)) e ∙ found_same c x y o p n h

-- The child of a name stays the same behind a change that keeps its test, if so in the rest.
child_changed_by : (t : Bool) (i j : ℕ) (c : ChildName) (f : Row → Row) (x : Row) (xs : List Row) → (f x).inc ≡ x.inc → is_there j c (f x) ≡ is_there j c x → child_of (changed i f xs) j c ≡ child_of xs j c → child_of (cond t (f x ∷ xs) (x ∷ changed i f xs)) j c ≡ child_of (x ∷ xs) j c
child_changed_by true i j c f x xs n test later = found_by (is_there j c (f x)) (is_there j c x) (f x) x (find (is_there j c) xs) (find (is_there j c) xs) test n refl
child_changed_by false i j c f x xs n test later = found_by (is_there j c x) (is_there j c x) x x (find (is_there j c) (changed i f xs)) (find (is_there j c) xs) refl refl later

-- A change that keeps incarnations, parents, names and who is doomed leaves the child of each name.
pub child_changed : (i j : ℕ) (c : ChildName) (f : Row → Row) → ((r : Row) → (f r).inc ≡ r.inc) → ((r : Row) → (f r).parent ≡ r.parent) → ((r : Row) → (f r).name ≡ r.name) → ((r : Row) → (f r).doomed ≡ r.doomed) → (rows : List Row) → child_of (changed i f rows) j c ≡ child_of rows j c
child_changed i j c f n p m d [] = refl
child_changed i j c f n p m d (x ∷ xs) =
    child_changed_by (x.inc == i) i j c f x xs (n x) (same_test j c x (f x) (p x) (m x) (d x)) (child_changed i j c f n p m d xs)

-- ---- without a row

-- the children are those that were, but for it
drop_high_by : (u : Bool) (i : ℕ) (x : Row) (l : List Row) → (x.inc == i) ≡ false → drop_first (λ k. k == i) (incs l) ≡ incs l → drop_first (λ k. k == i) (incs (cond u (x ∷ l) l)) ≡ incs (cond u (x ∷ l) l)
drop_high_by true i x l miss later = ap (λ t. cond t (incs l) (x.inc ∷ drop_first (λ k. k == i) (incs l))) miss ∙ ap (λ z. x.inc ∷ z) later
drop_high_by false i x l miss later = later

-- An incarnation below all rows is none of those that pass a test.
drop_high : (q : Row → Bool) (i : ℕ) (xs : List Row) → ((j : ℕ) → IsSome (row_of xs j) → i < j) → drop_first (λ k. k == i) (incs (filter q xs)) ≡ incs (filter q xs)
drop_high q i [] high = refl
drop_high q i (x ∷ xs) high =
    drop_high_by (q x) i x (filter q xs) (ne_eqb x.inc i (λ e. ne_of_lt (high x.inc (ap is_some (own_row x xs))) (sym e)))
    (drop_high q i xs (λ j h. high j (later_some (x.inc == j) x (row_of xs j) h))) where
      own_row : (x : Row) (xs : List Row) → row_of (x ∷ xs) x.inc ≡ Some x
      own_row x xs = rw ((unsigned_Decides x.inc x.inc).1 refl) refl

      later_some : (t : Bool) (x : Row) (o : Option Row) → IsSome o → IsSome (cond t (Some x) o)
      later_some true x o h = refl
      later_some false x o h = h

-- Without its own incarnation, those of the rest are left where a row stands in front.
dropped_own : (u : Bool) (i : ℕ) (x : Row) (l : List Row) → (x.inc == i) ≡ true → drop_first (λ k. k == i) (incs l) ≡ incs l → incs l ≡ drop_first (λ k. k == i) (incs (cond u (x ∷ l) l))
dropped_own true i x l own none = sym (ap (λ t. cond t (incs l) (x.inc ∷ drop_first (λ k. k == i) (incs l))) own)
dropped_own false i x l own none = sym none

-- Without another incarnation, a row in front is kept as before.
dropped_other : (u : Bool) (i : ℕ) (x : Row) (l m : List Row) → (x.inc == i) ≡ false → incs m ≡ drop_first (λ k. k == i) (incs l) → incs (cond u (x ∷ m) m) ≡ drop_first (λ k. k == i) (incs (cond u (x ∷ l) l))
dropped_other true i x l m miss later = ap (λ z. x.inc ∷ z) later ∙ sym (ap (λ t. cond t (incs l) (x.inc ∷ drop_first (λ k. k == i) (incs l))) miss)
dropped_other false i x l m miss later = later

-- Rows that pass a test, without one, are those that pass without its incarnation, if so in the rest.
without_by : (t : Bool) (q : Row → Bool) (i : ℕ) (x : Row) (xs : List Row) → (x.inc == i) ≡ t → ((j : ℕ) → IsSome (row_of xs j) → x.inc < j) → incs (filter q (without i xs)) ≡ drop_first (λ k. k == i) (incs (filter q xs)) → incs (filter q (cond t xs (x ∷ without i xs))) ≡ drop_first (λ k. k == i) (incs (filter q (x ∷ xs)))
without_by true q i x xs own high later =
    let at : x.inc ≡ i = (unsigned_Decides x.inc i).0 own in
    dropped_own (q x) i x (filter q xs) own (drop_high q i xs (λ j h. subst (λ n. n < j) at (high j h)))
without_by false q i x xs own high later = dropped_other (q x) i x (filter q xs) (filter q (without i xs)) own later

-- Without a row those that pass a test have the incarnations that they had, but for that row's.
pub filter_without : (q : Row → Bool) (i next : ℕ) (rows : List Row) → IncarnationsIncrease next rows → incs (filter q (without i rows)) ≡ drop_first (λ k. k == i) (incs (filter q rows))
filter_without q i next [] increasing = refl
filter_without q i next (x ∷ xs) increasing = without_by (x.inc == i) q i x xs refl increasing.0.1 (filter_without q i next xs increasing.1)

-- where it fails a test, those that pass are the same
fails_by : (t : Bool) (q : Row → Bool) (i : ℕ) (x : Row) (xs : List Row) → (x.inc == i) ≡ t → ((r : Row) → cond t (Some x) (row_of xs i) ≡ Some r → q r ≡ false) → (((r : Row) → row_of xs i ≡ Some r → q r ≡ false) → filter q (without i xs) ≡ filter q xs) → filter q (cond t xs (x ∷ without i xs)) ≡ filter q (x ∷ xs)
fails_by true q i x xs own fails later = sym (ap (λ b. cond b (x ∷ filter q xs) (filter q xs)) (fails x refl))
fails_by false q i x xs own fails later = ap (λ l. cond (q x) (x ∷ l) l) (later fails)

-- Where a row fails a test, the same rows pass it where it is taken away.
pub filter_fails : (q : Row → Bool) (i : ℕ) (rows : List Row) → ((r : Row) → row_of rows i ≡ Some r → q r ≡ false) → filter q (without i rows) ≡ filter q rows
filter_fails q i [] fails = refl
filter_fails q i (x ∷ xs) fails = fails_by (x.inc == i) q i x xs refl fails (filter_fails q i xs)

-- what is found and isn't it, is found still
kept_by : (u v : Bool) (t : Row → Bool) (i : ℕ) (x : Row) (xs : List Row) → t x ≡ u → (x.inc == i) ≡ v → ((r : Row) → cond u (Some x) (find t xs) ≡ Some r → r.inc ≡ i → ⊥) → (((r : Row) → find t xs ≡ Some r → r.inc ≡ i → ⊥) → find t (without i xs) ≡ find t xs) → find t (cond v xs (x ∷ without i xs)) ≡ cond u (Some x) (find t xs)
kept_by true true t i x xs hit own other later = absurd (other x refl ((unsigned_Decides x.inc i).0 own))
kept_by true false t i x xs hit own other later = ap (λ b. cond b (Some x) (find t (without i xs))) hit
kept_by false true t i x xs hit own other later = refl
kept_by false false t i x xs hit own other later = ap (λ b. cond b (Some x) (find t (without i xs))) hit ∙ later other

-- What a test finds is found without another row too.
pub find_kept : (t : Row → Bool) (i : ℕ) (rows : List Row) → ((r : Row) → find t rows ≡ Some r → r.inc ≡ i → ⊥) → find t (without i rows) ≡ find t rows
find_kept t i [] other = refl
find_kept t i (x ∷ xs) other = kept_by (t x) (x.inc == i) t i x xs refl refl other (find_kept t i xs)

-- ---- the child of a name

-- what is told of a row that is found by its name
pub record IsNamed (rows : List Row) (p : ℕ) (c : ChildName) (r : Row) : Type 0 where
  pub lives : row_of rows r.inc ≡ Some r
  pub under : r.parent ≡ Some p
  pub named : r.name ≡ Some c
  pub alive : r.doomed ≡ false

-- A row that is found as a child of a name lives, has that parent and that name, and isn't doomed.
pub named_row : (rows : List Row) (next p : ℕ) (c : ChildName) (r : Row) → IncarnationsIncrease next rows → find (is_there p c) rows ≡ Some r → IsNamed rows p c r
named_row rows next p c r increasing e =
    let passes : IsTrue (is_there p c r) = find-passes (is_there p c) rows r e in
    let both : IsTrue (has_parent p r && has_name c r) = first_so (has_parent p r && has_name c r) (not r.doomed) passes in
    record {
      lives = find-lives (is_there p c) rows next r increasing e;
      under = option_eq_some r.parent p (first_so (has_parent p r) (has_name c r) both);
      named = some_name r.name c (second_so (has_parent p r) (has_name c r) both);
      alive = not-true r.doomed (second_so (has_parent p r && has_name c r) (not r.doomed) passes);
    }

-- Without the child of a name no other child of this parent has the name.
none_left : (rows : List Row) (next i p : ℕ) (c : ChildName) (r : Row) → IsOrderly rows next → find (is_there p c) rows ≡ Some r → r.inc ≡ i → find (is_there p c) (without i rows) ≡ None
none_left rows next i p c r o e at =
    no_some (find (is_there p c) (without i rows)) (λ h.
    let q : (s : Row) × (find (is_there p c) (without i rows) ≡ Some s) = is_some_true (find (is_there p c) (without i rows)) h in
    let first : IsNamed rows p c r = named_row rows next p c r o.increasing e in
    let second : IsNamed (without i rows) p c q.0 = named_row (without i rows) next p c q.0 (increasing_without i next rows o.increasing) q.1 in
    let there : row_of rows q.0.inc ≡ Some q.0 = was_there i next q.0.inc rows q.0 o.increasing second.lives in
    let same : q.0.inc ≡ r.inc = o.one_name q.0.inc r.inc q.0 r there first.lives second.alive first.alive (second.under ∙ sym first.under) (second.named ∙ sym first.named) in
    not_taken i next q.0.inc rows q.0 o.increasing second.lives (same ∙ at))

-- The child of a name without a row is that found before, or none if it was that row.
child_by : (v : Bool) (rows : List Row) (next i p : ℕ) (c : ChildName) (r : Row) → IsOrderly rows next → find (is_there p c) rows ≡ Some r → (r.inc == i) ≡ v → option_map (λ s. s.inc) (find (is_there p c) (without i rows)) ≡ cond v None (Some r.inc)
child_by true rows next i p c r o e own = ap (option_map (λ s. s.inc)) (none_left rows next i p c r o e ((unsigned_Decides r.inc i).0 own))
child_by false rows next i p c r o e own =
    ap (option_map (λ s. s.inc)) (find_kept (is_there p c) i rows (λ s found at. true≢false (sym ((unsigned_Decides r.inc i).1 (ap (λ (z : Row). z.inc) (some_same r s (sym e ∙ found)) ∙ at)) ∙ own)) ∙ e)

-- The child of a name without a row is that found before unless that is the row taken away.
child_at : (o : Option Row) (rows : List Row) (next i p : ℕ) (c : ChildName) → IsOrderly rows next → find (is_there p c) rows ≡ o → option_map (λ s. s.inc) (find (is_there p c) (without i rows)) ≡ unless i (option_map (λ s. s.inc) o)
child_at None rows next i p c orderly e = ap (option_map (λ s. s.inc)) (find_kept (is_there p c) i rows (λ s found at. none_some s (sym e ∙ found)) ∙ e)
child_at (Some r) rows next i p c orderly e = child_by (r.inc == i) rows next i p c r orderly e refl

-- the child of a name is the one that was, unless it is taken away
pub child_without : (rows : List Row) (next i p : ℕ) (c : ChildName) → IsOrderly rows next → child_of (without i rows) p c ≡ unless i (child_of rows p c)
child_without rows next i p c o = child_at (find (is_there p c) rows) rows next i p c o refl

-- Three tests of which the last never passes don't all pass.
and_never : (a b : Bool) → (a && b && false) ≡ false
and_never true true = refl
and_never true false = refl
and_never false b = refl

-- The child found where a row is doomed is that found without it, if so in the rest.
doomed_by : (t : Bool) (i p : ℕ) (c : ChildName) (x : Row) (xs : List Row) → find (is_there p c) (changed i set_doomed xs) ≡ find (is_there p c) (without i xs) → find (is_there p c) (cond t (set_doomed x ∷ xs) (x ∷ changed i set_doomed xs)) ≡ find (is_there p c) (cond t xs (x ∷ without i xs))
doomed_by true i p c x xs later = ap (λ b. cond b (Some (set_doomed x)) (find (is_there p c) xs)) (and_never (has_parent p x) (has_name c x))
doomed_by false i p c x xs later = ap (cond (is_there p c x) (Some x)) later

-- The child of a name where a row is doomed is that found without that row.
find_doomed : (i p : ℕ) (c : ChildName) (rows : List Row) → find (is_there p c) (changed i set_doomed rows) ≡ find (is_there p c) (without i rows)
find_doomed i p c [] = refl
find_doomed i p c (x ∷ xs) = doomed_by (x.inc == i) i p c x xs (find_doomed i p c xs)

-- a doomed row isn't found by its name
pub child_doomed : (rows : List Row) (next i p : ℕ) (c : ChildName) → IsOrderly rows next → child_of (changed i set_doomed rows) p c ≡ unless i (child_of rows p c)
child_doomed rows next i p c o = ap (option_map (λ s. s.inc)) (find_doomed i p c rows) ∙ child_without rows next i p c o

-- ---- more rows behind

-- None of these rows has that parent.
abbrev pub NoneHas : ℕ → List Row → Type 0
NoneHas j rows = EachItem (λ r. has_parent j r ≡ false) rows

-- Of rows none of which has a parent none is picked out as its child.
pub filter_none : (j : ℕ) (rows : List Row) → NoneHas j rows → filter (has_parent j) rows ≡ []
filter_none j [] none = refl
filter_none j (r ∷ rs) none = ap (λ b. cond b (r ∷ filter (has_parent j) rs) (filter (has_parent j) rs)) none.0 ∙ filter_none j rs none.1

-- Where the first of three doesn't hold, not all do.
and_none : (a b d : Bool) → a ≡ false → (a && b && d) ≡ false
and_none true b d e = absurd (true≢false e)
and_none false b d e = refl

-- Among rows none of which has a parent no child of it is found by a name.
pub find_none : (j : ℕ) (c : ChildName) (rows : List Row) → NoneHas j rows → find (is_there j c) rows ≡ None
find_none j c [] none = refl
find_none j c (r ∷ rs) none =
    ap (λ b. cond b (Some r) (find (is_there j c) rs)) (and_none (has_parent j r) (has_name c r) (not r.doomed) none.0) ∙ find_none j c rs none.1

-- The rows of two lists that pass a test are those of the first, and behind them those of the second.
pub filter_append : (q : Row → Bool) (xs ys : List Row) → filter q (xs ++ ys) ≡ filter q xs ++ filter q ys
filter_append q [] ys = refl
filter_append q (x ∷ xs) ys = by (q x) x (filter q (xs ++ ys)) (filter q xs) (filter q ys) (filter_append q xs ys) where
  by : (t : Bool) (x : Row) (l a b : List Row) → l ≡ a ++ b → cond t (x ∷ l) l ≡ cond t (x ∷ a) a ++ b
  by true x l a b e = ap (λ z. x ∷ z) e
  by false x l a b e = e

-- The incarnations in two lists of rows are those in the first, and behind them those in the second.
pub incs_append : (xs ys : List Row) → incs (xs ++ ys) ≡ incs xs ++ incs ys
incs_append [] ys = refl
incs_append (x ∷ xs) ys = ap (λ l. x.inc ∷ l) (incs_append xs ys)

-- Where no row of the second list has a parent, its children are those in the first list.
pub kids_left : (j : ℕ) (xs ys : List Row) → NoneHas j ys → kids (xs ++ ys) j ≡ kids xs j
kids_left j xs ys none =
    ap incs (filter_append (has_parent j) xs ys ∙ ap (λ l. filter (has_parent j) xs ++ l) (filter_none j ys none)) ∙ incs_append (filter (has_parent j) xs) [] ∙ nil (kids xs j) where
      nil : (l : List ℕ) → l ++ [] ≡ l
      nil [] = refl
      nil (n ∷ ns) = ap (λ m. n ∷ m) (nil ns)

-- Where no row of the first list has a parent, its children are those in the second list.
pub kids_right : (j : ℕ) (xs ys : List Row) → NoneHas j xs → kids (xs ++ ys) j ≡ kids ys j
kids_right j [] ys none = refl
kids_right j (x ∷ xs) ys none = ap (λ b. incs (cond b (x ∷ filter (has_parent j) (xs ++ ys)) (filter (has_parent j) (xs ++ ys)))) none.0 ∙ kids_right j xs ys none.1

-- Where no row of the second list has a parent, its child of a name is found as in the first list.
pub child_left : (j : ℕ) (c : ChildName) (xs ys : List Row) → NoneHas j ys → find (is_there j c) (xs ++ ys) ≡ find (is_there j c) xs
child_left j c [] ys none = find_none j c ys none
child_left j c (x ∷ xs) ys none = ap (cond (is_there j c x) (Some x)) (child_left j c xs ys none)

-- Where no row of the first list has a parent, its child of a name is found as in the second list.
pub child_right : (j : ℕ) (c : ChildName) (xs ys : List Row) → NoneHas j xs → find (is_there j c) (xs ++ ys) ≡ find (is_there j c) ys
child_right j c [] ys none = refl
child_right j c (x ∷ xs) ys none =
    ap (λ b. cond b (Some x) (find (is_there j c) (xs ++ ys))) (and_none (has_parent j x) (has_name c x) (not x.doomed) none.0) ∙ child_right j c xs ys none.1

-- no row has a parent from the next incarnation on, nor one that doesn't live
pub has_by : (j : ℕ) (r : Row) (o : Option ℕ) → r.parent ≡ o → (r.parent ≡ Some j → ⊥) → has_parent j r ≡ false
has_by j r None e other = ap (λ p. option_eq nat_eq p (Some j)) e
has_by j r (Some q) e other = ap (λ p. option_eq nat_eq p (Some j)) e ∙ ne_eqb q j (λ same. other (e ∙ ap Some same))

-- A row of the rest is found with one in front whose incarnation is lower.
behind : (x r : Row) (xs : List Row) → ((j : ℕ) → IsSome (row_of xs j) → x.inc < j) → row_of xs r.inc ≡ Some r → row_of (x ∷ xs) r.inc ≡ Some r
behind x r xs up here =
    ap (λ t. cond t (Some x) (row_of xs r.inc)) (ne_eqb x.inc r.inc (ne_of_lt (up r.inc (is_some_by (row_of xs r.inc) r here)))) ∙ here

-- Where incarnations increase, what holds of each row that lives holds of each in the list.
pub each_row : (P : Row → Type 0) (next : ℕ) (xs : List Row) → IncarnationsIncrease next xs → ((r : Row) → row_of xs r.inc ≡ Some r → P r) → EachItem P xs
each_row P next [] increasing all = tt
each_row P next (x ∷ xs) increasing all = (all x (own_row x xs), each_row P next xs increasing.1 (λ r here. all r (behind x r xs increasing.0.1 here)))

-- In an orderly tree no row has a parent with the next incarnation or a higher one.
pub none_high : (rows : List Row) (next j : ℕ) → IsOrderly rows next → next ≤ j → NoneHas j rows
none_high rows next j o high = each_row (λ r. has_parent j r ≡ false) next rows o.increasing (λ r here. has_by j r r.parent refl (λ up.
    let q = (o.parents r.inc j r here up).0 in
    let low : j < next = lives_below rows next j q.row o.increasing q.lives in
    absurd (omega arith)))

-- In an orderly tree no row has a parent that doesn't live.
pub no_child : (rows : List Row) (next p : ℕ) → IsOrderly rows next → row_of rows p ≡ None → NoneHas p rows
no_child rows next p o none = each_row (λ r. has_parent p r ≡ false) next rows o.increasing (λ r here. has_by p r r.parent refl (λ up.
    let q = (o.parents r.inc p r here up).0 in none_some q.row (sym none ∙ q.lives)))

-- a child that is found lives
found_below : (rows : List Row) (next n : ℕ) (p : ℕ) (c : ChildName) (o : Option Row) → IncarnationsIncrease next rows → find (is_there p c) rows ≡ o → option_map (λ r. r.inc) o ≡ Some n → n < next
found_below rows next n p c None increasing e is = absurd (none_some n is)
found_below rows next n p c (Some r) increasing e is =
    subst (λ k. k < next) (some_same r.inc n is) (lives_below rows next r.inc r increasing (find-lives (is_there p c) rows next r increasing e))

-- In an orderly tree the child of a name has a lower incarnation than the next one.
pub child_below : (rows : List Row) (next p n : ℕ) (c : ChildName) → IsOrderly rows next → child_of rows p c ≡ Some n → n < next
child_below rows next p n c o e = found_below rows next n p c (find (is_there p c) rows) o.increasing refl e

-- Of each incarnation of rows that pass a test there is a row that passes, with what holds of all.
filtered : (P : Row → Type 0) (q : Row → Bool) (xs : List Row) → EachItem P xs → EachItem (λ n. (r : Row) × (r.inc ≡ n) × (q r ≡ true) × P r) (incs (filter q xs))
filtered P q [] all = tt
filtered P q (x ∷ xs) all = by (q x) refl (filtered P q xs all.1) where
  by : (t : Bool) → q x ≡ t → EachItem (λ n. (r : Row) × (r.inc ≡ n) × (q r ≡ true) × P r) (incs (filter q xs)) → EachItem (λ n. (r : Row) × (r.inc ≡ n) × (q r ≡ true) × P r) (incs (cond t (x ∷ filter q xs) (filter q xs)))
  by true e rest = ((x, refl, e, all.0), rest)
  by false e rest = rest

-- each of the children lives, and is below the next incarnation
pub record IsKid (rows : List Row) (next p n : ℕ) : Type 0 where
  pub row : Row
  pub lives : row_of rows n ≡ Some row
  pub under : row.parent ≡ Some p
  pub below : n < next

-- Each of a row's children lives, has that row as its parent, and is below the next incarnation.
pub kids_live : (rows : List Row) (next p : ℕ) → IncarnationsIncrease next rows → EachItem (IsKid rows next p) (kids rows p)
kids_live rows next p increasing =
    mapped (kids rows p) (filtered (λ r. row_of rows r.inc ≡ Some r) (has_parent p) rows (each_row (λ r. row_of rows r.inc ≡ Some r) next rows increasing (λ r here. here))) where
      one : (n : ℕ) → (r : Row) × (r.inc ≡ n) × (has_parent p r ≡ true) × (row_of rows r.inc ≡ Some r) → IsKid rows next p n
      one n h = record {
        row = h.0;
        lives = subst (λ k. row_of rows k ≡ Some h.0) h.1 h.3;
        under = option_eq_some h.0.parent p h.2;
        below = subst (λ k. k < next) h.1 (lives_below rows next h.0.inc h.0 increasing h.3);
      }

      mapped : (l : List ℕ) → EachItem (λ n. (r : Row) × (r.inc ≡ n) × (has_parent p r ≡ true) × (row_of rows r.inc ≡ Some r)) l → EachItem (IsKid rows next p) l
      mapped [] all = tt
      mapped (n ∷ ns) all = (one n all.0, mapped ns all.1)

-- the next child is the first of them that is behind
next_by : (u v : Bool) (after : Option ℕ) (p : ℕ) (x : Row) (o : Option Row) (l : List ℕ) → is_behind after x.inc ≡ v → option_map (λ r. r.inc) o ≡ find (is_behind after) l → option_map (λ r. r.inc) (cond (u && v) (Some x) o) ≡ find (is_behind after) (cond u (x.inc ∷ l) l)
next_by true true after p x o l e later = sym (ap (λ b. cond b (Some x.inc) (find (is_behind after) l)) e)
next_by true false after p x o l e later = later ∙ sym (ap (λ b. cond b (Some x.inc) (find (is_behind after) l)) e)
next_by false v after p x o l e later = later

-- The incarnations of rows with one more that may be kept are those with its own, if it is.
incs_cond : (u : Bool) (x : Row) (l : List Row) → incs (cond u (x ∷ l) l) ≡ cond u (x.inc ∷ incs l) (incs l)
incs_cond true x l = refl
incs_cond false x l = refl

-- The next child of a row behind one is the first of its children that stands behind that one.
pub next_kid : (rows : List Row) (p : ℕ) (after : Option ℕ) → child_behind rows p after ≡ find (is_behind after) (kids rows p)
next_kid [] p after = refl
next_kid (x ∷ xs) p after =
    next_by (has_parent p x) (is_behind after x.inc) after p x (find (λ r. has_parent p r && is_behind after r.inc) xs) (kids xs p) refl (next_kid xs p after)
    ∙ ap (find (is_behind after)) (sym (incs_cond (has_parent p x) x (filter (has_parent p) xs)))
