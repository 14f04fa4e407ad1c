-- The children of a row that aren't flagged, one behind another.
use Rattle.std.proofs.Common.{◌≡◌, ℕ, ◌<◌, ◌≤◌, ◌+◌, ◌-◌, List, [], ◌∷◌, Bool, true, false, cond, ◌&&◌, ◌==◌, nat_eq, nat_lt, true≢false, Option, Some, None, IsTrue, find, option_map, refl, sym, ◌∙◌, ap, subst, inl, inr, ◌⊎◌, arith}
use Rattle.std.specs.Option.{option_eq}
use Rattle.std.specs.Cmp.{unsigned_Decides, first_so, second_so}
use Rattle.std.proofs.lemmas.Bool.{lt-ltb, ltb-true, and_from}
use Rattle.cm_facts.proofs.Options.{option_eq_some}
use Rattle.cm_world.specs.declared.row.Row.{Row}
use Rattle.cm_world.specs.Rows.{row_of, has_parent}
use Rattle.cm_world.specs.RowsInside.{is_behind, child_behind}
use Rattle.cm_world.specs.Sound.{IsOrderly}
use Rattle.cm_world.proofs.lemmas.trees.Finding.{none_some, some_same, row_of-inc, find-passes}
use Rattle.cm_world.proofs.lemmas.trees.Walks.{find-lives}
use Rattle.cm_table.specs.declared.marks.MarkKind.{MarkKind}
use Rattle.cm_table.specs.declared.slot.Slot.{Slot}
use Rattle.cm_table.specs.Flags.{flag_of}
use Rattle.cm_table.specs.Leaf.{IsChildOf}
use Rattle.cm_table.specs.Marking.{IsOpenChild, AreAllFlagged}
use Rattle.cm_table.specs.Slots.{rows_in}
use Rattle.cm_trees.proofs.rows.Rows.{lives_below}
use Rattle.cm_trees.proofs.trees.Standing.{find_least}

-- ---- the first that is found

-- Where what is found by one test passes another, that one finds some row, if so in the rest.
some_by : (a b : Bool) (q : Row → Bool) (x s : Row) (o t : Option Row) → q x ≡ a → (t ≡ Some s → o ≡ None → ⊥) → cond b (Some x) t ≡ Some s → IsTrue (q s) → cond a (Some x) o ≡ None → ⊥
some_by true b q x s o t here later lives passes none = none_some x (sym none)
some_by false true q x s o t here later lives passes none = true≢false (sym passes ∙ sym (ap q (some_same x s lives)) ∙ here)
some_by false false q x s o t here later lives passes none = later lives none

-- where nothing is found, no row that lives passes
none_passes : (q : Row → Bool) (rows : List Row) (i : ℕ) (s : Row) → row_of rows i ≡ Some s → IsTrue (q s) → find q rows ≡ None → ⊥
none_passes q [] i s lives passes none = none_some s lives
none_passes q (x ∷ xs) i s lives passes none =
    some_by (q x) (x.inc == i) q x s (find q xs) (row_of xs i) refl (λ l n. none_passes q xs i s l passes n) lives passes none

-- ---- the next child

-- A child behind an incarnation passes the test for the children behind it.
kid_passes : (rows : List Row) (p i : ℕ) (after : Option ℕ) (r : Row) → row_of rows i ≡ Some r → r.parent ≡ Some p → IsTrue (is_behind after i) → IsTrue (has_parent p r && is_behind after r.inc)
kid_passes rows p i after r here up behind =
    and_from (has_parent p r) (is_behind after r.inc)
    (ap (λ o. option_eq nat_eq o (Some p)) up ∙ (unsigned_Decides p p).1 refl)
    (ap (is_behind after) (row_of-inc rows i r here) ∙ behind)

-- Where the search for a child behind a place finds none, no row with that parent stands there.
no_kid_by : (rows : List Row) (p i : ℕ) (after : Option ℕ) (r : Row) (o : Option Row) → find (λ z. has_parent p z && is_behind after z.inc) rows ≡ o → None ≡ option_map (λ z. z.inc) o → row_of rows i ≡ Some r → r.parent ≡ Some p → IsTrue (is_behind after i) → ⊥
no_kid_by rows p i after r None found e here up behind = none_passes (λ z. has_parent p z && is_behind after z.inc) rows i r here (kid_passes rows p i after r here up behind) found
no_kid_by rows p i after r (Some z) found e here up behind = none_some z.inc e

-- where none is found, there is none
no_kid : (rows : List Row) (p i : ℕ) (after : Option ℕ) (r : Row) → None ≡ child_behind rows p after → row_of rows i ≡ Some r → r.parent ≡ Some p → IsTrue (is_behind after i) → ⊥
no_kid rows p i after r e = no_kid_by rows p i after r (find (λ z. has_parent p z && is_behind after z.inc) rows) refl e

-- what the next child is
record IsNextKid (rows : List Row) (p : ℕ) (after : Option ℕ) (c : ℕ) : Type 0 where
  child : IsChildOf rows p c
  behind : IsTrue (is_behind after c)
  least : (i : ℕ) (r : Row) → row_of rows i ≡ Some r → r.parent ≡ Some p → IsTrue (is_behind after i) → c ≤ i

-- The child that the search behind a place finds is the next child.
next_kid_by : (rows : List Row) (next p c : ℕ) (after : Option ℕ) (o : Option Row) → IsOrderly rows next → find (λ z. has_parent p z && is_behind after z.inc) rows ≡ o → Some c ≡ option_map (λ z. z.inc) o → IsNextKid rows p after c
next_kid_by rows next p c after None orderly found e = absurd (none_some c (sym e))
next_kid_by rows next p c after (Some z) orderly found e =
    let own : z.inc ≡ c = some_same z.inc c (sym e) in
    let passes : IsTrue (has_parent p z && is_behind after z.inc) = find-passes (λ y. has_parent p y && is_behind after y.inc) rows z found in
    record {
      child = record {
        row = z;
        lives = subst (λ i. row_of rows i ≡ Some z) own (find-lives (λ y. has_parent p y && is_behind after y.inc) rows next z orderly.increasing found);
        under = option_eq_some z.parent p (first_so (has_parent p z) (is_behind after z.inc) passes);
      };
      behind = subst (λ i. IsTrue (is_behind after i)) own (second_so (has_parent p z) (is_behind after z.inc) passes);
      least = λ i r here up later. subst (λ n. n ≤ i) own (find_least (λ y. has_parent p y && is_behind after y.inc) rows next i z r orderly.increasing found here (kid_passes rows p i after r here up later));
    }

-- The first child behind a place is the next child, in orderly rows.
next_kid : (rows : List Row) (next p c : ℕ) (after : Option ℕ) → IsOrderly rows next → Some c ≡ child_behind rows p after → IsNextKid rows p after c
next_kid rows next p c after orderly e = next_kid_by rows next p c after (find (λ z. has_parent p z && is_behind after z.inc) rows) orderly refl e

-- ---- how many children can be left

-- How many incarnations there are at most behind the child that was come to.
abbrev pub room : ℕ → Option ℕ → ℕ
room next None = next + 1
room next (Some b) = next - b

-- Behind a child that stands behind a place there is less room than behind the place.
room_by : (next c : ℕ) (after : Option ℕ) → c < next → IsTrue (is_behind after c) → room next (Some c) < room next after
room_by next c None high behind = omega arith
room_by next c (Some b) high behind = let low : b < c = ltb-true b c behind in omega arith

-- Behind the next child of a row there is less room for others than behind the one before it.
pub room_less : (rows : List Row) (next p c : ℕ) (after : Option ℕ) → IsOrderly rows next → Some c ≡ child_behind rows p after → room next (Some c) < room next after
room_less rows next p c after orderly e =
    let n : IsNextKid rows p after c = next_kid rows next p c after orderly e in
    room_by next c after (lives_below rows next c n.child.row orderly.increasing n.child.lives) n.behind

-- ---- from child to child

-- each child behind one is flagged, or still comes
abbrev pub AreFlaggedUpto : MarkKind → List Slot → ℕ → Option ℕ → Option ℕ → Type 0
AreFlaggedUpto k ss p after last = (i : ℕ) (r : Row) → row_of (rows_in ss) i ≡ Some r → r.parent ≡ Some p → IsTrue (is_behind after i)
    → (flag_of k ss i ≡ true) ⊎ IsTrue (is_behind last i)

-- At first each child behind one still comes.
pub none_yet : (k : MarkKind) (ss : List Slot) (p : ℕ) (after : Option ℕ) → AreFlaggedUpto k ss p after after
none_yet k ss p after i r here up behind = inr behind

-- Where a flagged row is no later than another, the other is flagged or later.
same_or_later : (k : MarkKind) (ss : List Slot) (c i : ℕ) → c ≤ i → flag_of k ss c ≡ true → (flag_of k ss i ≡ true) ⊎ IsTrue (nat_lt c i)
same_or_later k ss c i low flag = by (c == i) refl where
  by : (t : Bool) → (c == i) ≡ t → (flag_of k ss i ≡ true) ⊎ IsTrue (nat_lt c i)
  by true e = inl (subst (λ n. flag_of k ss n ≡ true) ((unsigned_Decides c i).0 e) flag)
  by false e = inr (lt-ltb c i (let apart : c ≡ i → ⊥ = λ same. true≢false (sym ((unsigned_Decides c i).1 same) ∙ e) in omega arith))

-- Where the next child is flagged too, each child is flagged or stands behind that one.
one_more_by : (k : MarkKind) (ss : List Slot) (p c i : ℕ) (last : Option ℕ) (r : Row) → IsNextKid (rows_in ss) p last c → flag_of k ss c ≡ true → row_of (rows_in ss) i ≡ Some r → r.parent ≡ Some p → (flag_of k ss i ≡ true) ⊎ IsTrue (is_behind last i) → (flag_of k ss i ≡ true) ⊎ IsTrue (nat_lt c i)
one_more_by k ss p c i last r n flag here up (inl done) = inl done
one_more_by k ss p c i last r n flag here up (inr behind) = same_or_later k ss c i (n.least i r here up behind) flag

-- Where the next child is flagged, each child behind the first one is flagged, or still comes.
pub one_more : (k : MarkKind) (ss : List Slot) (next p c : ℕ) (after last : Option ℕ) → IsOrderly (rows_in ss) next → Some c ≡ child_behind (rows_in ss) p last → flag_of k ss c ≡ true → AreFlaggedUpto k ss p after last → AreFlaggedUpto k ss p after (Some c)
one_more k ss next p c after last orderly e flag so_far i r here up behind =
    one_more_by k ss p c i last r (next_kid (rows_in ss) next p c last orderly e) flag here up (so_far i r here up behind)

-- Where no child is left behind the last one, each child is flagged.
all_seen_by : (k : MarkKind) (ss : List Slot) (p i : ℕ) (last : Option ℕ) (r : Row) → None ≡ child_behind (rows_in ss) p last → row_of (rows_in ss) i ≡ Some r → r.parent ≡ Some p → (flag_of k ss i ≡ true) ⊎ IsTrue (is_behind last i) → flag_of k ss i ≡ true
all_seen_by k ss p i last r e here up (inl done) = done
all_seen_by k ss p i last r e here up (inr behind) = absurd (no_kid (rows_in ss) p i last r e here up behind)

-- Where no further child comes, all children behind the first one are flagged.
pub all_seen : (k : MarkKind) (ss : List Slot) (p : ℕ) (after last : Option ℕ) → None ≡ child_behind (rows_in ss) p last → AreFlaggedUpto k ss p after last → AreAllFlagged k ss p after
all_seen k ss p after last e so_far i r here up behind = all_seen_by k ss p i last r e here up (so_far i r here up behind)

-- A next child that isn't flagged is an open one.
pub open_found : (k : MarkKind) (ss : List Slot) (next p c : ℕ) (last : Option ℕ) → IsOrderly (rows_in ss) next → Some c ≡ child_behind (rows_in ss) p last → flag_of k ss c ≡ false → IsOpenChild k ss p c
open_found k ss next p c last orderly e flag =
    let n : IsNextKid (rows_in ss) p last c = next_kid (rows_in ss) next p c last orderly e in
    record { row = n.child.row; lives = n.child.lives; under = n.child.under; unmarked = flag }
