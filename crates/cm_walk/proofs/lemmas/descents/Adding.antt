-- The children of a row, one after another, in a set.
use Rattle.std.proofs.Common.{◌≡◌, ℕ, ◌≤◌, List, Bool, true, false, cond, not, ◌&&◌, ◌||◌, ◌==◌, nat_lt, true≢false, Option, Some, None, find, refl, sym, ◌∙◌, ap, arith}
use Rattle.std.specs.Cmp.{unsigned_Decides}
use Rattle.std.specs.Option.{option_map_or}
use Rattle.std.specs.Ordering.{is_eq, nat_cmp}
use Rattle.std.proofs.Common.{Less, Equal, Greater}
use Rattle.std.proofs.lemmas.Bool.{ltb-true, le-ltb, ltb-false}
use Rattle.std.proofs.lemmas.Bool.{and_from, or_right}
use Rattle.cm_facts.proofs.Options.{option_map_none}
use Rattle.cm_world.specs.declared.row.Row.{Row}
use Rattle.cm_world.specs.Rows.{row_of, has_parent}
use Rattle.cm_world.specs.RowsInside.{is_behind}
use Rattle.cm_world.specs.Sound.{IsOrderly}
use Rattle.cm_world.proofs.lemmas.trees.Finding.{none_some, row_of-inc}
use Rattle.cm_walk.specs.Ahead.{is_child}
use Rattle.cm_walk.proofs.lemmas.descents.Behind.{IsNext, next_of, is_next, behind_more}
use Rattle.cm_trees.proofs.trees.Standing.{find_least, find_some}

-- ---- the order of numbers

-- Two numbers that are equal in their order are the same.
pub cmp_same : (j q : ℕ) → is_eq (nat_cmp j q) ≡ true → j ≡ q
cmp_same j q e = by (nat_lt j q) (j == q) refl e where
  by : (a b : Bool) → (j == q) ≡ b → is_eq (cond a Less (cond b Equal Greater)) ≡ true → j ≡ q
  by a true same e = (unsigned_Decides j q).0 same
  by true false same e = absurd (true≢false (sym e))
  by false false same e = absurd (true≢false (sym e))

-- Two numbers that differ aren't equal in their order.
pub cmp_apart : (j q : ℕ) → (j ≡ q → ⊥) → is_eq (nat_cmp j q) ≡ false
cmp_apart j q apart = by (is_eq (nat_cmp j q)) refl where
  by : (t : Bool) → is_eq (nat_cmp j q) ≡ t → t ≡ false
  by true e = absurd (apart (cmp_same j q e))
  by false e = refl

-- A number is equal to itself in its order.
pub cmp_self : (j : ℕ) → is_eq (nat_cmp j j) ≡ true
cmp_self j = rw (le-ltb j j (omega arith), (unsigned_Decides j j).1 refl) refl

-- ---- a loop from child to child

-- whether a row is a child that isn't behind one
abbrev pub is_seen : List Row → ℕ → Option ℕ → ℕ → Bool
is_seen rows p after q = is_child rows p q && not (is_behind after q)

-- A test is the same with one beside it that can't hold.
or_none : (a b : Bool) → a ≡ (a || (b && false))
or_none true b = refl
or_none false true = refl
or_none false false = refl

-- Before the first child none is seen, so what is there stays.
pub seen_first : (rows : List Row) (p q : ℕ) (there : Bool) → there ≡ (there || is_seen rows p None q)
seen_first rows p q there = or_none there (is_child rows p q)

-- Two tests that agree where a condition holds are denied alike where it does.
same_where : (c a b : Bool) → (c ≡ true → a ≡ b) → (c && not a) ≡ (c && not b)
same_where true a b same = ap not (same refl)
same_where false a b same = refl

-- A row that passes the test for a child is there, and has that parent.
pub child_row : (p : ℕ) (o : Option Row) → option_map_or (has_parent p) o false ≡ true → (s : Row) × (o ≡ Some s) × (has_parent p s ≡ true)
child_row p None e = absurd (true≢false (sym e))
child_row p (Some s) e = (s, refl, e)

-- a child that stands behind one is found behind it
child_found : (rows : List Row) (p q : ℕ) (after : Option ℕ) → is_child rows p q ≡ true → is_behind after q ≡ true → (s : Row) × (row_of rows q ≡ Some s) × ((has_parent p s && is_behind after s.inc) ≡ true)
child_found rows p q after child behind =
    let kid : (s : Row) × (row_of rows q ≡ Some s) × (has_parent p s ≡ true) = child_row p (row_of rows q) child in
    (kid.0, kid.1, and_from (has_parent p kid.0) (is_behind after kid.0.inc) kid.2 (ap (is_behind after) (row_of-inc rows q kid.0 kid.1) ∙ behind))

-- another child is behind the next one exactly where it is behind the one before
same_behind : (rows : List Row) (next p j q : ℕ) (after : Option ℕ) (t u : Bool) → IsOrderly rows next → IsNext (has_parent p) after rows j → (j ≡ q → ⊥) → is_child rows p q ≡ true → is_behind after q ≡ t → nat_lt j q ≡ u → t ≡ u
same_behind rows next p j q after true true orderly n apart child behind above = refl
same_behind rows next p j q after false false orderly n apart child behind above = refl
same_behind rows next p j q after false true orderly n apart child behind above =
    sym behind ∙ behind_more after j q n.later (ltb-true j q above)
same_behind rows next p j q after true false orderly n apart child behind above =
    let kid : (s : Row) × (row_of rows q ≡ Some s) × ((has_parent p s && is_behind after s.inc) ≡ true) = child_found rows p q after child behind in
    let least : n.row.inc ≤ q = find_least (λ r. has_parent p r && is_behind after r.inc) rows next q n.row kid.0 orderly.increasing n.found kid.1 kid.2 in
    let own : n.row.inc ≡ j = n.inc in
    let low : q ≤ j = ltb-false j q above in
    absurd (apart (omega arith))

-- The next child is seen once it is passed.
here_seen : (rows : List Row) (p j q : ℕ) (after : Option ℕ) → IsNext (has_parent p) after rows j → j ≡ q → is_seen rows p (Some j) q ≡ true
here_seen rows p j q after n same =
    and_from (is_child rows p q) (not (nat_lt j q))
    (ap (is_child rows p) (sym same) ∙ ap (λ o. option_map_or (has_parent p) o false) n.lives ∙ n.passes)
    (ap not (le-ltb j q (omega arith)))

-- Once the next child is added, a row is in the set where it was, or is seen up to that child.
more_by : (rows : List Row) (next p j q : ℕ) (after : Option ℕ) (t old now new : Bool) → IsOrderly rows next → IsNext (has_parent p) after rows j → is_eq (nat_cmp j q) ≡ t → now ≡ (old || is_seen rows p after q) → new ≡ cond t true now → new ≡ (old || is_seen rows p (Some j) q)
more_by rows next p j q after true old now new orderly n e so_far put =
    put ∙ sym (or_right old (is_seen rows p (Some j) q) (here_seen rows p j q after n (cmp_same j q e)))
more_by rows next p j q after false old now new orderly n e so_far put =
    let apart : j ≡ q → ⊥ = λ same. true≢false (sym (ap (λ i. is_eq (nat_cmp j i)) (sym same) ∙ cmp_self j) ∙ e) in
    put ∙ so_far
    ∙ ap (λ b. old || b) (same_where (is_child rows p q) (is_behind after q) (nat_lt j q) (λ child. same_behind rows next p j q after (is_behind after q) (nat_lt j q) orderly n apart child refl refl))

-- With the next child put in, what is seen is all up to it.
pub seen_more : (rows : List Row) (next p j q : ℕ) (after : Option ℕ) (old now new : Bool) → IsOrderly rows next → next_of (has_parent p) after rows ≡ Some j → now ≡ (old || is_seen rows p after q) → new ≡ cond (is_eq (nat_cmp j q)) true now → new ≡ (old || is_seen rows p (Some j) q)
seen_more rows next p j q after old now new orderly e so_far put =
    more_by rows next p j q after (is_eq (nat_cmp j q)) old now new orderly (is_next (has_parent p) after rows next j orderly e) refl so_far put

-- A condition under which a test doesn't hold is the same with the test denied.
all_where : (c b : Bool) → (c ≡ true → b ≡ false) → (c && not b) ≡ c
all_where true b none = ap not (none refl)
all_where false b none = refl

-- Where no next child is found behind a place, no child stands behind it.
none_behind : (rows : List Row) (p q : ℕ) (after : Option ℕ) (t : Bool) → next_of (has_parent p) after rows ≡ None → is_child rows p q ≡ true → is_behind after q ≡ t → t ≡ false
none_behind rows p q after false none child behind = refl
none_behind rows p q after true none child behind =
    let kid : (s : Row) × (row_of rows q ≡ Some s) × ((has_parent p s && is_behind after s.inc) ≡ true) = child_found rows p q after child behind in
    let found : (r : Row) × (find (λ s. has_parent p s && is_behind after s.inc) rows ≡ Some r) = find_some (λ s. has_parent p s && is_behind after s.inc) rows q kid.0 kid.1 kid.2 in
    absurd (none_some found.0 (sym (option_map_none (λ (r : Row). r.inc) (find (λ s. has_parent p s && is_behind after s.inc) rows) none) ∙ found.1))

-- Where no child is left, all children are seen.
pub seen_all : (rows : List Row) (p q : ℕ) (after : Option ℕ) (old now : Bool) → next_of (has_parent p) after rows ≡ None → now ≡ (old || is_seen rows p after q) → now ≡ (old || is_child rows p q)
seen_all rows p q after old now none so_far =
    so_far ∙ ap (λ b. old || b) (all_where (is_child rows p q) (is_behind after q) (λ child. none_behind rows p q after (is_behind after q) none child refl))
