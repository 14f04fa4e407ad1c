-- From a row to all below it, by increasing incarnations: those that are found so far, and a set of those ahead.
use Rattle.std.proofs.Common.{◌≡◌, ℕ, ◌+◌, ◌-◌, ◌<◌, ◌≤◌, List, [], ◌∷◌, ◌++◌, Bool, true, false, cond, ◌&&◌, ◌||◌, ◌==◌, nat_eq, nat_lt, true≢false, Option, Some, None, is_some, IsTrue, find, map, length, option_map, refl, sym, ◌∙◌, ap, subst, inl, inr, ◌⊎◌, arith, length-append, ne_of_lt}
use Rattle.std.specs.BTreeSet.{BTreeSet}
use Rattle.std.specs.Cmp.{unsigned_Decides, first_so, second_so}
use Rattle.std.specs.List.{filter_map, list_any}
use Rattle.std.specs.Option.{option_map_or, option_eq}
use Rattle.std.specs.Ordering.{is_eq, is_gt, nat_cmp}
use Rattle.std.proofs.lemmas.Bool.{lt-ltb, ltb-true, ltb-false, or_cases}
use Rattle.std.proofs.lemmas.Map.Keys.{le_from_not_gt}
use Rattle.std.proofs.lemmas.Bool.{or_left, or_right, and_from}
use Rattle.cm_world.specs.declared.row.Row.{Row}
use Rattle.cm_world.specs.Rows.{row_of, is_live, has_parent, is_below, subtree}
use Rattle.cm_world.specs.RowsInside.{is_behind}
use Rattle.cm_world.specs.Sound.{IsOrderly, IsParent}
use Rattle.cm_world.proofs.lemmas.trees.Finding.{row_of-inc, find-passes}
use Rattle.cm_walk.specs.Ahead.{is_in_set, is_child}
use Rattle.cm_walk.proofs.lemmas.descents.Behind.{behind, IsNext, next_of, is_next, behind_more, taken_first, taken_more, taken_all, made_of}
use Rattle.cm_trees.proofs.trees.Standing.{below_lives, below_self, below_parent, below_cases, find_least, find_some}
use Rattle.cm_walk.proofs.lemmas.descents.Adding.{cmp_self, cmp_apart, child_row}

-- ---- the set of what is ahead

-- a row below top and behind one
pub record IsAfter (rows : List Row) (top : ℕ) (after : Option ℕ) (i : ℕ) : Type 0 where
  pub below : IsTrue (is_below rows top i)
  pub later : IsTrue (is_behind after i)

-- a row whose parent is one
pub record IsUnder (rows : List Row) (top : ℕ) (after : Option ℕ) (i : ℕ) : Type 0 where
  pub row : Row
  pub lives : row_of rows i ≡ Some row
  pub up : ℕ
  pub parent : row.parent ≡ Some up
  pub above : IsAfter rows top after up

-- the set has such rows alone, and each that it lacks has a parent that is one
pub record IsAhead (rows : List Row) (top : ℕ) (after : Option ℕ) (ahead : BTreeSet ℕ) : Type 0 where
  pub within : (i : ℕ) → IsTrue (is_in_set ahead i) → IsAfter rows top after i
  pub reach : (i : ℕ) → IsAfter rows top after i → IsTrue (is_in_set ahead i) ⊎ IsUnder rows top after i

-- whether a row is below top
abbrev pub is_in : List Row → ℕ → Row → Bool
is_in rows top r = is_below rows top r.inc

-- A row below the top and behind a place passes the test for both.
tested : (rows : List Row) (top i : ℕ) (after : Option ℕ) (r : Row) → row_of rows i ≡ Some r → IsAfter rows top after i → IsTrue (is_in rows top r && is_behind after r.inc)
tested rows top i after r lives it =
    subst (λ j. IsTrue (is_below rows top j && is_behind after j)) (sym (row_of-inc rows i r lives)) (and_from (is_below rows top i) (is_behind after i) it.below it.later)

-- ---- at first

-- The top itself, where it lives, is a row below the top, in orderly rows.
only_top : (rows : List Row) (next top i : ℕ) → IsOrderly rows next → IsTrue (is_live rows top && i == top) → IsAfter rows top None i
only_top rows next top i orderly here =
    let same : i ≡ top = (unsigned_Decides i top).0 (second_so (is_live rows top) (i == top) here) in
    live_top (row_of rows top) refl (first_so (is_live rows top) (i == top) here) same
  where
    live_top : (o : Option Row) → row_of rows top ≡ o → IsTrue (is_some o) → i ≡ top → IsAfter rows top None i
    live_top None e live same = absurd (true≢false (sym live))
    live_top (Some r) e live same = record {
      below = subst (λ j. IsTrue (is_below rows top j)) (sym same) (below_self rows next top r orderly e);
      later = refl;
    }

-- At first the set of what is ahead has the top alone, if that lives.
pub ahead_first : (rows : List Row) (next top : ℕ) (ahead : BTreeSet ℕ) → IsOrderly rows next → ((q : ℕ) → is_in_set ahead q ≡ (is_live rows top && q == top)) → IsAhead rows top None ahead
ahead_first rows next top ahead orderly is = record {
  within = λ i there. only_top rows next top i orderly (sym (is i) ∙ there);
  reach = λ i it.
      let lives : (r : Row) × (row_of rows i ≡ Some r) = below_lives rows top i it.below in
      elim (below_cases rows next top i lives.0 orderly lives.1 it.below) [
        | inl same ↦ inl (is i ∙ and_from (is_live rows top) (i == top) (ap (is_live rows) (sym same) ∙ ap is_some lives.1) ((unsigned_Decides i top).1 same))
        | inr up ↦ inr (record { row = lives.0; lives = lives.1; up = up.0; parent = up.1; above = record { below = up.2; later = refl } })
      ];
}

-- ---- the next one

-- the first row behind one is in the set, since its parent has a lower incarnation
first_there : (rows : List Row) (next top : ℕ) (after : Option ℕ) (ahead : BTreeSet ℕ) (r : Row) → IsOrderly rows next → IsAhead rows top after ahead → find (λ s. is_in rows top s && is_behind after s.inc) rows ≡ Some r → IsTrue (is_in_set ahead r.inc)
first_there rows next top after ahead r orderly frontier found =
    let test : Row → Bool = λ s. is_in rows top s && is_behind after s.inc in
    let passes : IsTrue (test r) = find-passes test rows r found in
    elim (frontier.reach r.inc (record { below = first_so (is_in rows top r) (is_behind after r.inc) passes; later = second_so (is_in rows top r) (is_behind after r.inc) passes })) [
      | inl there ↦ there
      | inr u ↦
          let parent : IsParent rows u.up r.inc = (orderly.parents r.inc u.up u.row u.lives u.parent).0 in
          let lower : u.up < r.inc = parent.lower in
          let least : r.inc ≤ u.up = find_least test rows next u.up r parent.row orderly.increasing found parent.lives (tested rows top u.up after parent.row parent.lives u.above) in
          absurd (omega arith)
    ]

-- what comes first in the set is the next row below top
pub next_popped : (rows : List Row) (next top j : ℕ) (after : Option ℕ) (ahead : BTreeSet ℕ) → IsOrderly rows next → IsAhead rows top after ahead → IsTrue (is_in_set ahead j) → ((q : ℕ) → IsTrue (is_in_set ahead q) → is_gt (nat_cmp j q) ≡ false) → next_of (is_in rows top) after rows ≡ Some j
next_popped rows next top j after ahead orderly frontier member first =
    let test : Row → Bool = λ s. is_in rows top s && is_behind after s.inc in
    let it : IsAfter rows top after j = frontier.within j member in
    let lives : (s : Row) × (row_of rows j ≡ Some s) = below_lives rows top j it.below in
    let passes : IsTrue (test lives.0) = tested rows top j after lives.0 lives.1 it in
    let found : (r : Row) × (find test rows ≡ Some r) = find_some test rows j lives.0 lives.1 passes in
    let low : found.0.inc ≤ j = find_least test rows next j found.0 lives.0 orderly.increasing found.1 lives.1 passes in
    let high : j ≤ found.0.inc = le_from_not_gt j found.0.inc (first found.0.inc (first_there rows next top after ahead found.0 orderly frontier found.1)) in
    let same : found.0.inc ≡ j = omega arith in
    ap (option_map (λ r. r.inc)) found.1 ∙ ap Some same

-- where the set is empty, no row is left
pub none_ahead : (rows : List Row) (next top : ℕ) (after : Option ℕ) (ahead : BTreeSet ℕ) → IsOrderly rows next → IsAhead rows top after ahead → ((q : ℕ) → is_in_set ahead q ≡ false) → next_of (is_in rows top) after rows ≡ None
none_ahead rows next top after ahead orderly frontier none = by (find (λ s. is_in rows top s && is_behind after s.inc) rows) refl where
  by : (o : Option Row) → find (λ s. is_in rows top s && is_behind after s.inc) rows ≡ o → option_map (λ r. r.inc) o ≡ None
  by None found = refl
  by (Some r) found =
      absurd (true≢false (sym (first_there rows next top after ahead r orderly frontier found) ∙ none r.inc))

-- ---- the children of the next one

-- Of two numbers that aren't the same, the one that is no higher is lower.
lower : (j q : ℕ) → j ≤ q → (j ≡ q → ⊥) → j < q
lower j q low apart = by (nat_lt j q) refl where
  by : (t : Bool) → nat_lt j q ≡ t → j < q
  by true e = ltb-true j q e
  by false e = let high : q ≤ j = ltb-false j q e in absurd (apart (omega arith))

-- what is still in the set without one was there, and is another
stays : (j q : ℕ) (t there : Bool) → is_eq (nat_cmp j q) ≡ t → IsTrue (cond t false there) → IsTrue there × (j ≡ q → ⊥)
stays j q true there e h = absurd (true≢false (sym h))
stays j q false there e h = (h, λ same. true≢false (sym (ap (λ i. is_eq (nat_cmp j i)) (sym same) ∙ cmp_self j) ∙ e))

-- A parent that compares as equal to a row is that row.
parent_of : (j : ℕ) (o : Option ℕ) → option_eq nat_eq o (Some j) ≡ true → o ≡ Some j
parent_of j None e = absurd (true≢false (sym e))
parent_of j (Some p) e = ap Some ((unsigned_Decides p j).0 e)

-- A child of a row below the top is below the top and behind that row.
child_after : (rows : List Row) (next top j q : ℕ) → IsOrderly rows next → IsTrue (is_below rows top j) → IsTrue (is_child rows j q) → IsAfter rows top (Some j) q
child_after rows next top j q orderly below child =
    let kid : (s : Row) × (row_of rows q ≡ Some s) × (has_parent j s ≡ true) = child_row j (row_of rows q) child in
    let parent : kid.0.parent ≡ Some j = parent_of j kid.0.parent kid.2 in
    let above : IsParent rows j q = (orderly.parents q j kid.0 kid.1 parent).0 in record {
      below = below_parent rows next top q j kid.0 orderly kid.1 parent below;
      later = lt-ltb j q above.lower;
    }

-- Where a row is the first of those ahead, each other one ahead stands behind it.
rest_after : (rows : List Row) (top j q : ℕ) (after : Option ℕ) (ahead : BTreeSet ℕ) → IsAhead rows top after ahead → ((q : ℕ) → IsTrue (is_in_set ahead q) → is_gt (nat_cmp j q) ≡ false) → IsTrue (is_in_set ahead q) → (j ≡ q → ⊥) → IsAfter rows top (Some j) q
rest_after rows top j q after ahead frontier first there apart =
    let low : j ≤ q = le_from_not_gt j q (first q there) in record {
      below = (frontier.within q there).below;
      later = lt-ltb j q (lower j q low apart);
    }

-- A parent that is a row compares as equal to it.
has_this : (j : ℕ) (o : Option ℕ) → o ≡ Some j → option_eq nat_eq o (Some j) ≡ true
has_this j o e = ap (λ z. option_eq nat_eq z (Some j)) e ∙ (unsigned_Decides j j).1 refl

-- a row whose parent is behind the one before is a child of this one, or its parent is behind this one
under_next : (rows : List Row) (top j i : ℕ) (t : Bool) (after : Option ℕ) (u : IsUnder rows top after i) → j ≤ u.up → nat_lt j u.up ≡ t → IsTrue (is_child rows j i) ⊎ IsUnder rows top (Some j) i
under_next rows top j i true after u low e = inr (record {
  row = u.row;
  lives = u.lives;
  up = u.up;
  parent = u.parent;
  above = record { below = u.above.below; later = e };
})
under_next rows top j i false after u low e =
    let high : u.up ≤ j = ltb-false j u.up e in
    let same : u.up ≡ j = omega arith in
    inl (ap (λ o. option_map_or (has_parent j) o false) u.lives ∙ has_this j u.row.parent (u.parent ∙ ap Some same))

-- with the one taken out and its children put in, the set is what is ahead of it
pub ahead_more : (rows : List Row) (next top j : ℕ) (after : Option ℕ) (ahead rest more : BTreeSet ℕ) → IsOrderly rows next → IsAhead rows top after ahead → IsTrue (is_in_set ahead j) → ((q : ℕ) → IsTrue (is_in_set ahead q) → is_gt (nat_cmp j q) ≡ false) → ((q : ℕ) → is_in_set rest q ≡ cond (is_eq (nat_cmp j q)) false (is_in_set ahead q)) → ((q : ℕ) → is_in_set more q ≡ (is_in_set rest q || is_child rows j q)) → IsAhead rows top (Some j) more
ahead_more rows next top j after ahead rest more orderly frontier member first popped put = record { within = within; reach = reach } where
  least : (i : ℕ) (u : IsUnder rows top after i) → j ≤ u.up
  least i u =
      let n : IsNext (is_in rows top) after rows j = is_next (is_in rows top) after rows next j orderly (next_popped rows next top j after ahead orderly frontier member first) in
      let parent : IsParent rows u.up i = (orderly.parents i u.up u.row u.lives u.parent).0 in
      let low : n.row.inc ≤ u.up = find_least (λ s. is_in rows top s && is_behind after s.inc) rows next u.up n.row parent.row orderly.increasing n.found parent.lives (tested rows top u.up after parent.row parent.lives u.above) in
      let own : n.row.inc ≡ j = n.inc in
      omega arith

  within : (q : ℕ) → IsTrue (is_in_set more q) → IsAfter rows top (Some j) q
  within q there = elim (or_cases (is_in_set rest q) (is_child rows j q) (sym (put q) ∙ there)) [
    | inl here ↦
        let was : IsTrue (is_in_set ahead q) × (j ≡ q → ⊥) = stays j q (is_eq (nat_cmp j q)) (is_in_set ahead q) refl (sym (popped q) ∙ here) in
        rest_after rows top j q after ahead frontier first was.0 was.1
    | inr child ↦ child_after rows next top j q orderly (frontier.within j member).below child
  ]

  reach : (i : ℕ) → IsAfter rows top (Some j) i → IsTrue (is_in_set more i) ⊎ IsUnder rows top (Some j) i
  reach i it =
      let up : j < i = ltb-true j i it.later in
      elim (frontier.reach i (record { below = it.below; later = behind_more after j i (frontier.within j member).later up })) [
        | inl there ↦ inl (put i ∙ or_left (is_in_set rest i) (is_child rows j i) (popped i ∙ ap (λ b. cond b false (is_in_set ahead i)) (cmp_apart j i (λ same. ne_of_lt up same)) ∙ there))
        | inr u ↦ elim (under_next rows top j i (nat_lt j u.up) after u (least i u) refl) [
          | inl child ↦ inl (put i ∙ or_right (is_in_set rest i) (is_child rows j i) child)
          | inr on ↦ inr on
        ]
      ]

-- ---- the whole way down

-- a row's incarnation, if it is below top
abbrev pub inc_in : List Row → ℕ → Row → Option ℕ
inc_in rows top r = cond (is_in rows top r) (Some r.inc) None

-- what is found so far, and the rows below top that are left, are all; the set is what is ahead of them
pub record IsDescending (rows : List Row) (next top : ℕ) (found : List ℕ) (ahead : BTreeSet ℕ) : Type 0 where
  pub orderly : IsOrderly rows next
  pub last : Option ℕ
  pub frontier : IsAhead rows top last ahead
  pub split : found ++ filter_map (inc_in rows top) (behind last rows) ≡ filter_map (inc_in rows top) rows

-- At first no row is found, and the top alone is ahead, if it lives.
pub descends_first : (rows : List Row) (next top : ℕ) (found : List ℕ) (ahead : BTreeSet ℕ) → IsOrderly rows next → found ≡ [] → ((q : ℕ) → is_in_set ahead q ≡ (is_live rows top && q == top)) → IsDescending rows next top found ahead
descends_first rows next top found ahead orderly none alone = record {
  orderly = orderly;
  last = None;
  frontier = ahead_first rows next top ahead orderly alone;
  split = ap (λ l. l ++ filter_map (inc_in rows top) (behind None rows)) none ∙ taken_first (inc_in rows top) rows;
}

-- A row that isn't below the top gives no incarnation.
not_in : (rows : List Row) (top : ℕ) (r : Row) → is_in rows top r ≡ false → inc_in rows top r ≡ None
not_in rows top r out = ap (λ b. cond {A = Option ℕ} b (Some r.inc) None) out

-- A row that is below the top gives its own incarnation.
this_in : (rows : List Row) (top j : ℕ) (r : Row) → row_of rows j ≡ Some r → is_in rows top r ≡ true → Some j ≡ inc_in rows top r
this_in rows top j r lives within =
    ap Some (sym (row_of-inc rows j r lives)) ∙ sym (ap (λ b. cond {A = Option ℕ} b (Some r.inc) None) within)

-- The least row ahead is found next, and its children are ahead in its place.
pub descends_more : (rows : List Row) (next top j : ℕ) (found pushed : List ℕ) (ahead rest more : BTreeSet ℕ) → IsDescending rows next top found ahead → IsTrue (is_in_set ahead j) → ((q : ℕ) → IsTrue (is_in_set ahead q) → is_gt (nat_cmp j q) ≡ false) → ((q : ℕ) → is_in_set rest q ≡ cond (is_eq (nat_cmp j q)) false (is_in_set ahead q)) → ((q : ℕ) → is_in_set more q ≡ (is_in_set rest q || is_child rows j q)) → pushed ≡ found ++ j ∷ [] → IsDescending rows next top pushed more
descends_more rows next top j found pushed ahead rest more so_far member first popped put push = record {
  orderly = so_far.orderly;
  last = Some j;
  frontier = ahead_more rows next top j so_far.last ahead rest more so_far.orderly so_far.frontier member first popped put;
  split = taken_more (is_in rows top) (inc_in rows top) rows next j so_far.last found pushed (Some j) so_far.orderly (not_in rows top) (next_popped rows next top j so_far.last ahead so_far.orderly so_far.frontier member first) (this_in rows top j) push so_far.split;
}

-- how many are left
abbrev pub to_find : List Row → ℕ → List ℕ → ℕ
to_find rows top found = length (filter_map (inc_in rows top) rows) - length found

-- Where one row more is found, fewer are left to be found.
pub descends_less : (rows : List Row) (next top j : ℕ) (found pushed : List ℕ) (more : BTreeSet ℕ) → IsDescending rows next top pushed more → pushed ≡ found ++ j ∷ [] → to_find rows top pushed < to_find rows top found
descends_less rows next top j found pushed more now push =
    let all : length (pushed ++ filter_map (inc_in rows top) (behind now.last rows)) ≡ length (filter_map (inc_in rows top) rows) = ap length now.split in
    let parts : length (pushed ++ filter_map (inc_in rows top) (behind now.last rows)) ≡ length pushed + length (filter_map (inc_in rows top) (behind now.last rows)) = length-append pushed (filter_map (inc_in rows top) (behind now.last rows)) in
    let one : length pushed ≡ length (found ++ j ∷ []) = ap length push in
    let more : length (found ++ j ∷ []) ≡ length found + 1 = length-append found (j ∷ []) in
    omega arith

-- A set that has no keys has no number.
no_keys : (ks : List ℕ) → (0 < length ks → ⊥) → (q : ℕ) → list_any (λ k. is_eq (nat_cmp q k)) ks ≡ false
no_keys [] none q = refl
no_keys (k ∷ ks) none q = absurd (none (omega arith))

-- where the set is empty, all are found
pub descends_all : (rows : List Row) (next top : ℕ) (found : List ℕ) (ahead : BTreeSet ℕ) → IsDescending rows next top found ahead → (0 < length ahead.keys → false ≡ true) → found ≡ map (λ r. r.inc) (subtree rows top)
descends_all rows next top found ahead so_far some_left =
    taken_all (is_in rows top) (inc_in rows top) rows so_far.last found (not_in rows top)
    (none_ahead rows next top so_far.last ahead so_far.orderly so_far.frontier (no_keys ahead.keys (λ some. true≢false (sym (some_left some)))))
    so_far.split
    ∙ made_of (is_in rows top) (λ r. r.inc) rows
