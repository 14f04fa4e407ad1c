-- The children of a row in its collections, one after another.
use Rattle.std.proofs.Common.{◌≡◌, ℕ, ◌+◌, ◌-◌, ◌<◌, List, [], ◌∷◌, ◌++◌, Bool, true, false, cond, not, ◌&&◌, ◌==◌, true≢false, Option, Some, None, IsSome, is_some, find, option_map, option_and_then, option_to_list, refl, sym, ◌∙◌, ap, subst, arith, IsTrue, append_assoc, append-nil}
use Rattle.std.specs.List.{filter_map, cons_option}
use Rattle.std.proofs.lemmas.Bool.{lt-ltb, le-ltb, ltb-true, eq-eqb, ne_eqb}
use Rattle.std.specs.Cmp.{first_so, second_so}
use Rattle.cm_names.specs.declared.child.ChildName.{ChildName}
use Rattle.cm_facts.proofs.Options.{cons_option_append, cond_is_some}
use Rattle.cm_decl.specs.declared.node.DynChild.{DynChild}
use Rattle.cm_world.specs.declared.row.Row.{Row}
use Rattle.cm_world.specs.Rows.{row_of, has_parent}
use Rattle.cm_world.specs.RowsInside.{is_behind, child_behind}
use Rattle.cm_world.specs.Sound.{IncarnationsIncrease}
use Rattle.cm_world.specs.Create.{dynamic_by, dynamic_of, dynamic_children}
use Rattle.cm_world.proofs.lemmas.trees.Finding.{some_same, none_some, find-passes}
use Rattle.cm_walk.proofs.lemmas.descents.Behind.{behind_more}
use Rattle.cm_dynamic.specs.Siblings.{sibling_by, sibling_of, siblings_behind}
use Rattle.cm_trees.proofs.rows.Finding.{first_lives}

-- a child of p whose incarnation is above the given one
follows : ℕ → Option ℕ → Row → Bool
follows p after r = has_parent p r && is_behind after r.inc

-- as a child of p in a collection, if its incarnation is above the given one
taken : ℕ → Option ℕ → Row → Option DynChild
taken p after r = cond (is_behind after r.inc) (dynamic_of p r) None

-- ---- a row that is no such child

-- What isn't both a child and behind the place isn't taken.
not_by : (t u : Bool) (x y : Bool) (d : DynChild) → (t && u) ≡ false → cond u (cond ((t && x) && y) (Some d) None) None ≡ None
not_by false false x y d e = refl
not_by false true x y d e = refl
not_by true false x y d e = refl
not_by true true x y d e = absurd (true≢false e)

-- Nothing, under a condition, is nothing.
none_by : (u : Bool) → ◌≡◌ {A = Option DynChild} (cond u None None) None
none_by true = refl
none_by false = refl

-- A row that doesn't follow isn't taken, by its name.
missed_by : (p : ℕ) (after : Option ℕ) (r : Row) (o : Option ChildName) → follows p after r ≡ false → cond (is_behind after r.inc) (option_and_then (dynamic_by p r) o) None ≡ None
unfolding follows
missed_by p after r None e = none_by (is_behind after r.inc)
missed_by p after r (Some c) e =
    not_by (has_parent p r) (is_behind after r.inc) (is_some c.coll) (not r.doomed) (record { name = c; gives = r.gives }) e

-- A row that doesn't follow isn't taken.
missed : (p : ℕ) (after : Option ℕ) (r : Row) → follows p after r ≡ false → taken p after r ≡ None
unfolding taken
missed p after r e = missed_by p after r r.name e

-- ---- a row that is one

-- Of a row that is a child, the rest alone tells whether it is taken.
child_by : (t x y : Bool) (d : DynChild) → t ≡ true → cond ((t && x) && y) (Some d) None ≡ cond (x && y) (Some d) None
child_by t x y d e = rw e refl

-- A child of the row is in one of its collections exactly where it is in any collection.
own_by : (p : ℕ) (r : Row) (o : Option ChildName) → has_parent p r ≡ true → option_and_then (dynamic_by p r) o ≡ option_and_then (sibling_by r) o
own_by p r None e = refl
own_by p r (Some c) e = child_by (has_parent p r) (is_some c.coll) (not r.doomed) (record { name = c; gives = r.gives }) e

-- a child of p is what it is as a child of its parent
own : (p : ℕ) (r : Row) → has_parent p r ≡ true → dynamic_of p r ≡ sibling_of r
own p r e = own_by p r r.name e

-- ---- rows that all follow

-- Each of these rows stands behind the place.
AllBehind : Option ℕ → List Row → Type 0
AllBehind after [] = Unit {0}
AllBehind after (r ∷ rs) = (is_behind after r.inc ≡ true) × AllBehind after rs

-- What is taken of rows that all stand behind the place are all children in collections.
all_behind : (p : ℕ) (after : Option ℕ) (rows : List Row) → AllBehind after rows → filter_map (taken p after) rows ≡ dynamic_children rows p
unfolding AllBehind taken
all_behind p after [] all = refl
all_behind p after (r ∷ rs) all =
    ap (λ b. cons_option (cond b (dynamic_of p r) None) (filter_map (taken p after) rs)) all.0
    ∙ ap (cons_option (dynamic_of p r)) (all_behind p after rs all.1)

-- the rows behind one have higher incarnations
above_all : (a next : ℕ) (rows : List Row) → ((s : ℕ) → IsSome (row_of rows s) → a < s) → IncarnationsIncrease next rows → AllBehind (Some a) rows
unfolding AllBehind
above_all a next [] above increasing = tt
above_all a next (r ∷ rs) above increasing = (
  lt-ltb a r.inc (above r.inc (first_lives r rs)),
  above_all a next rs (λ s lives. above s (cond_is_some (r.inc == s) r (row_of rs s) lives)) increasing.1,
)

-- Rows that stand behind one that stands behind a place stand behind that place.
behind_all : (after : Option ℕ) (a : ℕ) (rows : List Row) → is_behind after a ≡ true → AllBehind (Some a) rows → AllBehind after rows
unfolding AllBehind
behind_all after a [] h all = tt
behind_all after a (r ∷ rs) h all = (behind_more after a r.inc h (ltb-true a r.inc all.0), behind_all after a rs h all.1)

-- ---- the first row that follows

-- A row that is the first to pass: it lives, and the rows that pass are its own and those behind it.
record IsFirst (rows : List Row) (p : ℕ) (after : Option ℕ) (s : Row) : Type 0 where
  lives : row_of rows s.inc ≡ Some s
  split : filter_map (taken p after) rows ≡ cons_option (sibling_of s) (filter_map (taken p (Some s.inc)) rows)

-- A row in front that follows is the first that does.
first_here : (next p : ℕ) (after : Option ℕ) (r : Row) (rs : List Row) → IncarnationsIncrease next (r ∷ rs) → follows p after r ≡ true → IsFirst (r ∷ rs) p after r
unfolding follows taken
first_here next p after r rs increasing passes =
    let parent : has_parent p r ≡ true = first_so (has_parent p r) (is_behind after r.inc) passes in
    let behind : is_behind after r.inc ≡ true = second_so (has_parent p r) (is_behind after r.inc) passes in
    let higher : AllBehind (Some r.inc) rs = above_all r.inc next rs increasing.0.1 increasing.1 in
    record {
      lives = ap (λ b. cond b (Some r) (row_of rs r.inc)) (eq-eqb r.inc r.inc refl);
      split =
          ap (λ b. cons_option (cond b (dynamic_of p r) None) (filter_map (taken p after) rs)) behind
          ∙ ap (λ o. cons_option o (filter_map (taken p after) rs)) (own p r parent)
          ∙ ap (cons_option (sibling_of r)) (all_behind p after rs (behind_all after r.inc rs behind higher))
          ∙ sym (ap (cons_option (sibling_of r)) (
          ap (λ b. cons_option (cond b (dynamic_of p r) None) (filter_map (taken p (Some r.inc)) rs)) (le-ltb r.inc r.inc (omega arith))
          ∙ all_behind p (Some r.inc) rs higher
          ));
    }

-- The first row that follows is so with a row in front that doesn't.
first_later : (next p : ℕ) (after : Option ℕ) (r s : Row) (rs : List Row) → IncarnationsIncrease next (r ∷ rs) → follows p after r ≡ false → IsFirst rs p after s → IsFirst (r ∷ rs) p after s
unfolding taken
first_later next p after r s rs increasing misses first =
    let less : r.inc < s.inc = increasing.0.1 s.inc (ap is_some first.lives) in
    record {
      lives = ap (λ b. cond b (Some r) (row_of rs s.inc)) (ne_eqb r.inc s.inc (λ same. absurd (omega arith))) ∙ first.lives;
      split =
          ap (λ o. cons_option o (filter_map (taken p after) rs)) (missed p after r misses)
          ∙ first.split
          ∙ sym (ap (cons_option (sibling_of s)) (ap (λ b. cons_option (cond b (dynamic_of p r) None) (filter_map (taken p (Some s.inc)) rs)) (le-ltb s.inc r.inc (omega arith))));
    }

-- The row that is found to follow is the first that does, row by row.
first_by : (t : Bool) (next p : ℕ) (after : Option ℕ) (r s : Row) (rs : List Row) → follows p after r ≡ t → IncarnationsIncrease next (r ∷ rs) → (find (follows p after) rs ≡ Some s → IsFirst rs p after s) → cond t (Some r) (find (follows p after) rs) ≡ Some s → IsFirst (r ∷ rs) p after s
first_by true next p after r s rs passes increasing more e = subst (IsFirst (r ∷ rs) p after) (some_same r s e) (first_here next p after r rs increasing passes)
first_by false next p after r s rs misses increasing more e = first_later next p after r s rs increasing misses (more e)

-- The row that is found to follow is the first that does.
first_found : (rows : List Row) (next p : ℕ) (after : Option ℕ) (s : Row) → IncarnationsIncrease next rows → find (follows p after) rows ≡ Some s → IsFirst rows p after s
first_found [] next p after s increasing e = absurd (none_some s e)
first_found (r ∷ rs) next p after s increasing e = first_by (follows p after r) next p after r s rs refl increasing (first_found rs next p after s increasing.1) e

-- Where an incarnation is found, a row with that incarnation is.
found_by : (o : Option Row) (i : ℕ) → option_map (λ r. r.inc) o ≡ Some i → (s : Row) × (o ≡ Some s) × (s.inc ≡ i)
found_by None i e = absurd (none_some i e)
found_by (Some s) i e = (s, refl, some_same s.inc i e)

-- the children behind an incarnation are the next one, if it is in a collection and isn't doomed, and those behind it
pub next_behind : (rows : List Row) (next p i : ℕ) (after : Option ℕ) → IncarnationsIncrease next rows → child_behind rows p after ≡ Some i → siblings_behind rows p after ≡ option_to_list (option_and_then sibling_of (row_of rows i)) ++ siblings_behind rows p (Some i)
unfolding follows taken
next_behind rows next p i after increasing e =
    let found : (s : Row) × (find (follows p after) rows ≡ Some s) × (s.inc ≡ i) = found_by (find (follows p after) rows) i e in
    let first : IsFirst rows p after found.0 = first_found rows next p after found.0 increasing found.1 in
    first.split
    ∙ cons_option_append (sibling_of found.0) (siblings_behind rows p (Some found.0.inc))
    ∙ sym (ap (λ o. option_to_list (option_and_then sibling_of o) ++ siblings_behind rows p (Some found.0.inc)) first.lives)
    ∙ ap (λ j. option_to_list (option_and_then sibling_of (row_of rows j)) ++ siblings_behind rows p (Some j)) found.2

-- ---- no row follows

-- Where no row is found to follow, nothing is taken, row by row.
none_at : (t : Bool) (p : ℕ) (after : Option ℕ) (r : Row) (rs : List Row) → follows p after r ≡ t → (option_map (λ s. s.inc) (find (follows p after) rs) ≡ None → filter_map (taken p after) rs ≡ []) → option_map (λ s. s.inc) (cond t (Some r) (find (follows p after) rs)) ≡ None → filter_map (taken p after) (r ∷ rs) ≡ []
none_at true p after r rs passes more e = absurd (none_some r.inc (sym e))
none_at false p after r rs misses more e = ap (λ o. cons_option o (filter_map (taken p after) rs)) (missed p after r misses) ∙ more e

-- Where no row is found to follow, nothing is taken.
none_left : (rows : List Row) (p : ℕ) (after : Option ℕ) → option_map (λ s. s.inc) (find (follows p after) rows) ≡ None → filter_map (taken p after) rows ≡ []
none_left [] p after e = refl
none_left (r ∷ rs) p after e = none_at (follows p after r) p after r rs refl (none_left rs p after) e

-- where no child is behind an incarnation, none in a collection is
pub none_behind : (rows : List Row) (p : ℕ) (after : Option ℕ) → child_behind rows p after ≡ None → siblings_behind rows p after ≡ []
unfolding follows taken
none_behind rows p after e = none_left rows p after e

-- ---- the loop over the children

-- With the next child's sibling at the end, what was seen and what is left make the same list.
pub one_more : (rows : List Row) (next p i : ℕ) (after : Option ℕ) (seen more all : List DynChild) (found : Option DynChild) → IncarnationsIncrease next rows → child_behind rows p after ≡ Some i → found ≡ option_and_then sibling_of (row_of rows i) → more ≡ seen ++ option_to_list found → seen ++ siblings_behind rows p after ≡ all → more ++ siblings_behind rows p (Some i) ≡ all
one_more rows next p i after seen more all found increasing e is pushed so_far =
    ap (λ xs. xs ++ siblings_behind rows p (Some i)) (pushed ∙ ap (λ o. seen ++ option_to_list o) is)
    ∙ append_assoc seen (option_to_list (option_and_then sibling_of (row_of rows i))) (siblings_behind rows p (Some i))
    ∙ sym (ap (λ xs. seen ++ xs) (next_behind rows next p i after increasing e))
    ∙ so_far

-- Behind the last child, those that were seen are all.
pub all_seen : (rows : List Row) (p : ℕ) (after : Option ℕ) (seen all : List DynChild) → child_behind rows p after ≡ None → seen ++ siblings_behind rows p after ≡ all → seen ≡ all
all_seen rows p after seen all e so_far = sym (ap (λ xs. seen ++ xs) (none_behind rows p after e) ∙ append-nil seen) ∙ so_far

-- how many incarnations lie ahead, at most
abbrev pub ahead : ℕ → Option ℕ → ℕ
ahead next None = next + 1
ahead next (Some i) = next - i

-- A row that is found is below the next incarnation, row by row.
low_by : (t : Bool) (next i : ℕ) (r s : Row) (o : Option Row) → r.inc < next → (o ≡ Some s → s.inc < next) → cond t (Some r) o ≡ Some s → s.inc < next
low_by true next i r s o low more e = subst (λ x. x.inc < next) (some_same r s e) low
low_by false next i r s o low more e = more e

-- A row that is found to follow is below the next incarnation.
low : (rows : List Row) (next p : ℕ) (after : Option ℕ) (s : Row) → IncarnationsIncrease next rows → find (follows p after) rows ≡ Some s → s.inc < next
low [] next p after s increasing e = absurd (none_some s e)
low (r ∷ rs) next p after s increasing e = low_by (follows p after r) next p r s (find (follows p after) rs) increasing.0.0 (low rs next p after s increasing.1) e

-- Behind a row that stands behind a place fewer are ahead than behind the place.
fewer_by : (after : Option ℕ) (next i : ℕ) → is_behind after i ≡ true → i < next → ahead next (Some i) < ahead next after
fewer_by None next i h less = omega arith
fewer_by (Some j) next i h less = let higher : j < i = ltb-true j i h in omega arith

-- fewer lie ahead of the next child
pub fewer_ahead : (rows : List Row) (next p i : ℕ) (after : Option ℕ) → IncarnationsIncrease next rows → child_behind rows p after ≡ Some i → ahead next (Some i) < ahead next after
unfolding follows
fewer_ahead rows next p i after increasing e =
    let found : (s : Row) × (find (follows p after) rows ≡ Some s) × (s.inc ≡ i) = found_by (find (follows p after) rows) i e in
    let passes : IsTrue (follows p after found.0) = find-passes (follows p after) rows found.0 found.1 in
    fewer_by after next i
    (subst (λ j. is_behind after j ≡ true) found.2 (second_so (has_parent p found.0) (is_behind after found.0.inc) passes))
    (subst (λ j. j < next) found.2 (low rows next p after found.0 increasing found.1))
