use Rattle.std.proofs.Common.{◌≡◌, ℕ, ◌+◌, ◌<◌, ◌≤◌, List, [], ◌∷◌, ◌++◌, length, take, set, Bool, true, false, not, ◌||◌, true≢false, refl, sym, ◌∙◌, ap, subst, IsTrue, arith, get_or, nat_eq}
use Rattle.std.specs.Prelude.{count_by, cond, replicate}
use Rattle.std.proofs.lemmas.List.{length-append, length-replicate, length-set, append-nil, take-append-le, take_all, take_more}
use Rattle.std.proofs.lemmas.List.Sums.{sum_by-set}
use Rattle.std.proofs.lemmas.List.Folds.{list_any-append}
use Rattle.cm_decl.specs.Reach.{DependencyPath, Reaches}
use Rattle.cm_decl.proofs.lemmas.cycles.Reaching.{Reaches-trans}
use Rattle.cm_deps.specs.Edges.{holds, is_set, row, On, IsBelow, IsReach, IsVisited, IsAdded, Extends}
use Rattle.cm_deps.proofs.lemmas.listed.Listing.{or_left, or_right, holds_push, flag_more, prefix_more, holds_at, extends_on, nat_eq-refl}
use Rattle.cm_deps.proofs.lemmas.listed.Toposorting.{none_set, all_open}

-- a node that isn't there yet is put there
pub seen_more : (seen : List Bool) (found : List ℕ) (x : ℕ) → IsVisited seen found → x < length seen → is_set seen x ≡ false → IsVisited (set seen x true) (found ++ x ∷ [])
seen_more seen found x state inside new = record {
  listed = flag_more seen found x inside state.listed;
  counted = fewer;
}
  where
    moved : count_by not (set seen x true) + cond (not (get_or seen x false)) 1 0 ≡ count_by not seen + 0
    moved = sum_by-set (λ b. cond (not b) 1 0) seen x true false inside

    fewer : count_by not (set seen x true) + length (found ++ x ∷ []) ≡ length (set seen x true)
    fewer =
        let one : count_by not (set seen x true) + 1 ≡ count_by not seen + 0 = rw new at moved in
        omega (arith, length-append found (x ∷ []), state.counted, length-set seen x true)

-- Where no flag is set, a search has found no node.
pub seen_none : (n : ℕ) → IsVisited (replicate n false) []
seen_none n = record {
  listed = λ x. none_set n x;
  counted = omega (arith, all_open n, length-replicate n false);
}

-- What a list holds is held by each list that extends it.
pub holds_longer : (old new : List ℕ) (y : ℕ) → Extends old new → IsTrue (holds old y) → IsTrue (holds new y)
holds_longer old new y more held =
    ap (λ l. holds l y) more.1 ∙ list_any-append (nat_eq y) old more.0 ∙ or_left (holds old y) (holds more.0 y) held

-- the search in progress: what the first head nodes that were found depend on is found
pub record IsSearching (after : List (List ℕ)) (start : ℕ) (found : List ℕ) (head : ℕ) : Type 0 where
  pub within : head ≤ length found
  pub first : (y : ℕ) → On after start y → IsTrue (holds found y)
  pub closed : (x y : ℕ) → IsTrue (holds (take head found) x) → On after x y → IsTrue (holds found y)
  pub sound : (y : ℕ) → IsTrue (holds found y) → Reaches (On after) start y

-- A search begins with just the nodes on which its start directly depends.
pub searching_none : (after : List (List ℕ)) (start : ℕ) (found : List ℕ) → IsAdded (row after start) [] found → IsSearching after start found 0
searching_none after start found step = record {
  within = omega arith;
  first = step.added;
  closed = λ x y held on. absurd (true≢false (sym held));
  sound = λ y held. ([], step.only y held refl);
}

-- A search goes on with what the next node that was found depends on.
pub searching_more : (after : List (List ℕ)) (start : ℕ) (found longer : List ℕ) (head : ℕ) → head < length found → IsSearching after start found head → IsAdded (row after (get_or found head 0)) found longer → IsSearching after start longer (head + 1)
searching_more after start found longer head low state step = record {
  within = omega (arith, ap length step.longer.1, length-append found step.longer.0);
  first = λ y on. holds_longer found longer y step.longer (state.first y on);
  closed = λ x y held on. prefix_more (λ z. On after z y → IsTrue (holds longer y)) found head low (λ z there on_z. holds_longer found longer y step.longer (state.closed z y there on_z)) (λ on_node. step.added y on_node) x (sym (ap (λ l. holds l x) prefix) ∙ held) on;
  sound = λ y held. from y held (holds found y) refl;
}
  where
    prefix : take (head + 1) longer ≡ take (head + 1) found
    prefix = ap (take (head + 1)) step.longer.1 ∙ take-append-le (head + 1) found step.longer.0 (omega arith)

    from : (y : ℕ) → IsTrue (holds longer y) → (b : Bool) → holds found y ≡ b → Reaches (On after) start y
    from y held true there = state.sound y there
    from y held false out =
        Reaches-trans (On after) start (get_or found head 0) y (state.sound (get_or found head 0) (holds_at found head low)) ([], step.only y held out)

-- where all that were found were looked at, all are found
pub searched : (after : List (List ℕ)) (start : ℕ) (found : List ℕ) (head : ℕ) → length found ≤ head → IsSearching after start found head → IsReach after start found
searched after start found head all state = record {
  all = λ y way. from start (λ z on. state.first z on) way.0 y way.1;
  only = state.sound;
}
  where
    from : (x : ℕ) → ((z : ℕ) → On after x z → IsTrue (holds found z)) → (between : List ℕ) (y : ℕ) → DependencyPath (On after) x between y → IsTrue (holds found y)
    from x next [] y on = next y on
    from x next (z ∷ zs) y way = from z (λ w on. state.closed z w (ap (λ l. holds l z) (take_all head found all) ∙ next z way.0) on) zs y way.1

-- To add no nodes leaves the list of found ones as it is.
pub added_none : (found : List ℕ) → IsAdded [] found found
added_none found = record {
  added = λ y none. absurd (true≢false (sym none));
  only = λ y held out. absurd (true≢false (sym held ∙ out));
  longer = ([], sym (append-nil found));
}

-- With one node more put behind the found ones, so many of the nodes are added.
pub added_more : (nodes : List ℕ) (k : ℕ) (old found longer : List ℕ) → k < length nodes → IsAdded (take k nodes) old found → IsTrue (holds longer (get_or nodes k 0)) → ((y : ℕ) → IsTrue (holds longer y) → holds found y ≡ false → y ≡ get_or nodes k 0) → Extends found longer → IsAdded (take (k + 1) nodes) old longer
added_more nodes k old found longer low state here new more = record {
  added = prefix_more (λ y. IsTrue (holds longer y)) nodes k low (λ y held. holds_longer found longer y more (state.added y held)) here;
  only = λ y held out. from y held out (holds found y) refl;
  longer = extends_on old found longer state.longer more;
}
  where
    split : (y : ℕ) → holds (take (k + 1) nodes) y ≡ (holds (take k nodes) y || nat_eq y (get_or nodes k 0))
    split y = ap (λ l. holds l y) (take_more nodes k 0 low) ∙ holds_push (take k nodes) (get_or nodes k 0) y

    from : (y : ℕ) → IsTrue (holds longer y) → holds old y ≡ false → (b : Bool) → holds found y ≡ b → IsTrue (holds (take (k + 1) nodes) y)
    from y held out true there = split y ∙ or_left (holds (take k nodes) y) (nat_eq y (get_or nodes k 0)) (state.only y there out)
    from y held out false fresh = split y ∙ or_right (holds (take k nodes) y) (nat_eq y (get_or nodes k 0)) (subst (λ z. IsTrue (nat_eq y z)) (new y held fresh) (nat_eq-refl y))

-- a search stays inside the graph
pub inside_more : (after : List (List ℕ)) (node : ℕ) (found longer : List ℕ) → IsBelow after (length after) → ((y : ℕ) → IsTrue (holds found y) → y < length after) → IsAdded (row after node) found longer → (y : ℕ) → IsTrue (holds longer y) → y < length after
inside_more after node found longer below inside step y held = from (holds found y) refl
  where
    from : (b : Bool) → holds found y ≡ b → y < length after
    from true there = inside y there
    from false out = below node y (step.only y held out)
