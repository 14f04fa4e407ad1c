use Rattle.std.proofs.Common.{◌≡◌, ◌≢◌, ℕ, zero, suc, ◌+◌, ◌<◌, ◌≤◌, List, [], ◌∷◌, ◌++◌, length, take, set, Bool, true, false, ◌||◌, true≢false, refl, sym, ◌∙◌, ap, subst, IsTrue, inl, inr, ◌⊎◌, arith, get_or, nat_eq}
use Rattle.std.proofs.lemmas.List.{length-set, length-append, get_or-set_same, get_or-set_other}
use Rattle.std.proofs.lemmas.Bool.{cases_lt}
use Rattle.cm_deps.specs.Edges.{holds, row, IsBelow, Covers}
use Rattle.cm_deps.proofs.lemmas.listed.Listing.{same_nat, nat_eq-refl, or_left, or_right, holds_push, prefix_more}

-- With an empty list more at the end, all lists are still empty.
pub row_push : (rows : List (List ℕ)) → ((x : ℕ) → row rows x ≡ []) → (x : ℕ) → row (rows ++ [] ∷ []) x ≡ []
row_push [] empty zero = refl
row_push [] empty (suc x) = refl
row_push (r ∷ rs) empty zero = empty zero
row_push (r ∷ rs) empty (suc x) = row_push rs (λ y. empty (suc y)) x

-- so many empty lists
pub record IsFilling (rows : List (List ℕ)) (count : ℕ) : Type 0 where
  pub size : length rows ≡ count
  pub empty : (x : ℕ) → row rows x ≡ []

-- So many empty lists, and one more empty list, are one more of them.
pub filling_more : (rows : List (List ℕ)) (count : ℕ) → IsFilling rows count → IsFilling (rows ++ [] ∷ []) (count + 1)
filling_more rows count state = record {
  size = omega (arith, length-append rows ([] ∷ []), state.size);
  empty = row_push rows state.empty;
}

-- a list that holds something is there
pub held_inside : (rows : List (List ℕ)) (x y : ℕ) → IsTrue (holds (row rows x) y) → x < length rows
held_inside [] x y held = absurd (true≢false (sym held))
held_inside (r ∷ rs) zero y held = omega arith
held_inside (r ∷ rs) (suc x) y held = let there : x < length rs = held_inside rs x y held in omega arith

-- one node was put into the lists of these nodes, and nothing else
pub record IsAdding (x : ℕ) (nodes : List ℕ) (old new : List (List ℕ)) : Type 0 where
  pub size : length new ≡ length old
  pub added : (y : ℕ) → IsTrue (holds nodes y) → IsTrue (holds (row new y) x)
  pub kept : (y z : ℕ) → IsTrue (holds (row old y) z) → IsTrue (holds (row new y) z)
  pub only : (y z : ℕ) → IsTrue (holds (row new y) z) → holds (row old y) z ≡ false → z ≡ x

-- To put a node into the lists of no nodes changes nothing.
pub adding_none : (x : ℕ) (old : List (List ℕ)) → IsAdding x [] old old
adding_none x old = record {
  size = refl;
  added = λ y none. absurd (true≢false (sym none));
  kept = λ y z held. held;
  only = λ y z held none. absurd (true≢false (sym held ∙ none));
}

-- what a list holds after one is put into it
put_holds : (rows : List (List ℕ)) (node x : ℕ) → node < length rows → (y z : ℕ) (b : Bool) → nat_eq y node ≡ b → (holds (row (set rows node (row rows node ++ x ∷ [])) y) z ≡ (holds (row rows y) z || nat_eq z x)) ⊎ (holds (row (set rows node (row rows node ++ x ∷ [])) y) z ≡ holds (row rows y) z) × (y ≢ node)
put_holds rows node x within y z true same =
    let here : y ≡ node = same_nat y node same in
    inl (subst (λ w. holds (row (set rows node (row rows node ++ x ∷ [])) w) z ≡ (holds (row rows w) z || nat_eq z x)) (sym here)
    (ap (λ l. holds l z) (get_or-set_same rows node (row rows node ++ x ∷ []) [] within) ∙ holds_push (row rows node) x z))
put_holds rows node x within y z false other =
    let apart : y ≢ node = λ e. true≢false (sym (subst (λ w. IsTrue (nat_eq y w)) e (nat_eq-refl y)) ∙ other) in
    inr (ap (λ l. holds l z) (get_or-set_other rows node y (row rows node ++ x ∷ []) [] apart), apart)

-- With a number put into one list more, it is in all lists up to that node, and nothing else was put.
pub adding_more : (x : ℕ) (nodes : List ℕ) (k : ℕ) (old new : List (List ℕ)) → k < length nodes → IsAdding x (take k nodes) old new → get_or nodes k 0 < length new → IsAdding x (take (k + 1) nodes) old (set new (get_or nodes k 0) (row new (get_or nodes k 0) ++ x ∷ []))
adding_more x nodes k old new low state within = record {
  size = length-set new (get_or nodes k 0) (row new (get_or nodes k 0) ++ x ∷ []) ∙ state.size;
  added = prefix_more (λ y. IsTrue (holds (row next y) x)) nodes k low (λ y held. longer y x (state.added y held)) here;
  kept = λ y z held. longer y z (state.kept y z held);
  only = λ y z held none. last y z held none (put_holds new (get_or nodes k 0) x within y z (nat_eq y (get_or nodes k 0)) refl);
}
  where
    next : List (List ℕ)
    next = set new (get_or nodes k 0) (row new (get_or nodes k 0) ++ x ∷ [])

    here : IsTrue (holds (row (set new (get_or nodes k 0) (row new (get_or nodes k 0) ++ x ∷ [])) (get_or nodes k 0)) x)
    here = ap (λ l. holds l x) (get_or-set_same new (get_or nodes k 0) (row new (get_or nodes k 0) ++ x ∷ []) [] within) ∙ holds_push (row new (get_or nodes k 0)) x x ∙ or_right (holds (row new (get_or nodes k 0)) x) (nat_eq x x) (nat_eq-refl x)

    longer : (y z : ℕ) → IsTrue (holds (row new y) z) → IsTrue (holds (row (set new (get_or nodes k 0) (row new (get_or nodes k 0) ++ x ∷ [])) y) z)
    longer y z held = elim (put_holds new (get_or nodes k 0) x within y z (nat_eq y (get_or nodes k 0)) refl) as (λ _. IsTrue (holds (row (set new (get_or nodes k 0) (row new (get_or nodes k 0) ++ x ∷ [])) y) z)) [
      | inl both ↦ both ∙ or_left (holds (row new y) z) (nat_eq z x) held
      | inr same ↦ same.0 ∙ held
    ]

    last : (y z : ℕ) → IsTrue (holds (row (set new (get_or nodes k 0) (row new (get_or nodes k 0) ++ x ∷ [])) y) z) → holds (row old y) z ≡ false → ((holds (row (set new (get_or nodes k 0) (row new (get_or nodes k 0) ++ x ∷ [])) y) z ≡ (holds (row new y) z || nat_eq z x)) ⊎ (holds (row (set new (get_or nodes k 0) (row new (get_or nodes k 0) ++ x ∷ [])) y) z ≡ holds (row new y) z) × (y ≢ get_or nodes k 0)) → z ≡ x
    last y z held none (inl both) = split (holds (row new y) z) refl (sym both ∙ held)
      where
        split : (b : Bool) → holds (row new y) z ≡ b → IsTrue (holds (row new y) z || nat_eq z x) → z ≡ x
        split true there is = state.only y z there none
        split false out is = let end : IsTrue (nat_eq z x) = rw out at is in same_nat z x end
    last y z held none (inr same) = state.only y z (sym same.0 ∙ held) none

-- the nodes before k stand in the lists of those that they depend on
pub record IsGathering (after before : List (List ℕ)) (k : ℕ) : Type 0 where
  pub size : length before ≡ length after
  pub below : IsBelow before (length after)
  pub covers : (x y : ℕ) → x < k → IsTrue (holds (row after x) y) → IsTrue (holds (row before y) x)

-- As many empty lists as there are nodes have gathered none of the nodes yet.
pub gathering_none : (after before : List (List ℕ)) → length before ≡ length after → ((x : ℕ) → row before x ≡ []) → IsGathering after before 0
gathering_none after before size empty = record {
  size = size;
  below = λ x y held. absurd (true≢false (sym held ∙ ap (λ l. holds l y) (empty x)));
  covers = λ x y low held. absurd (omega arith);
}

-- With the dependents of one node more put in, what is gathered is right up to the next node.
pub gathering_more : (after before later : List (List ℕ)) (k : ℕ) → k < length after → IsGathering after before k → IsAdding k (row after k) before later → IsGathering after later (k + 1)
gathering_more after before later k low state added = record {
  size = added.size ∙ state.size;
  below = λ y z held. under y z held (holds (row before y) z) refl;
  covers = λ x y less held. old x y less held;
}
  where
    under : (y z : ℕ) → IsTrue (holds (row later y) z) → (b : Bool) → holds (row before y) z ≡ b → z < length after
    under y z held true there = state.below y z there
    under y z held false out = let same : z ≡ k = added.only y z held out in omega arith

    old : (x y : ℕ) → x < k + 1 → IsTrue (holds (row after x) y) → IsTrue (holds (row later y) x)
    old x y less held = elim (cases_lt x k) as (λ _. IsTrue (holds (row later y) x)) [
      | inl before ↦ added.kept y x (state.covers x y before held)
      | inr from ↦ (let same : x ≡ k = omega arith in
          subst (λ z. IsTrue (holds (row later y) z)) (sym same) (added.added y (subst (λ z. IsTrue (holds (row after z) y)) same held)))
    ]

-- Once all nodes are gathered, the lists hold the graph turned around.
pub gathered : (after before : List (List ℕ)) (k : ℕ) → length after ≤ k → IsGathering after before k → Covers before after
gathered after before k all state x y held = let there : x < length after = held_inside after x y held in state.covers x y (omega arith) held
