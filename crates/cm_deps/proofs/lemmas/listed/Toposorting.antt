use Rattle.std.proofs.Common.{◌≡◌, ◌≢◌, ℕ, zero, suc, ◌+◌, ◌<◌, ◌≤◌, List, [], ◌∷◌, ◌++◌, length, take, set, Bool, true, false, not, true≢false, refl, sym, ◌∙◌, ap, subst, IsTrue, inl, inr, arith, get_or, nat_eq}
use Rattle.std.specs.Prelude.{count_by, replicate, cond}
use Rattle.std.proofs.lemmas.List.Folds.{sum_by-replicate}
use Rattle.std.proofs.lemmas.List.{length-set, length-append, length-replicate, take_more, take_all, take-append-le, get_or-set_other}
use Rattle.std.proofs.lemmas.Option.{slice_get-get_or}
use Rattle.std.proofs.lemmas.Bool.{cases_lt}
use Rattle.cm_deps.specs.Edges.{holds, is_set, row, Covers, Waits, IsReverseTopological, IsListing, IsSettled, IsToposorted, Extends}
use Rattle.cm_deps.proofs.lemmas.listed.Listing.{same_nat, nat_eq-refl, holds_at, flag_more, settled_longer}

-- nodes are being listed, and the first head of those that are listed are done
pub record IsToposorting (after : List (List ℕ)) (order : List ℕ) (queued done : List Bool) (head : ℕ) : Type 0 where
  pub listing : IsListing after order queued done
  pub done_size : length done ≡ length after
  pub within : head ≤ length order
  pub finished : (x : ℕ) → is_set done x ≡ holds (take head order) x
  pub settled : (x : ℕ) → x < length after → IsSettled after order done x

-- a node that is listed is inside
pub listed_inside : (after : List (List ℕ)) (order : List ℕ) (head : ℕ) → IsReverseTopological after order → head < length order → get_or order head 0 < length after
listed_inside after order head grown within = (grown head (get_or order head 0) (slice_get-get_or order head 0 within)).inside

-- With the node at the head put down as done, what is listed is right.
pub listing_done : (after : List (List ℕ)) (order : List ℕ) (queued done : List Bool) (head : ℕ) → IsToposorting after order queued done head → head < length order → IsListing after order queued (set done (get_or order head 0) true)
listing_done after order queued done head state within = record {
  queued_size = state.listing.queued_size;
  grown = state.listing.grown;
  listed = state.listing.listed;
  known = λ x is. by x is (nat_eq x (get_or order head 0)) refl;
  counted = state.listing.counted;
}
  where
    by : (x : ℕ) → IsTrue (is_set (set done (get_or order head 0) true) x) → (b : Bool) → nat_eq x (get_or order head 0) ≡ b → IsTrue (holds order x)
    by x is true same = subst (λ z. IsTrue (holds order z)) (sym (same_nat x (get_or order head 0) same)) (holds_at order head within)
    by x is false other =
        let apart : x ≢ get_or order head 0 = λ e. true≢false (sym (subst (λ z. IsTrue (nat_eq x z)) e (nat_eq-refl x)) ∙ other) in
        state.listing.known x (sym (get_or-set_other done (get_or order head 0) x true false apart) ∙ is)

-- one node more is done, and what depends on it is looked at again
pub toposorting_more : (after before : List (List ℕ)) (order longer : List ℕ) (queued later done : List Bool) (head : ℕ) → IsToposorting after order queued done head → Covers before after → head < length order → IsListing after longer later (set done (get_or order head 0) true) → ((y : ℕ) → IsTrue (holds (row before (get_or order head 0)) y) → IsSettled after longer (set done (get_or order head 0) true) y) → Extends order longer → IsToposorting after longer later (set done (get_or order head 0) true) (head + 1)
toposorting_more after before order longer queued later done head state covers within listing freed more = record {
  listing = listing;
  done_size = length-set done node true ∙ state.done_size;
  within = omega (arith, ap length more.1, length-append order more.0);
  finished = λ x. flag_more done (take head order) node inside state.finished x ∙ ap (λ l. holds l x) (sym prefix);
  settled = λ x in_x. again x in_x (state.settled x in_x);
}
  where
    node : ℕ
    node = get_or order head 0

    inside : get_or order head 0 < length done
    inside = let there : get_or order head 0 < length after = listed_inside after order head state.listing.grown within in omega (arith, state.done_size)

    prefix : take (head + 1) longer ≡ take head order ++ get_or order head 0 ∷ []
    prefix = ap (take (head + 1)) more.1 ∙ take-append-le (head + 1) order more.0 (omega arith) ∙ take_more order head 0 within

    undone : (x y : ℕ) → IsTrue (holds (row after x) y) → is_set done y ≡ false → (b : Bool) → nat_eq y (get_or order head 0) ≡ b → IsSettled after longer (set done (get_or order head 0) true) x
    undone x y on open_y true same = freed x (subst (λ z. IsTrue (holds (row before z) x)) (same_nat y (get_or order head 0) same) (covers x y on))
    undone x y on open_y false other =
        let apart : y ≢ get_or order head 0 = λ e. true≢false (sym (subst (λ z. IsTrue (nat_eq y z)) e (nat_eq-refl y)) ∙ other) in
        inr (y, on, get_or-set_other done (get_or order head 0) y true false apart ∙ open_y)

    again : (x : ℕ) → x < length after → IsSettled after order done x → IsSettled after longer (set done (get_or order head 0) true) x
    again x in_x (inl here) = settled_longer after order longer (set done (get_or order head 0) true) x more (inl here)
    again x in_x (inr waits) = undone x waits.0 waits.1 waits.2 (nat_eq waits.0 (get_or order head 0)) refl

-- where all that are listed are done, the rest waits for the rest
pub toposorted : (after : List (List ℕ)) (order : List ℕ) (queued done : List Bool) (head : ℕ) → IsToposorting after order queued done head → length order ≤ head → IsToposorted after order
toposorted after order queued done head state all = record {
  grown = state.listing.grown;
  rest = λ x in_x out. by x out (state.settled x in_x);
}
  where
    by : (x : ℕ) → holds order x ≡ false → IsSettled after order done x → Waits after order x
    by x out (inl here) = absurd (true≢false (sym here ∙ out))
    by x out (inr waits) =
        (waits.0, waits.1, ap (λ l. holds l waits.0) (sym (take_all head order all)) ∙ sym (state.finished waits.0) ∙ waits.2)

-- Where all flags are off, none is set.
pub none_set : (n x : ℕ) → is_set (replicate n false) x ≡ false
none_set zero x = refl
none_set (suc n) zero = refl
none_set (suc n) (suc x) = none_set n x

-- Of so many flags that are off, just as many aren't set.
pub all_open : (n : ℕ) → count_by not (replicate n false) ≡ n
all_open n = sum_by-replicate (λ b. cond (not b) 1 0) n false ∙ omega arith

-- at first nothing is listed
pub listing_none : (after : List (List ℕ)) (n : ℕ) → n ≡ length after → IsListing after [] (replicate n false) (replicate n false)
listing_none after n size = record {
  queued_size = length-replicate n false ∙ size;
  grown = λ k x at. absurd (let never : ⊥ = cc in never);
  listed = λ x. none_set n x;
  known = λ x is. absurd (true≢false (sym is ∙ none_set n x));
  counted = omega (arith, all_open n);
}

-- At first, with nothing done, a sort is under way where each node is settled.
pub toposorting_none : (after : List (List ℕ)) (order : List ℕ) (queued : List Bool) (n : ℕ) → n ≡ length after → IsListing after order queued (replicate n false) → ((x : ℕ) → x < n → IsSettled after order (replicate n false) x) → IsToposorting after order queued (replicate n false) 0
toposorting_none after order queued n size listing settled = record {
  listing = listing;
  done_size = length-replicate n false ∙ size;
  within = omega arith;
  finished = λ x. none_set n x;
  settled = λ x in_x. settled x (omega arith);
}

-- With the next node done, by its name, and its dependents looked at, a sort is still under way.
pub toposorting_next : (after before : List (List ℕ)) (order longer : List ℕ) (queued later done : List Bool) (head node : ℕ) → IsToposorting after order queued done head → Covers before after → head < length order → get_or order head 0 ≡ node → IsListing after longer later (set done node true) → ((y : ℕ) → IsTrue (holds (row before node) y) → IsSettled after longer (set done node true) y) → Extends order longer → IsToposorting after longer later (set done node true) (head + 1)
toposorting_next after before order longer queued later done head node state covers within same =
    subst (λ z. IsListing after longer later (set done z true) → ((y : ℕ) → IsTrue (holds (row before z) y) → IsSettled after longer (set done z true) y) → Extends order longer → IsToposorting after longer later (set done z true) (head + 1)) same
    (toposorting_more after before order longer queued later done head state covers within)

-- With one node more that is settled, all up to it are settled in the longer order.
pub settled_more : (after : List (List ℕ)) (order longer : List ℕ) (done : List Bool) (k : ℕ) → ((y : ℕ) → y < k → IsSettled after order done y) → Extends order longer → IsSettled after longer done k → (y : ℕ) → y < k + 1 → IsSettled after longer done y
settled_more after order longer done k settled more here y low = elim (cases_lt y k) as (λ _. IsSettled after longer done y) [
  | inl before ↦ settled_longer after order longer done y more (settled y before)
  | inr from ↦ (let same : k ≡ y = omega arith in subst (λ z. IsSettled after longer done z) same here)
]
