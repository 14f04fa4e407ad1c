-- One lane meets others, one after another.
use Rattle.std.proofs.Common.{◌≡◌, ◌≢◌, ◌⊎◌, ℕ, zero, suc, ◌+◌, ◌<◌, ◌≤◌, List, [], ◌∷◌, ◌++◌, All, Any, Some, length, set, get_or, refl, sym, ap, ◌∙◌, subst, inl, inr, arith, get_or-set_other, get_or-set_same, below_more}
use Rattle.std.proofs.lemmas.List.{get_or_default}
use Rattle.cm_turn.specs.History.{StartsWith}
use Rattle.cm_turn.specs.Passes.{LockView, seen_up_to}
use Rattle.cm_world.specs.declared.reply.Entry.{Entry}
use Rattle.cm_world.proofs.lemmas.trees.Finding.{some_same}
use Rattle.cm_manager.specs.Contract.{RealmPass}
use Rattle.cm_manager.specs.Kept.{IsOwnPass}
use Rattle.cm_lanes.specs.Lane.{Lane, HasPass, HasSeen, Met, MetBoth, MetAll}
use Rattle.cm_lanes.specs.Meeting.{MetWithin, HasSeenWithin, MeetsEach}
use Rattle.cm_turn.proofs.lemmas.Histories.{starts-refl, starts-trans, starts-antisym}

-- two lists that begin with each other are one
no_more : (xs ys : List Entry) → xs ++ ys ≡ xs → ys ≡ []
no_more [] ys e = e
no_more (x ∷ xs) ys e = no_more xs ys (ap (λ (l : List Entry). Rattle.std.specs.Prelude.drop 1 l) e)

-- Where two lists are empty together, the first one is.
no_prefix : (xs ys : List Entry) → xs ++ ys ≡ [] → xs ≡ []
no_prefix [] ys e = refl
no_prefix (x ∷ xs) ys e = absurd (cc e)

-- what two passes say of their meeting
pub met_both : {G : Type 0} (a b : Lane G) (p q p' q' : RealmPass) → a.pass ≡ Some p → b.pass ≡ Some q → p' ≡ seen_up_to p'.seen p → q' ≡ seen_up_to q'.seen q → p'.seen ≡ q'.seen → IsOwnPass p' → IsOwnPass q' → (StartsWith q.seen p.seen × (p'.seen ≡ q.seen)) ⊎ (StartsWith p.seen q.seen × (p'.seen ≡ p.seen)) → MetBoth a b (record a { pass = Some p' }) (record b { pass = Some q' })
met_both a b p q p' q' a_is b_is p_is q_is same p_own q_own longer =
    let s = p'.seen in
    let q_now : q' ≡ seen_up_to s q = q_is ∙ ap (λ (l : List Entry). seen_up_to l q) (sym same) in
    let grows : StartsWith s p.seen × StartsWith s q.seen = elim longer [
      | inl e ↦ (subst (λ (l : List Entry). StartsWith l p.seen) (sym e.1) e.0, subst (λ (l : List Entry). StartsWith l q.seen) (sym e.1) (starts-refl q.seen))
      | inr e ↦ (subst (λ (l : List Entry). StartsWith l p.seen) (sym e.1) (starts-refl p.seen), subst (λ (l : List Entry). StartsWith l q.seen) (sym e.1) e.0)
    ] in
    record {
      seen = s;
      one = record { pass = p; was = a_is; now = ap Some p_is; grows = grows.0; own = subst IsOwnPass p_is p_own; gates = refl; said = refl; lost = refl };
      other = record { pass = q; was = b_is; now = ap Some q_now; grows = grows.1; own = subst IsOwnPass q_now q_own; gates = refl; said = refl; lost = refl };
      longer = elim longer [ inl e ↦ inr (sym e.1) | inr e ↦ inl (sym e.1) ];
    }

-- Before it meets the first of the others, a lane has met none, and nothing has changed.
pub meets_none : {G : Type 0} (turn : LockView) (f : Lane G) (xs : List (Lane G)) → HasPass turn f → MeetsEach 0 f f xs xs
meets_none turn f xs has = record {
  seen = has.pass.seen;
  pass = has.pass;
  was = has.there;
  now = has.there;
  grows = starts-refl has.pass.seen;
  own = λ lt. absurd (omega arith);
  gates = refl;
  said = refl;
  lost = refl;
  met = λ k d lt. absurd (omega arith);
  rest = λ k d le. refl;
  among = inl refl;
  still = λ all. (refl, λ k d lt. absurd (omega arith));
}

-- A lane that has met others within a history has met them within a longer one.
met_further : {G : Type 0} (s t : List Entry) (x y : Lane G) → StartsWith t s → MetWithin s x y → MetWithin t x y
met_further s t x y grows is = record { then_seen = is.then_seen; met = is.met; within = starts-trans t s is.then_seen grows is.within }

-- a fact of the places below n + 1, from those below n and from n
up_to : (P : ℕ → Type 0) (n k : ℕ) → k < n + 1 → (k < n → P k) → P n → P k
up_to P n k lt below here = below_more (λ j. j ≡ k → P j) n (λ j less same. subst P (sym same) (below (subst (λ (m : ℕ). m < n) same less))) (λ _. here) k lt refl

-- the longer of the two is what the first one had seen, where that had all of the other's
still_longest : {G : Type 0} (s seen : List Entry) (f' f'' x x' : Lane G) (both : MetBoth f' x f'' x') → both.seen ≡ s → both.one.pass.seen ≡ seen → StartsWith s seen → HasSeenWithin seen x → s ≡ seen
still_longest s seen f' f'' x x' both is had grows within =
    elim both.longer [
      | inl e ↦ sym is ∙ sym e ∙ had
      | inr e ↦
          (let pass_is : within.pass ≡ both.other.pass = some_same _ _ (sym within.there ∙ both.other.was) in
          let back : StartsWith seen s = subst (λ (l : List Entry). StartsWith seen l) (ap (λ (p : RealmPass). p.seen) pass_is ∙ e ∙ is) within.within in
          starts-antisym s seen grows back)
    ]

-- the first one had seen it or one of those that were met, or the one that is met now
among_more : {G : Type 0} (n : ℕ) (seen s own : List Entry) (xs : List (Lane G)) → (s ≡ seen) ⊎ ((d : Lane G) → HasSeen s (get_or xs n d)) → (own ≡ seen) ⊎ ((k : ℕ) × (k < n) × ((d : Lane G) → HasSeen seen (get_or xs k d))) → (own ≡ s) ⊎ ((k : ℕ) × (k < n + 1) × ((d : Lane G) → HasSeen s (get_or xs k d)))
among_more n seen s own xs (inl e) (inl it) = inl (it ∙ sym e)
among_more n seen s own xs (inl e) (inr it) = inr (it.0, omega (arith, it.1), λ d. subst (λ (l : List Entry). HasSeen l (get_or xs it.0 d)) (sym e) (it.2 d))
among_more n seen s own xs (inr here) it = inr (n, omega arith, here)

-- With one lane more that the first one met, all up to it have met it.
pub meets_more : {G : Type 0} (n : ℕ) (f f' f'' : Lane G) (xs ys : List (Lane G)) (x x' : Lane G) → n < length ys → length ys ≡ length xs → x ≡ get_or ys n x → MeetsEach n f f' xs ys → MetBoth f' x f'' x' → MeetsEach (n + 1) f f'' xs (set ys n x')
meets_more {G} n f f' f'' xs ys x x' lt long is_x is both =
    let s = both.seen in
    let p_is : both.one.pass ≡ seen_up_to is.seen is.pass = some_same _ _ (sym both.one.was ∙ is.now) in
    let grows : StartsWith s is.seen = subst (λ (p : RealmPass). StartsWith s p.seen) p_is both.one.grows in
    let x_old : (d : Lane G) → x ≡ get_or xs n d = λ d. is_x ∙ get_or_default ys n x d lt ∙ is.rest n d (omega arith) in
    let here : (d : Lane G) → get_or (set ys n x') n d ≡ x' = λ d. get_or-set_same ys n x' d lt in
    let there : (k : ℕ) (d : Lane G) → k ≢ n → get_or (set ys n x') k d ≡ get_or ys k d = λ k d other. get_or-set_other ys n k x' d other in
    let met_here : (d : Lane G) → Met s (get_or xs n d) (get_or (set ys n x') n d) = λ d. subst (λ (y : Lane G). Met s (get_or xs n d) y) (sym (here d)) (subst (λ (y : Lane G). Met s y x') (x_old d) both.other) in
    record {
      seen = s;
      pass = is.pass;
      was = is.was;
      now = both.one.now ∙ ap (λ (p : RealmPass). Some (seen_up_to s p)) p_is;
      grows = starts-trans s is.seen is.pass.seen grows is.grows;
      own = λ _. subst (λ (p : RealmPass). IsOwnPass (seen_up_to s p)) p_is both.one.own;
      gates = both.one.gates ∙ is.gates;
      said = both.one.said ∙ is.said;
      lost = both.one.lost ∙ is.lost;
      met = λ k d lt_k. up_to (λ (k : ℕ). MetWithin s (get_or xs k d) (get_or (set ys n x') k d)) n k lt_k
          (λ less. subst (λ (y : Lane G). MetWithin s (get_or xs k d) y) (sym (there k d (differs k n less))) (met_further is.seen s _ _ grows (is.met k d less)))
          (record { then_seen = s; met = met_here d; within = starts-refl s });
      rest = λ k d le. there k d (above k n le) ∙ is.rest k d (omega arith);
      among = among_more n is.seen s is.pass.seen xs
          (elim both.longer [
            | inl e ↦ inl (sym e ∙ ap (λ (p : RealmPass). p.seen) p_is)
            | inr e ↦ inr (λ d. record { pass = both.other.pass; there = ap (λ (y : Lane G). y.pass) (sym (x_old d)) ∙ both.other.was; is = e })
          ])
          is.among;
      still = λ all.
          let old = is.still all in
          let x_in : HasSeenWithin is.pass.seen x = subst (λ (y : Lane G). HasSeenWithin is.pass.seen y) (sym (x_old x)) (all n x (omega arith)) in
          let same : s ≡ is.seen = still_longest s is.seen f' f'' x x' both refl (ap (λ (p : RealmPass). p.seen) p_is) grows (subst (λ (l : List Entry). HasSeenWithin l x) (sym old.0) x_in) in (
            same ∙ old.0,
            λ k d lt_k. up_to (λ (k : ℕ). Met s (get_or xs k d) (get_or (set ys n x') k d)) n k lt_k
                (λ less. subst (λ (y : Lane G). Met s (get_or xs k d) y) (sym (there k d (differs k n less))) (subst (λ (l : List Entry). Met l (get_or xs k d) (get_or ys k d)) (sym same) (old.1 k d less)))
                (met_here d),
          );
    } where
      differs : (k n : ℕ) → k < n → k ≢ n
      differs k n lt e = absurd (omega (arith, e))

      above : (k n : ℕ) → n + 1 ≤ k → k ≢ n
      above k n le e = absurd (omega (arith, e))

-- ---- two rounds

-- A lane that met others, and met them again, has met them at the second history.
met_trans : {G : Type 0} (s t : List Entry) (x y z : Lane G) → Met s x y → Met t y z → Met t x z
met_trans s t x y z a b =
    let p_is : b.pass ≡ seen_up_to s a.pass = some_same _ _ (sym b.was ∙ a.now) in
    record {
      pass = a.pass;
      was = a.was;
      now = b.now ∙ ap (λ (p : RealmPass). Some (seen_up_to t p)) p_is;
      grows = starts-trans t s a.pass.seen (subst (λ (p : RealmPass). StartsWith t p.seen) p_is b.grows) a.grows;
      own = subst (λ (p : RealmPass). IsOwnPass (seen_up_to t p)) p_is b.own;
      gates = b.gates ∙ a.gates;
      said = b.said ∙ a.said;
      lost = b.lost ∙ a.lost;
    }

-- The first lane, which met each of the others, is met itself in a round that isn't empty.
pub first_met : {G : Type 0} (n : ℕ) (f f' : Lane G) (xs ys : List (Lane G)) → 0 < n → (is : MeetsEach n f f' xs ys) → Met is.seen f f'
first_met n f f' xs ys lt is = record { pass = is.pass; was = is.was; now = is.now; grows = is.grows; own = is.own lt; gates = is.gates; said = is.said; lost = is.lost }

-- A lane that was met has a pass of the lock, as it had.
pub has_still : {G : Type 0} (turn : LockView) (s : List Entry) (x y : Lane G) → HasPass turn x → Met s x y → HasPass turn y
has_still turn s x y has is = record {
  pass = seen_up_to s is.pass;
  there = is.now;
  of_lock = ap (λ (p : RealmPass). p.lock) (some_same _ _ (sym is.was ∙ has.there)) ∙ has.of_lock;
}

-- Where the first lane has met all others, twice in a row, all lanes have met.
pub meets_twice : {G : Type 0} (n : ℕ) (f f' f'' : Lane G) (xs ys zs : List (Lane G)) → 0 < n → n ≡ length xs → length ys ≡ length xs → length zs ≡ length ys → MeetsEach n f f' xs ys → MeetsEach (length ys) f' f'' ys zs → MetAll (f ∷ xs) (f'' ∷ zs)
meets_twice {G} n f f' f'' xs ys zs some is_n long long₂ a b =
    let within : (k : ℕ) (d : Lane G) → k < length ys → HasSeenWithin b.pass.seen (get_or ys k d) = λ k d lt. seen_within (get_or xs k d) (get_or ys k d) (subst (λ (l : List Entry). MetWithin l (get_or xs k d) (get_or ys k d)) (sym seen_is) (a.met k d (omega (arith, is_n, long)))) in
    let still = b.still within in
    record {
      seen = b.seen;
      long = ap suc (long₂ ∙ long);
      each = λ k d lt. each k d lt (still.1);
      among = among (still.0 ∙ seen_is) a.among;
    } where
      pass_is : b.pass ≡ seen_up_to a.seen a.pass
      pass_is = some_same _ _ (sym b.was ∙ a.now)

      seen_is : b.pass.seen ≡ a.seen
      seen_is = ap (λ (p : RealmPass). p.seen) pass_is

      seen_within : (x y : Lane G) → MetWithin b.pass.seen x y → HasSeenWithin b.pass.seen y
      seen_within x y m = record { pass = seen_up_to m.then_seen m.met.pass; there = m.met.now; within = m.within }

      -- what the first round came to is what all have seen
      among : b.seen ≡ a.seen → (a.pass.seen ≡ a.seen) ⊎ ((k : ℕ) × (k < n) × ((d : Lane G) → HasSeen a.seen (get_or xs k d))) → Any (HasSeen b.seen) (f ∷ xs)
      among e (inl own) = (0, f, omega arith, refl, record { pass = a.pass; there = a.was; is = own ∙ sym e })
      among e (inr it) =
          let lt : it.0 < length xs = omega (arith, it.1, is_n) in
          (suc it.0, get_or xs it.0 f, omega (arith, lt), sym (get_or_default xs it.0 f (get_or xs it.0 f) lt), subst (λ (l : List Entry). HasSeen l (get_or xs it.0 f)) (sym e) (it.2 f))

      each : (k : ℕ) (d : Lane G) → k < length (f ∷ xs) → ((k : ℕ) (d : Lane G) → k < length ys → Met b.seen (get_or ys k d) (get_or zs k d)) → Met b.seen (get_or (f ∷ xs) k d) (get_or (f'' ∷ zs) k d)
      each zero d lt rest = met_trans a.seen b.seen f f' f'' (first_met n f f' xs ys some a) (first_met (length ys) f' f'' ys zs (omega (arith, is_n, long)) b)
      each (suc k) d lt rest =
          let m = a.met k d (omega (arith, is_n)) in
          met_trans m.then_seen b.seen (get_or xs k d) (get_or ys k d) (get_or zs k d) m.met (rest k d (omega (arith, is_n, long)))

-- the lane that is met next is as it was
pub has_at : {G : Type 0} (turn : LockView) (f f' : Lane G) (xs ys : List (Lane G)) (n : ℕ) (d : Lane G) → All (HasPass turn) xs → MeetsEach n f f' xs ys → n < length xs → HasPass turn (get_or ys n d)
has_at turn f f' xs ys n d all is lt = subst (HasPass turn) (sym (is.rest n d (omega arith))) (all n d lt)

-- Where a round is at its end, all lanes are met.
pub meets_end : {G : Type 0} (n : ℕ) (f f' : Lane G) (xs ys : List (Lane G)) → length xs ≤ n → n ≤ length xs → MeetsEach n f f' xs ys → MeetsEach (length xs) f f' xs ys
meets_end n f f' xs ys above below is = subst (λ (m : ℕ). MeetsEach m f f' xs ys) (omega arith) is

-- A lane that met others still holds a pass of this lock.
pub has_first : {G : Type 0} (turn : LockView) (n : ℕ) (f f' : Lane G) (xs ys : List (Lane G)) → HasPass turn f → MeetsEach n f f' xs ys → HasPass turn f'
has_first turn n f f' xs ys has is = record {
  pass = seen_up_to is.seen is.pass;
  there = is.now;
  of_lock = ap (λ (p : RealmPass). p.lock) (some_same _ _ (sym is.was ∙ has.there)) ∙ has.of_lock;
}

-- Lanes that were met still hold passes of this lock.
pub has_others : {G : Type 0} (turn : LockView) (f f' : Lane G) (xs ys : List (Lane G)) → length ys ≡ length xs → All (HasPass turn) xs → MeetsEach (length xs) f f' xs ys → All (HasPass turn) ys
has_others turn f f' xs ys long all is k d lt =
    let m = is.met k d (omega (arith, long)) in
    has_still turn m.then_seen (get_or xs k d) (get_or ys k d) (all k d (omega (arith, long))) m.met

-- what holds of all lanes holds of the first and of the others
pub all_split : {A : Type 0} (P : A → Type 0) (all xs : List A) (x : A) → all ≡ x ∷ xs → All P all → P x × All P xs
all_split P all xs x is holds =
    let whole = subst (λ (l : List _). All P l) is holds in
    (whole 0 x (grind arith), λ k d lt. whole (suc k) d (grind (arith, lt)))
