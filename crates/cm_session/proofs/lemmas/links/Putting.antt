-- Links put together.
use Rattle.std.proofs.Common.{◌≡◌, ℕ, zero, suc, ◌+◌, ◌<◌, ◌≤◌, List, [], ◌∷◌, ◌++◌, length, refl, sym, ap, ◌∙◌, subst, append-nil, append_assoc, arith}
use Rattle.std.proofs.lemmas.List.{length-append, length-map, length_push, nil_from_length}
use Rattle.cm_session.specs.declared.served.Back.{Back}
use Rattle.cm_session.specs.Closing.{backs_of, links_from}
use Rattle.cm_session.specs.PoolParts.{Links}

-- ---- the links of one worker

-- The links of a worker that are put to those of others, and what is left to be put.
pub record Putting {L : Type 0} (worker : ℕ) (first : List (Back L)) (links : List L) (capacity : ℕ) (back : List (Back L)) (now : ℕ) (left : List L) : Type 0 where
  pub whole : back ++ backs_of worker left ≡ first ++ backs_of worker links
  pub same : now ≡ capacity
  pub room : length back + length left ≤ now

-- At first none of a worker's links is put behind those before them, and there is room for all.
pub putting_none : {L : Type 0} (worker : ℕ) (first : List (Back L)) (links left : List L) (capacity : ℕ) → left ≡ links → length first + length links ≤ capacity → Putting worker first links capacity first capacity left
putting_none {L} worker first links left capacity left_is room = subst (λ (l : List L). Putting worker first links capacity first capacity l) (sym left_is) (record { whole = refl; same = refl; room = room })

-- As long as one of a worker's links is left, there is room for it.
pub putting_room : {L : Type 0} (worker : ℕ) (first : List (Back L)) (links left others : List L) (l : L) (capacity : ℕ) (back : List (Back L)) (now : ℕ) → Putting worker first links capacity back now left → left ≡ l ∷ others → length back < now
putting_room {L} worker first links left others l capacity back now is left_is = (let n = ap (λ (l : List L). length l) left_is in omega (arith, is.room, n))

-- One link more of a worker is put behind those that are there, and the others are left.
pub putting_more : {L : Type 0} (worker : ℕ) (first : List (Back L)) (links left others : List L) (l : L) (capacity : ℕ) (back back' : List (Back L)) (now now' : ℕ) → Putting worker first links capacity back now left → left ≡ l ∷ others → back' ≡ back ++ record { worker = worker; link = l } ∷ [] → now' ≡ now → Putting worker first links capacity back' now' others
putting_more {L} worker first links left others l capacity back back' now now' is left_is more now_is =
    let n = ap (λ (l : List L). length l) left_is in
    let b : length back' ≡ length back + 1 = ap (λ (l : List (Back L)). length l) more ∙ length_push back (record { worker = worker; link = l }) in
    record {
      whole = ap (λ (x : List (Back L)). x ++ backs_of worker others) more ∙ append_assoc back (record { worker = worker; link = l } ∷ []) (backs_of worker others) ∙ ap (λ (x : List L). back ++ backs_of worker x) (sym left_is) ∙ is.whole;
      same = now_is ∙ is.same;
      room = omega (arith, is.room, n, b, now_is);
    }

-- Where none of a worker's links is left, all of them stand behind those that were there before.
pub putting_all : {L : Type 0} (worker : ℕ) (first : List (Back L)) (links left : List L) (capacity : ℕ) (back : List (Back L)) (now : ℕ) → Putting worker first links capacity back now left → length left ≡ 0 → back ≡ first ++ backs_of worker links
putting_all {L} worker first links left capacity back now is none = sym (append-nil back) ∙ ap (λ (x : List L). back ++ backs_of worker x) (sym (nil_from_length left none)) ∙ is.whole

-- ---- the links of all workers

-- The links of the workers that are put together one after the other, and what is left.
pub record Gathering {L : Type 0} (links : List (Links L)) (capacity worker : ℕ) (back : List (Back L)) (now : ℕ) (left : List (Links L)) : Type 0 where
  pub whole : back ++ links_from worker left ≡ links_from 0 links
  pub same : now ≡ capacity
  pub number : worker + length left ≤ 16

-- At first no links are gathered, and there are sixteen workers at most.
pub gathering_none : {L : Type 0} (links left : List (Links L)) (capacity : ℕ) (back : List (Back L)) → left ≡ links → back ≡ [] → length links ≤ 16 → Gathering links capacity 0 back capacity left
gathering_none {L} links left capacity back left_is none few = record {
  whole = ap (λ (x : List (Back L)). x ++ links_from 0 left) none ∙ ap (λ (x : List (Links L)). links_from 0 x) left_is;
  same = refl;
  number = (let n = ap (λ (x : List (Links L)). length x) left_is in omega (arith, few, n));
}

-- There is room for the links of the next worker, where there is room for the links of all.
pub gathering_room : {L : Type 0} (links left others : List (Links L)) (r : Links L) (capacity worker : ℕ) (back : List (Back L)) (now : ℕ) → Gathering links capacity worker back now left → left ≡ r ∷ others → length (links_from 0 links) ≤ capacity → length back + length r.items ≤ now
gathering_room {L} links left others r capacity worker back now is left_is fits =
    let all = ap (λ (x : List (Back L)). length x) (ap (λ (x : List (Links L)). back ++ links_from worker x) (sym left_is) ∙ is.whole) in
    let first = length-append back (links_from worker (r ∷ others)) in
    let second = length-append (backs_of worker r.items) (links_from (worker + 1) others) in
    let third = length-map {B = Back L} r.items (λ (l : L). record { worker = worker; link = l }) in
    omega (arith, all, first, second, third, fits, is.same)

-- The links of the next worker are gathered behind those of the ones before it.
pub gathering_more : {L : Type 0} (links left others : List (Links L)) (r : Links L) (capacity worker : ℕ) (back back' : List (Back L)) (now now' : ℕ) → Gathering links capacity worker back now left → left ≡ r ∷ others → back' ≡ back ++ backs_of worker r.items → now' ≡ now → Gathering links capacity (worker + 1) back' now' others
gathering_more {L} links left others r capacity worker back back' now now' is left_is more now_is =
    let n = ap (λ (l : List (Links L)). length l) left_is in record {
      whole = ap (λ (x : List (Back L)). x ++ links_from (worker + 1) others) more ∙ append_assoc back (backs_of worker r.items) (links_from (worker + 1) others) ∙ ap (λ (x : List (Links L)). back ++ links_from worker x) (sym left_is) ∙ is.whole;
      same = now_is ∙ is.same;
      number = omega (arith, is.number, n);
    }

-- Where no worker is left, the links of all are gathered, worker by worker.
pub gathering_all : {L : Type 0} (links left : List (Links L)) (capacity worker : ℕ) (back : List (Back L)) (now : ℕ) → Gathering links capacity worker back now left → length left ≡ 0 → back ≡ links_from 0 links
gathering_all {L} links left capacity worker back now is none = sym (append-nil back) ∙ ap (λ (x : List (Links L)). back ++ links_from worker x) (sym (nil_from_length left none)) ∙ is.whole
