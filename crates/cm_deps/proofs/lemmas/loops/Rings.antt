use Rattle.std.proofs.Common.{◌≡◌, ℕ, zero, suc, ◌+◌, ◌<◌, ◌≤◌, List, [], ◌∷◌, ◌++◌, length, take, drop, set, Bool, true, false, not, ◌||◌, true≢false, refl, sym, ◌∙◌, ap, subst, IsTrue, inl, inr, ◌⊎◌, arith, get_or, nat_eq}
use Rattle.std.specs.Prelude.{count_by, cond, replicate}
use Rattle.std.proofs.lemmas.List.{length-append, length-set, length-replicate}
use Rattle.std.proofs.lemmas.List.Folds.{list_any-append}
use Rattle.std.proofs.lemmas.List.Sums.{sum_by-set}
use Rattle.std.proofs.lemmas.Bool.{or_parts, or_from, or_cases}
use Rattle.cm_decl.specs.Reach.{DependencyPath, Reaches}
use Rattle.cm_deps.specs.Edges.{holds, is_set, row, IsBelow, IsVisited, IsToposorted, Waits}
use Rattle.cm_deps.specs.Ring.{LeadsToLeast, EachHasUnlisted, Once, IsTrail, IsWalk, IsLeastLeft, IsFirstLeft, IsRotated, IsRing}
use Rattle.cm_deps.proofs.lemmas.listed.Listing.{same_nat, nat_eq-refl, or_left, or_right, holds_push}
use Rattle.cm_deps.proofs.lemmas.loops.Searching.{seen_none, seen_more}
use Rattle.cm_deps.proofs.lemmas.loops.Ways.{DependencyPath-join, DependencyPath-split, DependencyPath-snoc, DependencyPath-along}

-- a trail grows by a step
pub trail_more : (Onward : ℕ → ℕ → Type 0) (start : ℕ) (passed : List ℕ) (node next : ℕ) → IsTrail Onward start passed node → Onward node next → IsTrail Onward start (passed ++ node ∷ []) next
trail_more Onward start [] node next at on = (at, subst (λ z. Onward z next) (sym at) on)
trail_more Onward start (w ∷ ws) node next trail on = (trail.0, DependencyPath-snoc Onward start ws node next trail.1 on)

-- where a trail is at a node that it passed, the node is reached and on a loop
pub trail_loop : (Onward : ℕ → ℕ → Type 0) (start : ℕ) (prefix : List ℕ) (node : ℕ) (back : List ℕ) → IsTrail Onward start (prefix ++ node ∷ back) node → ((start ≡ node) ⊎ Reaches Onward start node) × DependencyPath Onward node back node
trail_loop Onward start [] node back trail = (inl trail.0, subst (λ z. DependencyPath Onward z back node) trail.0 trail.1)
trail_loop Onward start (f ∷ fs) node back trail =
    let both : DependencyPath Onward start fs node × DependencyPath Onward node back node = DependencyPath-split Onward start fs node back node trail.1 in
    (inr (fs, both.0), both.1)

-- A list that holds each node once still does with one more that wasn't in it.
pub once_more : (xs : List ℕ) (y : ℕ) → Once xs → holds xs y ≡ false → Once (xs ++ y ∷ [])
once_more [] y once out = (refl, tt)
once_more (x ∷ xs) y once out =
    let both : (nat_eq y x ≡ false) × (holds xs y ≡ false) = or_parts (nat_eq y x) (holds xs y) out in
    let apart : nat_eq x y ≡ false = other x y both.0 in
    (holds_push xs y x ∙ or_from (holds xs x) (nat_eq x y) once.0 apart, once_more xs y once.1 both.1)
  where
    other : (a b : ℕ) → nat_eq b a ≡ false → nat_eq a b ≡ false
    other a b h = by (nat_eq a b) refl
      where
        by : (r : Bool) → nat_eq a b ≡ r → r ≡ false
        by true same = absurd (true≢false (sym (subst (λ z. IsTrue (nat_eq z a)) (same_nat a b same) (nat_eq-refl a)) ∙ h))
        by false e = refl

-- what is behind a prefix is there once
pub once_behind : (prefix back : List ℕ) → Once (prefix ++ back) → Once back
once_behind [] back once = once
once_behind (f ∷ fs) back once = once_behind fs back once.1

-- a node isn't among those on its two sides
pub once_between : (prefix : List ℕ) (x : ℕ) (back : List ℕ) → Once (prefix ++ x ∷ back) → (holds prefix x ≡ false) × (holds back x ≡ false)
once_between [] x back once = (refl, once.0)
once_between (f ∷ fs) x back once =
    let rest : (holds fs x ≡ false) × (holds back x ≡ false) = once_between fs x back once.1 in
    let whole : (holds fs f || holds (x ∷ back) f) ≡ false = sym (list_any-append (nat_eq f) fs (x ∷ back)) ∙ once.0 in
    let tail : holds (x ∷ back) f ≡ false = (or_parts (holds fs f) (holds (x ∷ back) f) whole).1 in
    let apart : nat_eq f x ≡ false = (or_parts (nat_eq f x) (holds back f) tail).0 in
    (or_from (nat_eq x f) (holds fs x) (turn apart) rest.0, rest.1)
  where
    turn : nat_eq f x ≡ false → nat_eq x f ≡ false
    turn h = by (nat_eq x f) refl
      where
        by : (r : Bool) → nat_eq x f ≡ r → r ≡ false
        by true same = absurd (true≢false (sym (subst (λ z. IsTrue (nat_eq z x)) (same_nat x f same) (nat_eq-refl x)) ∙ h))
        by false e = refl

-- a list is cut at a place
pub cut_at : (xs : List ℕ) (k : ℕ) → k < length xs → xs ≡ take k xs ++ get_or xs k 0 ∷ drop (k + 1) xs
cut_at [] k low = absurd (omega arith)
cut_at (x ∷ xs) zero low = refl
cut_at (x ∷ xs) (suc k) low =
    let more : suc k + 1 ≡ suc (k + 1) = omega arith in rw more (ap (λ l. x ∷ l) (cut_at xs k (omega arith)))

-- What a list has from a place on is the item there, and what it has from the next one on.
pub drop_at : (xs : List ℕ) (k : ℕ) → k < length xs → drop k xs ≡ get_or xs k 0 ∷ drop (k + 1) xs
drop_at [] k low = absurd (omega arith)
drop_at (x ∷ xs) zero low = refl
drop_at (x ∷ xs) (suc k) low = let more : suc k + 1 ≡ suc (k + 1) = omega arith in rw more (drop_at xs k (omega arith))

-- the parts of a picked cycle
pub record IsLoop (Onward : ℕ → ℕ → Type 0) (start : ℕ) (ring : List ℕ) : Type 0 where
  pub head : ℕ
  pub others : List ℕ
  pub reached : (start ≡ head) ⊎ Reaches Onward start head
  pub loop : DependencyPath Onward head others head
  pub once : holds others head ≡ false
  pub least : (x : ℕ) → IsTrue (holds others x) → head ≤ x
  pub whole : ring ≡ head ∷ others

-- a loop is begun at its least node
turned_loop : (Onward : ℕ → ℕ → Type 0) (start node : ℕ) (back ring : List ℕ) (place : ℕ) → ((start ≡ node) ⊎ Reaches Onward start node) → DependencyPath Onward node back node → Once (node ∷ back) → place < length (node ∷ back) → ((x : ℕ) → IsTrue (holds (node ∷ back) x) → get_or (node ∷ back) place 0 ≤ x) → ring ≡ drop place (node ∷ back) ++ take place (node ∷ back) → IsLoop Onward start ring
turned_loop Onward start node back ring zero reached loop once inside least whole = record {
  head = node;
  others = back;
  reached = reached;
  loop = loop;
  once = once.0;
  least = λ x held. least x (or_right (nat_eq x node) (holds back x) held);
  whole = whole ∙ nothing (node ∷ back);
}
  where
    nothing : (l : List ℕ) → l ++ [] ≡ l
    nothing [] = refl
    nothing (x ∷ xs) = ap (λ t. x ∷ t) (nothing xs)
turned_loop Onward start node back ring (suc place) reached loop once inside least whole =
    let low : place < length back = omega arith in
    let cut : back ≡ take place back ++ get_or back place 0 ∷ drop (place + 1) back = cut_at back place low in
    let ways : DependencyPath Onward node (take place back) (get_or back place 0) × DependencyPath Onward (get_or back place 0) (drop (place + 1) back) node =
    DependencyPath-split Onward node (take place back) (get_or back place 0) (drop (place + 1) back) node (subst (λ l. DependencyPath Onward node l node) cut loop) in
    let sides : (holds (node ∷ take place back) (get_or back place 0) ≡ false) × (holds (drop (place + 1) back) (get_or back place 0) ≡ false) =
    once_between (node ∷ take place back) (get_or back place 0) (drop (place + 1) back) (subst (λ l. Once (node ∷ l)) cut once) in
    record {
      head = get_or back place 0;
      others = drop (place + 1) back ++ node ∷ take place back;
      reached = inr (elim reached as (λ _. Reaches Onward start (get_or back place 0)) [
        | inl same ↦ (take place back, subst (λ z. DependencyPath Onward z (take place back) (get_or back place 0)) (sym same) ways.0)
        | inr way ↦ (way.0 ++ node ∷ take place back, DependencyPath-join Onward start way.0 node (take place back) (get_or back place 0) way.1 ways.0)
      ]);
      loop = DependencyPath-join Onward (get_or back place 0) (drop (place + 1) back) node (take place back) (get_or back place 0) ways.1 ways.0;
      once = list_any-append (nat_eq (get_or back place 0)) (drop (place + 1) back) (node ∷ take place back) ∙ or_from (holds (drop (place + 1) back) (get_or back place 0)) (holds (node ∷ take place back) (get_or back place 0)) sides.1 sides.0;
      least = λ x held. least x (among x cut held);
      whole = whole ∙ ap (λ l. l ++ node ∷ take place back) (drop_at back place low);
    }
  where
    among : (x : ℕ) → back ≡ take place back ++ get_or back place 0 ∷ drop (place + 1) back → IsTrue (holds (drop (place + 1) back ++ node ∷ take place back) x) → IsTrue (holds (node ∷ back) x)
    among x cut held =
        elim (or_cases (holds (drop (place + 1) back) x) (holds (node ∷ take place back) x) (sym (list_any-append (nat_eq x) (drop (place + 1) back) (node ∷ take place back)) ∙ held)) as (λ _. IsTrue (holds (node ∷ back) x)) [
          | inl behind ↦ or_right (nat_eq x node) (holds back x) (ap (λ l. holds l x) cut ∙ list_any-append (nat_eq x) (take place back) (get_or back place 0 ∷ drop (place + 1) back) ∙ or_right (holds (take place back) x) (holds (get_or back place 0 ∷ drop (place + 1) back) x) (or_right (nat_eq x (get_or back place 0)) (holds (drop (place + 1) back) x) behind))
          | inr before ↦ (elim (or_cases (nat_eq x node) (holds (take place back) x) before) as (λ _. IsTrue (holds (node ∷ back) x)) [
            | inl here ↦ or_left (nat_eq x node) (holds back x) here
            | inr prefix ↦ or_right (nat_eq x node) (holds back x) (ap (λ l. holds l x) cut ∙ list_any-append (nat_eq x) (take place back) (get_or back place 0 ∷ drop (place + 1) back) ∙ or_left (holds (take place back) x) (holds (get_or back place 0 ∷ drop (place + 1) back) x) prefix)
          ])
        ]

-- the loop of a walk, from the place on where its last node stands
pub walked_loop : (after : List (List ℕ)) (listed : ℕ → Bool) (start node : ℕ) (passed ring : List ℕ) (first : ℕ) → IsWalk after listed start passed node → first < length passed → get_or passed first 0 ≡ node → IsRotated (drop first passed) ring → IsLoop (LeadsToLeast after listed) start ring
walked_loop after listed start node passed ring first walk low here turned =
    let cut : passed ≡ take first passed ++ node ∷ drop (first + 1) passed = cut_at passed first low ∙ ap (λ z. take first passed ++ z ∷ drop (first + 1) passed) here in
    let round : drop first passed ≡ node ∷ drop (first + 1) passed = drop_at passed first low ∙ ap (λ z. z ∷ drop (first + 1) passed) here in
    let parts : ((start ≡ node) ⊎ Reaches (LeadsToLeast after listed) start node) × DependencyPath (LeadsToLeast after listed) node (drop (first + 1) passed) node =
    trail_loop (LeadsToLeast after listed) start (take first passed) node (drop (first + 1) passed) (subst (λ l. IsTrail (LeadsToLeast after listed) start l node) cut walk.trail) in
    let once : Once (node ∷ drop (first + 1) passed) = once_behind (take first passed) (node ∷ drop (first + 1) passed) (subst Once cut walk.once) in
    turned_loop (LeadsToLeast after listed) start node (drop (first + 1) passed) ring turned.place parts.0 parts.1 once
    (subst (λ l. turned.place < length l) round turned.inside)
    (subst (λ l. (x : ℕ) → IsTrue (holds l x) → get_or l turned.place 0 ≤ x) round turned.least)
    (subst (λ l. ring ≡ drop turned.place l ++ take turned.place l) round turned.whole)

-- flags that tell what a test tells
pub leads_same : (after : List (List ℕ)) (p q : ℕ → Bool) → ((x : ℕ) → p x ≡ q x) → (x y : ℕ) → LeadsToLeast after p x y → LeadsToLeast after q x y
leads_same after p q same x y leads = record {
  on = leads.on;
  left = sym (same y) ∙ leads.left;
  least = λ z on left. leads.least z on (same z ∙ left);
}

-- A loop that is begun where one test tells is the cycle that is told by another, equal test.
pub ring_same : (after : List (List ℕ)) (p q : ℕ → Bool) (start : ℕ) (ring : List ℕ) → ((x : ℕ) → p x ≡ q x) → IsFirstLeft (length after) p start → IsLoop (LeadsToLeast after p) start ring → IsRing after q ring
ring_same after p q start ring same first loop = record {
  start = start;
  first = record { inside = first.inside; left = sym (same start) ∙ first.left; first = λ y low. sym (same y) ∙ first.first y low };
  head = loop.head;
  others = loop.others;
  reached = elim loop.reached as (λ _. (start ≡ loop.head) ⊎ Reaches (LeadsToLeast after q) start loop.head) [
    | inl e ↦ inl e
    | inr way ↦ inr (way.0, DependencyPath-along (LeadsToLeast after p) (LeadsToLeast after q) (leads_same after p q same) start way.0 loop.head way.1)
  ];
  loop = DependencyPath-along (LeadsToLeast after p) (LeadsToLeast after q) (leads_same after p q same) loop.head loop.others loop.head loop.loop;
  once = loop.once;
  least = loop.least;
  whole = loop.whole;
}

-- where no flag is left, each is set
pub none_left : (flags : List Bool) (x : ℕ) → count_by not flags ≡ 0 → x < length flags → IsTrue (is_set flags x)
none_left flags x none low = by (is_set flags x) refl
  where
    by : (b : Bool) → is_set flags x ≡ b → IsTrue (is_set flags x)
    by true here = here
    by false left =
        let moved : count_by not (set flags x true) + cond (not (get_or flags x false)) 1 0 ≡ count_by not flags + 0 = sum_by-set (λ b. cond (not b) 1 0) flags x true false low in
        let one : count_by not (set flags x true) + 1 ≡ count_by not flags + 0 = rw left at moved in
        absurd (omega arith)

-- what the topological sort leaves goes on
pub toposorted_goes_on : (after : List (List ℕ)) (order : List ℕ) (listed : ℕ → Bool) → ((x : ℕ) → listed x ≡ holds order x) → IsToposorted after order → EachHasUnlisted after listed
toposorted_goes_on after order listed same toposorted x inside left =
    let waits : Waits after order x = toposorted.rest x inside (sym (same x) ∙ left) in
    (waits.0, waits.1, same waits.0 ∙ waits.2)

-- the walk passed so many nodes
pub record IsWalking (after : List (List ℕ)) (listed : List Bool) (start : ℕ) (seen : List Bool) (passed : List ℕ) (node steps : ℕ) : Type 0 where
  pub size : length seen ≡ length after
  pub flags : IsVisited seen passed
  pub inside : node < length after
  pub left : is_set listed node ≡ false
  pub trail : IsTrail (LeadsToLeast after (is_set listed)) start passed node
  pub once : Once passed
  pub count : length passed ≡ steps

-- Before its first step a walk stands at its start, which isn't listed, and has passed no node.
pub walking_none : (after : List (List ℕ)) (listed : List Bool) (start n : ℕ) → n ≡ length after → start < length after → is_set listed start ≡ false → IsWalking after listed start (replicate n false) [] start 0
walking_none after listed start n size inside left = record {
  size = length-replicate n false ∙ size;
  flags = seen_none n;
  inside = inside;
  left = left;
  trail = refl;
  once = tt;
  count = refl;
}

-- A walk goes on from a node that it hasn't seen to the least one left on which this depends.
pub walking_more : (after : List (List ℕ)) (listed : List Bool) (start : ℕ) (seen : List Bool) (passed : List ℕ) (node steps next : ℕ) → IsBelow after (length after) → IsWalking after listed start seen passed node steps → is_set seen node ≡ false → IsLeastLeft (row after node) (is_set listed) next → IsWalking after listed start (set seen node true) (passed ++ node ∷ []) next (steps + 1)
walking_more after listed start seen passed node steps next below state new least = record {
  size = length-set seen node true ∙ state.size;
  flags = seen_more seen passed node state.flags (omega (arith, state.size, state.inside)) new;
  inside = below node next least.among;
  left = least.left;
  trail = trail_more (LeadsToLeast after (is_set listed)) start passed node next state.trail (record { on = least.among; left = least.left; least = least.least });
  once = once_more passed node state.once (sym (state.flags.listed node) ∙ new);
  count = omega (arith, length-append passed (node ∷ []), state.count);
}

-- a walk that is at a node that it passed
pub walked_back : (after : List (List ℕ)) (listed : List Bool) (start : ℕ) (seen : List Bool) (passed : List ℕ) (node steps : ℕ) → IsWalking after listed start seen passed node steps → IsTrue (is_set seen node) → IsWalk after (is_set listed) start passed node
walked_back after listed start seen passed node steps state here = record {
  trail = state.trail;
  once = state.once;
  back = sym (state.flags.listed node) ∙ here;
}

-- a walk that passed as many nodes as there are is at one of them
pub walked_all : (after : List (List ℕ)) (listed : List Bool) (start : ℕ) (seen : List Bool) (passed : List ℕ) (node steps : ℕ) → IsWalking after listed start seen passed node steps → length after ≤ steps → IsWalk after (is_set listed) start passed node
walked_all after listed start seen passed node steps state all =
    let counted : count_by not seen + length passed ≡ length seen = state.flags.counted in
    let none : count_by not seen ≡ 0 = omega (arith, state.count, state.size) in
    walked_back after listed start seen passed node steps state (none_left seen node none (omega (arith, state.size, state.inside)))

-- the picked cycle, of flags and of the nodes that have them
pub ring_found : (after : List (List ℕ)) (order : List ℕ) (flags : List Bool) (start node : ℕ) (passed ring : List ℕ) (first : ℕ) → ((x : ℕ) → is_set flags x ≡ holds order x) → IsFirstLeft (length after) (is_set flags) start → IsWalk after (is_set flags) start passed node → first < length passed → get_or passed first 0 ≡ node → IsRotated (drop first passed) ring → IsRing after (holds order) ring
ring_found after order flags start node passed ring first same least walk low here turned =
    ring_same after (is_set flags) (holds order) start ring same least (walked_loop after (is_set flags) start node passed ring first walk low here turned)
