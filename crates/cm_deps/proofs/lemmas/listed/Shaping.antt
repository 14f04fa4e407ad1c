use Rattle.std.proofs.Common.{◌≡◌, ◌≢◌, ℕ, ◌<◌, List, [], ◌∷◌, ◌++◌, length, Bool, true, false, not, ◌&&◌, true≢false, Some, refl, sym, ◌∙◌, ap, subst, IsTrue, inl, inr, ◌⊎◌, arith, nat_eq}
use Rattle.std.specs.Prelude.{reverse, if◌then◌else◌, slice_get}
use Rattle.std.proofs.lemmas.List.Folds.{list_any-append}
use Rattle.std.proofs.lemmas.Bool.{or_cases}
use Rattle.cm_decl.specs.Reach.{DependencyPath, Reaches}
use Rattle.cm_deps.specs.Edges.{holds, is_set, row, On, IsBelow, IsToposorted, IsReach}
use Rattle.cm_deps.specs.Implied.{IsApart, IsFull, IsOrderedGraph, row_with}
use Rattle.cm_deps.proofs.lemmas.listed.Listing.{same_nat, nat_eq-refl, or_left, or_right, or_none}
use Rattle.cm_deps.proofs.lemmas.listed.Gathering.{held_inside}
use Rattle.cm_deps.proofs.lemmas.loops.Cores.{held_at}
use Rattle.cm_deps.proofs.lemmas.listed.Topological.{full_listed}
use Rattle.cm_deps.proofs.lemmas.listed.Reversing.{holds_reverse, reverse_falls}

-- what the first node reaches is inside
pub way_end : (after : List (List ℕ)) (n : ℕ) → IsBelow after n → (x : ℕ) (xs : List ℕ) (y : ℕ) → DependencyPath (On after) x xs y → y < n
way_end after n below x [] y on = below x y on
way_end after n below x (z ∷ zs) y way = way_end after n below z zs y way.1

-- All nodes that a node of the graph reaches are within the graph.
pub reach_inside : (after : List (List ℕ)) (start : ℕ) (reached : List ℕ) → IsBelow after (length after) → IsReach after start reached → (x : ℕ) → IsTrue (holds reached x) → x < length after
reach_inside after start reached below reach x held =
    let way : Reaches (On after) start x = reach.only x held in way_end after (length after) below start way.0 x way.1

-- the rows of the graph with its implied edges, as many as there are so far
pub record IsFillingFull (after : List (List ℕ)) (near : List Bool) (full : List (List ℕ)) (count : ℕ) : Type 0 where
  pub size : length full ≡ count
  pub rows : (i : ℕ) → i < count → row full i ≡ row_with i (row after i) (is_set near i)

-- what a row with the implied edge holds
row_split : (i : ℕ) (r : List ℕ) (near : Bool) (j : ℕ) → IsTrue (holds (row_with i r near) j) → IsTrue (holds r j) ⊎ ((i ≢ 0) × (near ≡ false) × (j ≡ 0))
row_split i r near j held = elim (or_cases (holds r j) (holds (if not (nat_eq i 0) && not near then 0 ∷ [] else []) j) (sym (list_any-append (nat_eq j) r (if not (nat_eq i 0) && not near then 0 ∷ [] else [])) ∙ held)) as (λ _. IsTrue (holds r j) ⊎ ((i ≢ 0) × (near ≡ false) × (j ≡ 0))) [
  | inl here ↦ inl here
  | inr there ↦ inr (tail (nat_eq i 0) near refl there)
]
  where
    tail : (b n : Bool) → nat_eq i 0 ≡ b → IsTrue (holds (if not b && not n then 0 ∷ [] else []) j) → (i ≢ 0) × (n ≡ false) × (j ≡ 0)
    tail true n e h = absurd (true≢false (sym h))
    tail false true e h = absurd (true≢false (sym h))
    tail false false e h = ((λ z. true≢false (sym (subst (λ v. IsTrue (nat_eq v 0)) (sym z) (nat_eq-refl 0)) ∙ e)), refl, same_nat j 0 (sym (or_none (nat_eq j 0)) ∙ h))

-- The row of a node other than the first, which the first doesn't reach, holds the first node.
row_apart : (i : ℕ) (r : List ℕ) (near : Bool) → i ≢ 0 → near ≡ false → IsTrue (holds (row_with i r near) 0)
row_apart i r near child apart = by (nat_eq i 0) refl near apart
  where
    by : (b : Bool) → nat_eq i 0 ≡ b → (n : Bool) → n ≡ false → IsTrue (holds (r ++ (if not (nat_eq i 0) && not n then 0 ∷ [] else [])) 0)
    by true e n far = absurd (child (same_nat i 0 e))
    by false e true far = absurd (true≢false far)
    by false e false far = rw e (list_any-append (nat_eq 0) r (0 ∷ []) ∙ or_right (holds r 0) (holds (0 ∷ []) 0) refl)

-- all rows are there
pub full_of : (after : List (List ℕ)) (reached : List ℕ) (near : List Bool) (full : List (List ℕ)) → IsBelow after (length after) → 0 < length after → ((x : ℕ) → is_set near x ≡ holds reached x) → IsFillingFull after near full (length after) → IsFull after reached full
full_of after reached near full below some same state = record {
  size = state.size;
  below = λ i j on. (let low : i < length after = inside i j on in
      elim (split i j low on) as (λ _. j < length full) [
        | inl strong ↦ (let high : j < length after = below i j strong in omega (arith, state.size))
        | inr apart ↦ omega (arith, state.size, apart.2)
      ]);
  strong = λ i j on. (let low : i < length after = held_inside after i j on in
      ap (λ l. holds l j) (state.rows i low) ∙ list_any-append (nat_eq j) (row after i) (if not (nat_eq i 0) && not (is_set near i) then 0 ∷ [] else []) ∙ or_left (holds (row after i) j) (holds (if not (nat_eq i 0) && not (is_set near i) then 0 ∷ [] else []) j) on);
  implied = λ i j far.
      subst (λ k. On full i k) (sym far.own) (ap (λ l. holds l 0) (state.rows i far.inside) ∙ row_apart i (row after i) (is_set near i) far.child (same i ∙ far.apart));
  only = λ i j on. (let low : i < length after = inside i j on in
      elim (split i j low on) as (λ _. On after i j ⊎ IsApart after reached i j) [
        | inl strong ↦ inl strong
        | inr apart ↦ inr (record { inside = low; child = apart.0; apart = sym (same i) ∙ apart.1; own = apart.2 })
      ]);
}
  where
    inside : (i j : ℕ) → On full i j → i < length after
    inside i j on = let low : i < length full = held_inside full i j on in omega (arith, state.size)

    split : (i j : ℕ) → i < length after → On full i j → IsTrue (holds (row after i) j) ⊎ ((i ≢ 0) × (is_set near i ≡ false) × (j ≡ 0))
    split i j low on = row_split i (row after i) (is_set near i) j (ap (λ l. holds l j) (sym (state.rows i low)) ∙ on)

-- where all are listed by the strong edges, they have an order by all edges
pub ordered : (after : List (List ℕ)) (listed reached : List ℕ) (full : List (List ℕ)) (order : List ℕ) → IsBelow after (length after) → 0 < length after → IsToposorted after listed → ((x : ℕ) → x < length after → IsTrue (holds listed x)) → IsReach after 0 reached → IsFull after reached full → IsToposorted full order → IsOrderedGraph after full (reverse order)
ordered after listed reached full order below some toposorted all reach edges again = record {
  listed = listed;
  toposorted = toposorted;
  all = all;
  reached = reached;
  reach = reach;
  edges = edges;
  falling = reverse_falls full order again.grown;
  whole = λ x inside. holds_reverse order x ∙ full_listed after reached full listed order some below reach edges toposorted.grown all again x inside;
  inside = λ x held. low x (held_at order x (sym (holds_reverse order x) ∙ held));
}
  where
    low : (x : ℕ) → (k : ℕ) × (k < length order) × (slice_get order k ≡ Some x) → x < length after
    low x found = let there : x < length full = (again.grown found.0 x found.2).inside in omega (arith, edges.size)
