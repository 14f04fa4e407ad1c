-- Graphs without cycles.
use Rattle.std.proofs.Common.{◌≡◌, ◌≢◌, ℕ, zero, suc, ◌+◌, ◌<◌, ◌≤◌, List, [], ◌∷◌, Bool, true, false, not, ◌||◌, ◌==◌, true≢false, Some, IsTrue, filter, length, refl, sym, ◌∙◌, ap, subst, inl, inr, ◌⊎◌, arith}
use Rattle.std.specs.List.{list_any}
use Rattle.std.specs.Cmp.{unsigned_Decides}
use Rattle.std.proofs.lemmas.Bool.{or_cases}
use Rattle.cm_decl.specs.Reach.{DependencyPath, Reaches, NoCycle}
use Rattle.cm_decl.specs.RealmGraph.{RealmGraph, Strong, IsImplied, Directly}
use Rattle.cm_decl.proofs.lemmas.cycles.Reaching.{Reaches-trans}
use Rattle.cm_decl.proofs.lemmas.Sameness.{never}
use Rattle.cm_world.specs.declared.row.Row.{Row}
use Rattle.cm_world.specs.Rows.{row_of}
use Rattle.cm_world.proofs.lemmas.trees.Finding.{none_some, some_same, row_of-inc}
use Rattle.cm_trees.proofs.trees.Trees.{not_true}

-- ---- implied edges make no cycle

module _ {N : Type 0} (r : RealmGraph N) where
  -- a node from which an implied edge leads, where one comes by strong edges alone
  record IsLeaving (x : N) : Type 0 where
    pub node : N
    pub to : N
    pub way : (x ≡ node) ⊎ Reaches (Strong r) x node
    pub implied : IsImplied r node to

  -- A node with a strong edge to one from which an implied edge leads has such an edge ahead, too.
  before : (x z : N) → Strong r x z → IsLeaving z → IsLeaving x
  before x z strong leaving = record {
    node = leaving.node;
    to = leaving.to;
    way = elim leaving.way [
      | inl same ↦ inr ([], subst (Strong r x) same strong)
      | inr way ↦ inr (z ∷ way.0, (strong, way.1))
    ];
    implied = leaving.implied;
  }

  -- a way is one by strong edges, or there is a first implied one
  first_implied : (x : N) (xs : List N) (y : N) → DependencyPath (Directly r) x xs y → Reaches (Strong r) x y ⊎ IsLeaving x
  first_implied x [] y (inl strong) = inl ([], strong)
  first_implied x [] y (inr implied) = inr (record { node = x; to = y; way = inl refl; implied = implied })
  first_implied x (z ∷ zs) y (inl strong, way) = elim (first_implied z zs y way) [
    | inl rest ↦ inl (z ∷ rest.0, (strong, rest.1))
    | inr leaving ↦ inr (before x z strong leaving)
  ]
  first_implied x (z ∷ zs) y (inr implied, way) = inr (record { node = x; to = z; way = inl refl; implied = implied })

  -- or it comes by strong edges from the component itself
  last_implied : (x : N) (xs : List N) (y : N) → DependencyPath (Directly r) x xs y → Reaches (Strong r) x y ⊎ ((r.own ≡ y) ⊎ Reaches (Strong r) r.own y)
  last_implied x [] y (inl strong) = inl ([], strong)
  last_implied x [] y (inr implied) = inr (inl (sym implied.own))
  last_implied x (z ∷ zs) y (inl strong, way) = elim (last_implied z zs y way) [
    | inl rest ↦ inl (z ∷ rest.0, (strong, rest.1))
    | inr own ↦ inr own
  ]
  last_implied x (z ∷ zs) y (inr implied, way) = elim (last_implied z zs y way) [
    | inl rest ↦ inr (inr (subst (λ v. Reaches (Strong r) v y) implied.own rest))
    | inr own ↦ inr own
  ]

  -- What the component reaches doesn't lead to a node that the component doesn't reach.
  meets : (x k : N) → (r.own ≡ x) ⊎ Reaches (Strong r) r.own x → (x ≡ k) ⊎ Reaches (Strong r) x k → k ≢ r.own → (Reaches (Strong r) r.own k → ⊥) → ⊥
  meets x k (inl from) (inl to) child apart = child (sym to ∙ sym from)
  meets x k (inl from) (inr to) child apart = apart (subst (λ v. Reaches (Strong r) v k) (sym from) to)
  meets x k (inr from) (inl to) child apart = apart (subst (Reaches (Strong r) r.own) to from)
  meets x k (inr from) (inr to) child apart = apart (Reaches-trans (Strong r) r.own x k from to)

  -- where strong edges make no cycle, the implied ones make none
  pub direct_acyclic : NoCycle (Strong r) → NoCycle (Directly r)
  direct_acyclic acyclic (x, way) = elim (first_implied x way.0 x way.1) [
    | inl strong ↦ acyclic (x, strong)
    | inr leaving ↦ (elim (last_implied x way.0 x way.1) [
      | inl strong ↦ acyclic (x, strong)
      | inr own ↦ meets x leaving.node own leaving.way leaving.implied.child leaving.implied.apart
    ])
  ]

-- ---- rows that weren't seen

-- The number of rows that weren't seen yet.
unseen : List Row → List ℕ → ℕ
unseen rows seen = length (filter (λ r. not (list_any (λ s. s == r.inc) seen)) rows)

-- No more items pass a test than a weaker one.
kept_le : (q t : Row → Bool) (xs : List Row) → ((r : Row) → IsTrue (q r) → IsTrue (t r)) → length (filter q xs) ≤ length (filter t xs)
kept_le q t [] more = omega arith
kept_le q t (x ∷ xs) more = by (q x) (t x) refl refl (kept_le q t xs more) where
  by : (b c : Bool) → q x ≡ b → t x ≡ c → length (filter q xs) ≤ length (filter t xs) → length (filter q (x ∷ xs)) ≤ length (filter t (x ∷ xs))
  by true true e f rest = rw (e, f) (omega arith)
  by true false e f rest = absurd (true≢false (sym (more x e) ∙ f))
  by false true e f rest = rw (e, f) (omega arith)
  by false false e f rest = rw (e, f) rest

-- Fewer rows pass a test than a weaker one that some living row passes alone.
kept_less : (q t : Row → Bool) (rows : List Row) (i : ℕ) (r : Row) → ((s : Row) → IsTrue (q s) → IsTrue (t s)) → row_of rows i ≡ Some r → q r ≡ false → IsTrue (t r) → length (filter q rows) < length (filter t rows)
kept_less q t [] i r more lives out in_it = absurd (none_some r lives)
kept_less q t (x ∷ xs) i r more lives out in_it = by (x.inc == i) (q x) (t x) refl refl refl (λ later. kept_less q t xs i r more later out in_it) where
  by : (a b c : Bool) → (x.inc == i) ≡ a → q x ≡ b → t x ≡ c → (row_of xs i ≡ Some r → length (filter q xs) < length (filter t xs)) → length (filter q (x ∷ xs)) < length (filter t (x ∷ xs))
  by true b c is e f rest =
      let same : x ≡ r = some_same x r (rw is at lives) in
      let out_here : q x ≡ false = ap q same ∙ out in
      let in_here : t x ≡ true = ap t same ∙ in_it in
      let fewer : length (filter q xs) ≤ length (filter t xs) = kept_le q t xs more in
      rw (out_here, in_here) (omega arith)
  by false true true is e f rest = let fewer : length (filter q xs) < length (filter t xs) = rest (rw is at lives) in rw (e, f) (omega arith)
  by false true false is e f rest = absurd (true≢false (sym (more x e) ∙ f))
  by false false true is e f rest = let fewer : length (filter q xs) < length (filter t xs) = rest (rw is at lives) in rw (e, f) (omega arith)
  by false false false is e f rest = rw (e, f) (rest (rw is at lives))

-- Where not even one of two holds, the second doesn't.
not_more : (p q : Bool) → IsTrue (not (p || q)) → IsTrue (not q)
not_more true q h = never h
not_more false q h = h

-- Fewer rows are unseen with one more that lives and wasn't seen.
unseen_less : (rows : List Row) (seen : List ℕ) (x : ℕ) (r : Row) → row_of rows x ≡ Some r → list_any (λ s. s == x) seen ≡ false → unseen rows (x ∷ seen) < unseen rows seen
unfolding unseen
unseen_less rows seen x r lives new =
    let own : r.inc ≡ x = row_of-inc rows x r lives in
    let here : (x == r.inc) ≡ true = (unsigned_Decides x r.inc).1 (sym own) in
    kept_less (λ s. not (list_any (λ i. i == s.inc) (x ∷ seen))) (λ s. not (list_any (λ i. i == s.inc) seen)) rows x r
    (λ s out. not_more (x == s.inc) (list_any (λ i. i == s.inc) seen) out) lives
    (ap (λ b. not (b || list_any (λ i. i == r.inc) seen)) here) (ap not (ap (λ j. list_any (λ i. i == j) seen) own ∙ new))

-- ---- induction along a graph of rows without cycles

module _ (rows : List Row) (On : ℕ → ℕ → Type 0) (there : (x y : ℕ) → On x y → (r : Row) × (row_of rows y ≡ Some r)) (acyclic : NoCycle On) where
  -- What is reached from a row, or is it, leads on to what that one leads to.
  reach_more : (s x y : ℕ) → (s ≡ x) ⊎ Reaches On s x → On x y → Reaches On s y
  reach_more s x y (inl same) on = ([], subst (λ v. On v y) (sym same) on)
  reach_more s x y (inr way) on = Reaches-trans On s x y way ([], on)

  -- Each row seen so far, with the present one, leads to what the present one leads to.
  seen_more : (seen : List ℕ) (x y : ℕ) → ((s : ℕ) → IsTrue (list_any (λ i. i == s) seen) → Reaches On s x) → On x y → (s : ℕ) → IsTrue (list_any (λ i. i == s) (x ∷ seen)) → Reaches On s y
  seen_more seen x y reach on s is = elim (or_cases (x == s) (list_any (λ i. i == s) seen) is) [
    | inl same ↦ reach_more s x y (inl (sym ((unsigned_Decides x s).0 same))) on
    | inr old ↦ reach_more s x y (inr (reach s old)) on
  ]

  -- What holds of a row where it holds of all that it leads to holds here, behind the rows seen.
  along : (n : ℕ) (P : ℕ → Type 0) → ((x : ℕ) → ((y : ℕ) → On x y → P y) → P x) → (seen : List ℕ) (x : ℕ) (r : Row) → row_of rows x ≡ Some r → ((s : ℕ) → IsTrue (list_any (λ i. i == s) seen) → Reaches On s x) → unseen rows seen < n → P x
  along zero P step seen x r lives reach low = absurd (omega arith)
  along (suc n) P step seen x r lives reach low =
      step x (λ y on.
      let row : (s : Row) × (row_of rows y ≡ Some s) = there x y on in
      let less : unseen rows (x ∷ seen) < unseen rows seen = unseen_less rows seen x r lives (not_true (list_any (λ i. i == x) seen) (λ old. acyclic (x, reach x old))) in
      along n P step (x ∷ seen) y row.0 row.1 (seen_more seen x y reach on) (omega arith))

  -- what holds of a row where it holds of all that it leads to holds of each row
  pub follow : (P : ℕ → Type 0) → ((x : ℕ) → ((y : ℕ) → On x y → P y) → P x) → (x : ℕ) (r : Row) → row_of rows x ≡ Some r → P x
  follow P step x r lives = along (unseen rows [] + 1) P step [] x r lives (λ s none. never none) (omega arith)

-- ---- decisions

-- one of the numbers below a bound, or none
pub search_below : (n : ℕ) (A : ℕ → Type 0) → ((i : ℕ) → A i ⊎ (A i → ⊥)) → ((i : ℕ) × A i) ⊎ ((i : ℕ) → i < n → A i → ⊥)
search_below zero A decide = inr (λ i low. absurd (omega arith))
search_below (suc n) A decide = elim (search_below n A decide) [
  | inl found ↦ inl found
  | inr none ↦ (elim (decide n) [
    | inl here ↦ inl (n, here)
    | inr not_here ↦ inr (λ i low is. at i low is (i == n) refl none not_here)
  ])
] where
  at : (i : ℕ) → i < suc n → A i → (t : Bool) → (i == n) ≡ t → ((i : ℕ) → i < n → A i → ⊥) → (A n → ⊥) → ⊥
  at i low is true e none not_here = not_here (subst A ((unsigned_Decides i n).0 e) is)
  at i low is false e none not_here =
      let apart : i ≡ n → ⊥ = λ same. true≢false (sym ((unsigned_Decides i n).1 same) ∙ e) in
      none i (omega arith) is

module _ (rows : List Row) (next : ℕ) (On : ℕ → ℕ → Type 0) (there : (x y : ℕ) → On x y → (r : Row) × (row_of rows y ≡ Some r)) (within : (y : ℕ) (r : Row) → row_of rows y ≡ Some r → y < next) (acyclic : NoCycle On) (decide : (x y : ℕ) → On x y ⊎ (On x y → ⊥)) where
  -- A row leads to another, which is a third one or leads to it in the end.
  record GoesTo (x y w : ℕ) : Type 0 where
    pub on : On x w
    pub rest : (w ≡ y) ⊎ Reaches On w y

  -- A way between two rows goes first to some row.
  goes_first : (x y : ℕ) (between : List ℕ) → DependencyPath On x between y → (w : ℕ) × GoesTo x y w
  goes_first x y [] on = (y, record { on = on; rest = inl refl })
  goes_first x y (z ∷ zs) way = (z, record { on = way.0; rest = inr (zs, way.1) })

  -- What goes first to some row, and on from there, is a way.
  goes_reach : (x y w : ℕ) → GoesTo x y w → Reaches On x y
  goes_reach x y w goes = elim goes.rest [
    | inl same ↦ ([], subst (On x) same goes.on)
    | inr way ↦ (w ∷ way.0, (goes.on, way.1))
  ]

  -- It can be told whether a way goes first to some row.
  goes_or_not : (x y w : ℕ) → On x w ⊎ (On x w → ⊥) → (On x w → Reaches On w y ⊎ (Reaches On w y → ⊥)) → GoesTo x y w ⊎ (GoesTo x y w → ⊥)
  goes_or_not x y w (inr off) more = inr (λ goes. off goes.on)
  goes_or_not x y w (inl on) more = elim (more on) [
    | inl way ↦ inl (record { on = on; rest = inr way })
    | inr no_way ↦ at (w == y) refl no_way
  ] where
    at : (t : Bool) → (w == y) ≡ t → (Reaches On w y → ⊥) → GoesTo x y w ⊎ (GoesTo x y w → ⊥)
    at true e no_way = inl (record { on = on; rest = inl ((unsigned_Decides w y).0 e) })
    at false e no_way = inr (λ goes. elim goes.rest [
      | inl same ↦ true≢false (sym ((unsigned_Decides w y).1 same) ∙ e)
      | inr way ↦ no_way way
    ])

  -- whether one leads to another
  pub reach_or_not : (y x : ℕ) (r : Row) → row_of rows x ≡ Some r → Reaches On x y ⊎ (Reaches On x y → ⊥)
  reach_or_not y x r lives =
      follow rows On there acyclic (λ x. Reaches On x y ⊎ (Reaches On x y → ⊥))
      (λ x more. elim (search_below next (GoesTo x y) (λ w. goes_or_not x y w (decide x w) (more w))) [
        | inl found ↦ inl (goes_reach x y found.0 found.1)
        | inr none ↦ inr (λ way.
            let first : (w : ℕ) × GoesTo x y w = goes_first x y way.0 way.1 in
            let row : (s : Row) × (row_of rows first.0 ≡ Some s) = there x first.0 first.1.on in
            none first.0 (within first.0 row.0 row.1) first.1)
      ]) x r lives
