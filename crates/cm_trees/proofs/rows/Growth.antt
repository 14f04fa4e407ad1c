-- Rows with more rows behind them.
use Rattle.std.proofs.Common.{◌≡◌, ℕ, ◌+◌, ◌<◌, List, [], ◌∷◌, ◌++◌, false, true≢false, Option, Some, None, IsSome, is_some, length, refl, sym, ◌∙◌, ap, subst, arith, append_assoc, append-nil, inl, inr, ◌⊎◌}
use Rattle.cm_names.specs.declared.child.ChildName.{ChildName}
use Rattle.cm_decl.specs.declared.decl.Decl.{Decl}
use Rattle.cm_decl.specs.declared.rows.Child.{Child}
use Rattle.cm_decl.specs.Graph.{static_name}
use Rattle.cm_decl.specs.Valid.{IsValid}
use Rattle.cm_world.specs.declared.row.Row.{Row}
use Rattle.cm_world.specs.Rows.{row_of}
use Rattle.cm_world.specs.End.{child_row, child_rows}
use Rattle.cm_world.specs.Sound.{IsOrderly, IsParent}
use Rattle.cm_world.proofs.lemmas.trees.Finding.{some_same, none_some}
use Rattle.cm_trees.proofs.rows.Rows.{lives_left, lives_pushed, lives_below, increasing_push}
use Rattle.cm_trees.proofs.rows.Siblings.{IsFresh, AreApart}

-- ---- one row more

-- a row that isn't resolved, under a row that is, with the next incarnation and a name that no living sibling has
pub record Joins (rows : List Row) (next : ℕ) (r : Row) : Type 0 where
  pub parent : ℕ
  pub under : r.parent ≡ Some parent
  pub row : Row
  pub lives : row_of rows parent ≡ Some row
  pub resolved : IsSome row.decl
  pub named : IsSome r.name
  pub undeclared : r.decl ≡ None
  pub unused : (j : ℕ) (s : Row) → row_of rows j ≡ Some s → s.doomed ≡ false → s.parent ≡ r.parent → s.name ≡ r.name → ⊥
  pub number : r.inc ≡ next

-- A row of those with one more that has no parent is the root, with incarnation 0 and no name.
pushed_root : (rows : List Row) (next i : ℕ) (r s : Row) → IsOrderly rows next → Joins rows next r → (row_of rows i ≡ Some s) ⊎ ((s ≡ r) × (r.inc ≡ i)) → s.parent ≡ None → (i ≡ 0) × (s.name ≡ None)
pushed_root rows next i r s o n (inl lives) none = o.root i s lives none
pushed_root rows next i r s o n (inr own) none = absurd (none_some n.parent (sym none ∙ ap (λ z. z.parent) own.0 ∙ n.under))

-- A row of those with one more that has a parent has one that lives, and has a name.
pushed_parents : (rows : List Row) (next i p : ℕ) (r s : Row) → IsOrderly rows next → Joins rows next r → (row_of rows i ≡ Some s) ⊎ ((s ≡ r) × (r.inc ≡ i)) → s.parent ≡ Some p → IsParent (rows ++ r ∷ []) p i × IsSome s.name
pushed_parents rows next i p r s o n (inl lives) up =
    let q : IsParent rows p i × IsSome s.name = o.parents i p s lives up in
    (record { row = q.0.row; lives = lives_left rows (r ∷ []) p q.0.row q.0.lives; resolved = q.0.resolved; lower = q.0.lower }, q.1)
pushed_parents rows next i p r s o n (inr own) up =
    let same : n.parent ≡ p = some_same n.parent p (sym n.under ∙ sym (ap (λ z. z.parent) own.0) ∙ up) in
    let low : n.parent < next = lives_below rows next n.parent n.row o.increasing n.lives in
    let is : i ≡ next = sym own.1 ∙ n.number in
    let parent : IsParent (rows ++ r ∷ []) n.parent i = record { row = n.row; lives = lives_left rows (r ∷ []) n.parent n.row n.lives; resolved = n.resolved; lower = subst (λ m. n.parent < m) (sym is) low } in
    (subst (λ z. IsParent (rows ++ r ∷ []) z i) same parent, subst (λ (z : Row). IsSome z.name) (sym own.0) n.named)

-- Rows of those with one more that are alike in parent and name, and not doomed, are one.
pushed_names : (rows : List Row) (next i j : ℕ) (r s t : Row) → IsOrderly rows next → Joins rows next r → (row_of rows i ≡ Some s) ⊎ ((s ≡ r) × (r.inc ≡ i)) → (row_of rows j ≡ Some t) ⊎ ((t ≡ r) × (r.inc ≡ j)) → s.doomed ≡ false → t.doomed ≡ false → s.parent ≡ t.parent → s.name ≡ t.name → i ≡ j
pushed_names rows next i j r s t o n (inl here) (inl there) ds dt up same = o.one_name i j s t here there ds dt up same
pushed_names rows next i j r s t o n (inl here) (inr own) ds dt up same = absurd (n.unused i s here ds (up ∙ ap (λ z. z.parent) own.0) (same ∙ ap (λ z. z.name) own.0))
pushed_names rows next i j r s t o n (inr own) (inl there) ds dt up same = absurd (n.unused j t there dt (sym up ∙ ap (λ z. z.parent) own.0) (sym same ∙ ap (λ z. z.name) own.0))
pushed_names rows next i j r s t o n (inr own) (inr other) ds dt up same = sym own.1 ∙ other.1

-- A declaration of those rows with one more is valid.
pushed_valid : (rows : List Row) (next i : ℕ) (r s : Row) (d : Decl) → IsOrderly rows next → Joins rows next r → (row_of rows i ≡ Some s) ⊎ ((s ≡ r) × (r.inc ≡ i)) → s.decl ≡ Some d → IsValid d
pushed_valid rows next i r s d o n (inl lives) e = o.valid i s d lives e
pushed_valid rows next i r s d o n (inr own) e = absurd (none_some d (sym n.undeclared ∙ sym (ap (λ z. z.decl) own.0) ∙ e))

-- rows stay orderly with such a row behind them
pub orderly_push : (rows : List Row) (next : ℕ) (r : Row) → IsOrderly rows next → Joins rows next r → IsOrderly (rows ++ r ∷ []) (next + 1)
orderly_push rows next r o n = record {
  increasing = increasing_push rows next r n.number o.increasing;
  root = λ i s lives. pushed_root rows next i r s o n (lives_pushed rows r s i lives);
  parents = λ i p s lives. pushed_parents rows next i p r s o n (lives_pushed rows r s i lives);
  one_name = λ i j s t here there. pushed_names rows next i j r s t o n (lives_pushed rows r s i here) (lives_pushed rows r t j there);
  valid = λ i s d lives. pushed_valid rows next i r s d o n (lives_pushed rows r s i lives);
}

-- ---- the rows of declared children

-- a name is none of these children's
IsUnused : Option ChildName → List Child → Type 0
IsUnused o [] = Unit {0}
IsUnused o (k ∷ ks) = (o ≡ Some (static_name k.name) → ⊥) × IsUnused o ks

-- Names of static children that are the same have the same text.
static_same : (a b : List ℕ) → Some (static_name a) ≡ Some (static_name b) → a ≡ b
static_same a b e = ap (λ z. z.name) (some_same (static_name a) (static_name b) e)

-- A name that is none of these children's is unused among them.
fresh_unused : (name : List ℕ) (ks : List Child) → IsFresh name ks → IsUnused (Some (static_name name)) ks
unfolding IsUnused
fresh_unused name [] fresh = tt
fresh_unused name (k ∷ ks) fresh = ((λ e. fresh.0 (static_same name k.name e)), fresh_unused name ks fresh.1)

-- no row under this parent has one of these names
AreUnused : List Row → ℕ → List Child → Type 0
AreUnused rows p ks = (j : ℕ) (s : Row) → row_of rows j ≡ Some s → s.parent ≡ Some p → IsUnused s.name ks

-- With a child's row added, the names of the further children are still unused.
unused_rest : (rows : List Row) (p next : ℕ) (k : Child) (ks : List Child) → AreUnused rows p (k ∷ ks) → IsFresh k.name ks → (j : ℕ) (s : Row) → (row_of rows j ≡ Some s) ⊎ ((s ≡ child_row p next k) × ((child_row p next k).inc ≡ j)) → s.parent ≡ Some p → IsUnused s.name ks
unfolding IsUnused AreUnused
unused_rest rows p next k ks unused fresh j s (inl lives) up = (unused j s lives up).1
unused_rest rows p next k ks unused fresh j s (inr own) up = subst (λ (z : Row). IsUnused z.name ks) (sym own.0) (fresh_unused k.name ks fresh)

-- The row of a child whose name is unused joins the rows, under a resolved parent.
child_joins : (rows : List Row) (p next : ℕ) (q : Row) (k : Child) (ks : List Child) → row_of rows p ≡ Some q → IsSome q.decl → AreUnused rows p (k ∷ ks) → Joins rows next (child_row p next k)
unfolding IsUnused AreUnused
child_joins rows p next q k ks lives resolved unused = record {
  parent = p;
  under = refl;
  row = q;
  lives = lives;
  resolved = resolved;
  named = refl;
  undeclared = refl;
  unused = λ j s here doomed up same. (unused j s here up).0 same;
  number = refl;
}

-- Orderly rows stay so with the rows of children whose names are apart and unused.
orderly_children : (ks : List Child) (rows : List Row) (p next : ℕ) (q : Row) → IsOrderly rows next → row_of rows p ≡ Some q → IsSome q.decl → AreUnused rows p ks → AreApart ks → IsOrderly (rows ++ child_rows p next ks) (next + length ks)
unfolding AreUnused
orderly_children [] rows p next q o lives resolved unused apart =
    let none : next ≡ next + 0 = omega arith in
    subst (λ n. IsOrderly (rows ++ []) n) none (subst (λ rs. IsOrderly rs next) (sym (append-nil rows)) o)
orderly_children (k ∷ ks) rows p next q o lives resolved unused apart =
    let step : IsOrderly (rows ++ child_row p next k ∷ []) (next + 1) = orderly_push rows next (child_row p next k) o (child_joins rows p next q k ks lives resolved unused) in
    let rest : IsOrderly ((rows ++ child_row p next k ∷ []) ++ child_rows p (next + 1) ks) (next + 1 + length ks) =
    orderly_children ks (rows ++ child_row p next k ∷ []) p (next + 1) q step (lives_left rows (child_row p next k ∷ []) p q lives) resolved
    (λ j s here up. unused_rest rows p next k ks unused apart.0 j s (lives_pushed rows (child_row p next k) s j here) up) apart.1 in
    let more : next + 1 + length ks ≡ next + length (k ∷ ks) = omega arith in
    subst (λ n. IsOrderly (rows ++ child_rows p next (k ∷ ks)) n) more
    (subst (λ rs. IsOrderly rs (next + 1 + length ks)) (append_assoc rows (child_row p next k ∷ []) (child_rows p (next + 1) ks)) rest)

-- where no row has this parent, and the names of the children are apart
pub orderly_with_children : (ks : List Child) (rows : List Row) (p next : ℕ) (q : Row) → IsOrderly rows next → row_of rows p ≡ Some q → IsSome q.decl → ((j : ℕ) (s : Row) → row_of rows j ≡ Some s → s.parent ≡ Some p → ⊥) → AreApart ks → IsOrderly (rows ++ child_rows p next ks) (next + length ks)
unfolding AreUnused
orderly_with_children ks rows p next q o lives resolved childless apart = orderly_children ks rows p next q o lives resolved (λ j s here up. absurd (childless j s here up)) apart

-- an unresolved row has no children
pub childless : (rows : List Row) (next p : ℕ) (q : Row) → IsOrderly rows next → row_of rows p ≡ Some q → q.decl ≡ None → (j : ℕ) (s : Row) → row_of rows j ≡ Some s → s.parent ≡ Some p → ⊥
childless rows next p q o lives unresolved j s here up =
    let parent : IsParent rows p j = (o.parents j p s here up).0 in
    let same : parent.row ≡ q = some_same parent.row q (sym parent.lives ∙ lives) in
    true≢false (sym (subst (λ (z : Row). IsSome z.decl) same parent.resolved) ∙ ap is_some unresolved)
