-- The names down to rows, in two trees in which rows stand alike.
use Rattle.std.proofs.Common.{◌≡◌, ℕ, zero, suc, ◌<◌, List, ◌++◌, length, Option, Some, None, option_to_list, refl, sym, ◌∙◌, ap, arith}
use Rattle.cm_names.specs.declared.child.ChildName.{ChildName}
use Rattle.cm_names.specs.declared.moniker.Moniker.{Moniker}
use Rattle.cm_facts.proofs.Numbers.{lt_of_lt_suc}
use Rattle.cm_world.specs.declared.row.Row.{Row}
use Rattle.cm_world.specs.End.{changed}
use Rattle.cm_world.specs.Rows.{row_of, names_to, moniker_of}
use Rattle.cm_world.specs.RowsInside.{child_behind}
use Rattle.cm_world.specs.Sound.{IsOrderly, IsParent}
use Rattle.cm_world.proofs.lemmas.trees.Climbing.{names_to-step, names_root}
use Rattle.cm_table.proofs.lemmas.tree.Leaves.{without, was_there, orderly_without}
use Rattle.cm_trees.proofs.rows.Orderly.{IsKeeping, kept_name, kept_parent}
use Rattle.cm_trees.proofs.rows.Rows.{lives_left, Becomes, becomes_after}

-- the row of an incarnation in another tree, which has the same parent and the same name
pub record IsNamesake (b : List Row) (i : ℕ) (r : Row) : Type 0 where
  pub row : Row
  pub lives : row_of b i ≡ Some row
  pub parent : row.parent ≡ r.parent
  pub name : row.name ≡ r.name

-- The moniker of these names.
abbrev moniker_with : List ChildName → Moniker
moniker_with l = record { parts = l }

module _ (a b : List Row) (na nb : ℕ) (oa : IsOrderly a na) (ob : IsOrderly b nb) (twins : (i : ℕ) (r : Row) → row_of a i ≡ Some r → IsNamesake b i r) where
  -- The names down to a row's parent are the same in both trees, where those of lower rows are.
  names_by : (i : ℕ) (r : Row) (u : Option ℕ) → row_of a i ≡ Some r → r.parent ≡ u → ((p : ℕ) (q : Row) → p < i → row_of a p ≡ Some q → names_to (length b) b (Some p) ≡ names_to (length a) a (Some p)) → names_to (length b) b u ≡ names_to (length a) a u
  names_by i r None here up later = names_root (length b) b ∙ sym (names_root (length a) a)
  names_by i r (Some p) here up later = let q : IsParent a p i = (oa.parents i p r here up).0 in later p q.row q.lower q.lives

  -- The names down to a row are the same in both trees, for each incarnation below a bound.
  names_below : (n i : ℕ) (r : Row) → i < n → row_of a i ≡ Some r → names_to (length b) b (Some i) ≡ names_to (length a) a (Some i)
  names_below zero i r low here = absurd (omega arith)
  names_below (suc n) i r low here =
      let t : IsNamesake b i r = twins i r here in
      names_to-step b nb i t.row ob t.lives
      ∙ ap (λ m. names_to (length b) b t.row.parent ++ option_to_list m) t.name
      ∙ ap (λ u. names_to (length b) b u ++ option_to_list r.name) t.parent
      ∙ ap (λ l. l ++ option_to_list r.name) (names_by i r r.parent here refl (λ p q less lives. names_below n p q (lt_of_lt_suc p i n less low) lives))
      ∙ sym (names_to-step a na i r oa here)

  -- Where each row has a namesake in another tree, a living row has the same moniker there.
  pub moniker_same : (i : ℕ) (r : Row) → row_of a i ≡ Some r → moniker_of b i ≡ moniker_of a i
  moniker_same i r here = ap moniker_with (names_below (suc i) i r (omega arith) here)

-- one row is changed, but for its place
pub moniker_changed : (f : Row → Row) (rows : List Row) (next x i : ℕ) (r : Row) → IsKeeping f → IsOrderly rows next → IsOrderly (changed x f rows) next → row_of rows i ≡ Some r → moniker_of (changed x f rows) i ≡ moniker_of rows i
moniker_changed f rows next x i r k o on here =
    moniker_same rows (changed x f rows) next next o on
    (λ j s lives. let b : Becomes f (row_of (changed x f rows) j) s = becomes_after x f k.inc rows j s lives in
    record { row = b.row; lives = b.lives; parent = kept_parent f k b.row s b.is; name = kept_name f k b.row s b.is }) i r here

-- a row without children is taken away
pub moniker_left : (rows : List Row) (next leaf i : ℕ) (r : Row) → IsOrderly rows next → child_behind rows leaf None ≡ None → row_of (without leaf rows) i ≡ Some r → moniker_of rows i ≡ moniker_of (without leaf rows) i
moniker_left rows next leaf i r o childless here =
    moniker_same (without leaf rows) rows next next (orderly_without rows next leaf o childless) o
    (λ j s lives. record { row = s; lives = was_there leaf next j rows s o.increasing lives; parent = refl; name = refl }) i r here

-- A row's moniker stays where rows come behind.
pub moniker_before : (xs ys : List Row) (next more i : ℕ) (r : Row) → IsOrderly xs next → IsOrderly (xs ++ ys) more → row_of xs i ≡ Some r → moniker_of (xs ++ ys) i ≡ moniker_of xs i
moniker_before xs ys next more i r o on here =
    moniker_same xs (xs ++ ys) next more o on
    (λ j s lives. record { row = s; lives = lives_left xs ys j s lives; parent = refl; name = refl }) i r here

-- The moniker of a child has the names of its parent's and then its own.
pub moniker_child : (rows : List Row) (next i p : ℕ) (r : Row) → IsOrderly rows next → row_of rows i ≡ Some r → r.parent ≡ Some p → moniker_of rows i ≡ record { parts = (moniker_of rows p).parts ++ option_to_list r.name }
moniker_child rows next i p r o here up =
    ap moniker_with (names_to-step rows next i r o here ∙ ap (λ u. names_to (length rows) rows u ++ option_to_list r.name) up)
