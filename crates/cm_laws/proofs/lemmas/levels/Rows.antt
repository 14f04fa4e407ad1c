-- Rows that are left by a filter, rows of declared children, and children in collections.
use Rattle.std.proofs.Common.{◌≡◌, ℕ, ◌+◌, ◌≤◌, List, [], ◌∷◌, ◌++◌, Bool, true, false, cond, not, ◌&&◌, ◌==◌, Option, Some, None, IsTrue, filter, flat_map, is_some, option_and_then, refl, ◌∙◌, ap, subst, arith}
use Rattle.std.specs.List.{list_any, cons_option}
use Rattle.cm_names.specs.declared.child.ChildName.{ChildName}
use Rattle.cm_facts.proofs.Options.{cond_some_more, is_some_true}
use Rattle.cm_decl.specs.declared.rows.Child.{Child as DeclaredChild}
use Rattle.cm_decl.specs.declared.rows.Give.{Give}
use Rattle.cm_decl.specs.declared.node.DynChild.{DynChild}
use Rattle.cm_decl.specs.declared.node.Node.TheVariants.{Child}
use Rattle.cm_decl.specs.Same.{same_child}
use Rattle.cm_decl.specs.Graph.{static_name}
use Rattle.cm_decl.proofs.lemmas.Sameness.{same_node-refl}
use Rattle.cm_world.specs.declared.row.Row.{Row}
use Rattle.cm_world.specs.Rows.{row_of, has_parent}
use Rattle.cm_world.specs.RowsInside.{is_behind}
use Rattle.cm_world.specs.End.{child_row, child_rows}
use Rattle.cm_world.specs.Create.{dynamic_children}
use Rattle.cm_world.specs.Sound.{IncarnationsIncrease}
use Rattle.cm_world.proofs.lemmas.trees.Finding.{none_some, some_same}
use Rattle.cm_trees.proofs.rows.Rows.{is_some_by}
use Rattle.cm_trees.specs.Names.{dynamic_child, dynamic_children as listed_children}
use Rattle.cm_trees.proofs.trees.Trees.{or_left, or_right}
use Rattle.cm_trees.proofs.names.Listing.{row_later}

-- ---- rows that are left

module _ (t : Row → Bool) where
  -- a row that is left was there
  pub left_lives : (rows : List Row) (next x : ℕ) (r : Row) → IncarnationsIncrease next rows → row_of (filter t rows) x ≡ Some r → row_of rows x ≡ Some r
  left_lives [] next x r increasing lives = absurd (none_some r lives)
  left_lives (s ∷ ss) next x r increasing lives = by (t s) refl (left_lives ss next x r increasing.1) where
    by : (b : Bool) → t s ≡ b → (row_of (filter t ss) x ≡ Some r → row_of ss x ≡ Some r) → row_of (s ∷ ss) x ≡ Some r
    by true e later = cond_some_more (s.inc == x) s r (row_of (filter t ss) x) (row_of ss x) later (rw e at lives)
    by false e later =
        let behind : row_of ss x ≡ Some r = later (rw e at lives) in
        row_later s ss x r behind (increasing.0.1 x (is_some_by (row_of ss x) r behind))

  -- those that are left rise
  pub left_increasing : (rows : List Row) (next : ℕ) → IncarnationsIncrease next rows → IncarnationsIncrease next (filter t rows)
  left_increasing [] next increasing = tt
  left_increasing (s ∷ ss) next increasing = by (t s) refl (left_increasing ss next increasing.1) where
    by : (b : Bool) → t s ≡ b → IncarnationsIncrease next (filter t ss) → IncarnationsIncrease next (filter t (s ∷ ss))
    by true e later =
        rw e (
          (
            increasing.0.0,
            λ x some. let row : (r : Row) × (row_of (filter t ss) x ≡ Some r) = is_some_true (row_of (filter t ss) x) some in
                increasing.0.1 x (is_some_by (row_of ss x) row.0 (left_lives ss next x row.0 increasing.1 row.1)),
          ),
          later,
        )
    by false e later = rw e later

-- ---- rows of declared children

-- the row of one of these declared children
pub record IsNewKid (parent first : ℕ) (ks : List DeclaredChild) (r : Row) : Type 0 where
  pub under : r.parent ≡ Some parent
  pub undeclared : r.decl ≡ None
  pub ungiven : r.gives ≡ []
  pub above : first ≤ r.inc
  pub declared : (c : ChildName) → r.name ≡ Some c → IsTrue (list_any (λ k. same_child (static_name k.name) c) ks)

-- The row of the first declared child is one of a new child.
head_kid : (parent first : ℕ) (k : DeclaredChild) (ks : List DeclaredChild) → IsNewKid parent first (k ∷ ks) (child_row parent first k)
head_kid parent first k ks = record {
  under = refl;
  undeclared = refl;
  ungiven = refl;
  above = omega arith;
  declared = λ c name. or_left (same_child (static_name k.name) c) (list_any (λ k. same_child (static_name k.name) c) ks)
      (subst (λ b. IsTrue (same_child (static_name k.name) b)) (some_same (static_name k.name) c name) (same_node-refl (Child (static_name k.name))));
}

-- The row of a new child is so with one more declared before it.
later_kid : (parent first : ℕ) (k : DeclaredChild) (ks : List DeclaredChild) (r : Row) → IsNewKid parent (first + 1) ks r → IsNewKid parent first (k ∷ ks) r
later_kid parent first k ks r is = record {
  under = is.under;
  undeclared = is.undeclared;
  ungiven = is.ungiven;
  above = let above : first + 1 ≤ r.inc = is.above in omega arith;
  declared = λ c name. or_right (same_child (static_name k.name) c) (list_any (λ k. same_child (static_name k.name) c) ks) (is.declared c name);
}

-- a row that lives among those of declared children is one of them
pub new_kid : (parent first : ℕ) (ks : List DeclaredChild) (x : ℕ) (r : Row) → row_of (child_rows parent first ks) x ≡ Some r → IsNewKid parent first ks r
new_kid parent first [] x r lives = absurd (none_some r lives)
new_kid parent first (k ∷ ks) x r lives = by (first == x) refl (new_kid parent (first + 1) ks x r) where
  by : (b : Bool) → (first == x) ≡ b → (row_of (child_rows parent (first + 1) ks) x ≡ Some r → IsNewKid parent (first + 1) ks r) → IsNewKid parent first (k ∷ ks) r
  by true e later = subst (IsNewKid parent first (k ∷ ks)) (some_same (child_row parent first k) r (rw e at lives)) (head_kid parent first k ks)
  by false e later = later_kid parent first k ks r (later (rw e at lives))

-- ---- children in collections

-- A child in a collection stands before the rest where it isn't doomed, and else nothing does.
one_by : (u t : Bool) (k : DynChild) (rest : List DynChild) → cons_option (cond (u && not t) (Some k) None) rest ≡ cond t [] (cond u (k ∷ []) []) ++ rest
one_by true true k rest = refl
one_by true false k rest = refl
one_by false true k rest = refl
one_by false false k rest = refl

-- Nothing, doomed or not, before the rest is the rest.
none_by : (t : Bool) (rest : List DynChild) → rest ≡ cond {A = List DynChild} t [] [] ++ rest
none_by true rest = refl
none_by false rest = refl

-- What a row is as a child in a collection, by its name, stands before the rest.
child_by : (b t : Bool) (gives : List Give) (o : Option ChildName) (rest : List DynChild) → cons_option (option_and_then (λ c. cond ((b && is_some c.coll) && not t) (Some (record { name = c; gives = gives })) None) o) rest ≡ cond b (cond t [] (elim o as (λ _. List DynChild) [ None ↦ [] | Some c ↦ cond (is_some c.coll) (record { name = c; gives = gives } ∷ []) [] ]) ++ rest) rest
child_by false t gives None rest = refl
child_by false t gives (Some c) rest = refl
child_by true t gives None rest = none_by t rest
child_by true t gives (Some c) rest = one_by (is_some c.coll) t (record { name = c; gives = gives }) rest

-- The children in collections among the rows that are kept are theirs, row by row.
flat_by : (b : Bool) (r : Row) (rs : List Row) → cond b (dynamic_child r ++ flat_map dynamic_child rs) (flat_map dynamic_child rs) ≡ flat_map dynamic_child (cond (b && true) (r ∷ rs) rs)
flat_by true r rs = refl
flat_by false r rs = refl

-- those that are listed row by row are those of the children of p
pub same_children : (rows : List Row) (p : ℕ) → dynamic_children rows p ≡ listed_children rows p
same_children [] p = refl
same_children (r ∷ rs) p =
    child_by (has_parent p r) r.doomed r.gives r.name (dynamic_children rs p)
    ∙ ap (λ l. cond (has_parent p r) (dynamic_child r ++ l) l) (same_children rs p)
    ∙ flat_by (has_parent p r) r (filter (λ r. has_parent p r && is_behind None r.inc) rs)
