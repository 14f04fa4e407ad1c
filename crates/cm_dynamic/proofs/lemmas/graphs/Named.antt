-- The child of a name in a collection: the one row that gives the name what it was given.
use Rattle.std.proofs.Common.{◌≡◌, ℕ, ◌<◌, List, [], ◌∷◌, ◌++◌, Bool, true, false, cond, not, ◌&&◌, ◌||◌, ◌==◌, true≢false, Option, Some, None, IsTrue, is_some, find, map, option_map, option_and_then, refl, sym, ◌∙◌, ap, arith, inl, inr}
use Rattle.std.specs.List.{list_any, cons_option}
use Rattle.std.proofs.lemmas.Bool.{eq-eqb, ne_eqb, and_from as and_pair, not-true, or_cases}
use Rattle.std.proofs.lemmas.List.Folds.{list_any-append}
use Rattle.std.specs.Cmp.{first_so, second_so}
use Rattle.cm_names.specs.declared.child.ChildName.{ChildName}
use Rattle.cm_facts.proofs.Options.{option_eq_some}
use Rattle.cm_decl.specs.declared.rows.Give.{Give}
use Rattle.cm_decl.specs.declared.node.DynChild.{DynChild}
use Rattle.cm_decl.specs.declared.node.Node.TheVariants.{Child}
use Rattle.cm_decl.specs.Same.{same_child, same_node}
use Rattle.cm_decl.specs.Graph.{dynamic_node, gives_of}
use Rattle.cm_decl.proofs.lemmas.Sameness.{never, same_child_exact}
use Rattle.cm_world.specs.declared.row.Row.{Row}
use Rattle.cm_world.specs.Rows.{row_of, child_of, has_parent, has_name}
use Rattle.cm_world.specs.Sound.{IncarnationsIncrease, IsOrderly}
use Rattle.cm_world.specs.Create.{dynamic_by, dynamic_of, dynamic_children}
use Rattle.cm_world.proofs.lemmas.trees.Finding.{some_same, none_some, find-passes}
use Rattle.cm_world.proofs.lemmas.trees.Walks.{find-lives}
use Rattle.cm_trees.proofs.trees.Standing.{find_some}
use Rattle.cm_trees.proofs.names.Naming.{some_name, name_some}

-- ---- children by their name

-- whether one of the children has that name and passes
abbrev pub has_one : (DynChild → Bool) → ChildName → List DynChild → Bool
has_one q c ks = list_any (λ k. same_child k.name c && q k) ks

-- Whether a node is that of a dynamic child is whether one has its name.
pub node_named : (c : ChildName) (ks : List DynChild) → list_any (λ n. same_node n (Child c)) (map dynamic_node ks) ≡ has_one (λ k. true) c ks
node_named c [] = refl
node_named c (k ∷ ks) = by (same_child k.name c) (node_named c ks) where
  by : (b : Bool) → list_any (λ n. same_node n (Child c)) (map dynamic_node ks) ≡ has_one (λ k. true) c ks → (b || list_any (λ n. same_node n (Child c)) (map dynamic_node ks)) ≡ ((b && true) || has_one (λ k. true) c ks)
  by true e = refl
  by false e = e

-- One of two tests still holds where the second is put by what follows from it.
or_later : (t x y : Bool) → (IsTrue x → IsTrue y) → IsTrue (t || x) → IsTrue (t || y)
or_later true x y later it = refl
or_later false x y later it = later it

-- what the children of a name were given, one of them was given
pub given_named : (test : Give → Bool) (c : ChildName) (ks : List DynChild) → IsTrue (list_any test (gives_of ks c)) → IsTrue (has_one (λ k. list_any test k.gives) c ks)
given_named test c [] any = never any
given_named test c (k ∷ ks) any = by (same_child k.name c) refl (given_named test c ks) where
  by : (b : Bool) → same_child k.name c ≡ b → (IsTrue (list_any test (gives_of ks c)) → IsTrue (has_one (λ k. list_any test k.gives) c ks)) → IsTrue (has_one (λ k. list_any test k.gives) c (k ∷ ks))
  by true e later =
      let parts : IsTrue (list_any test (k.gives ++ gives_of ks c)) = rw e at any in
      rw e (or_later (list_any test k.gives) (list_any test (gives_of ks c)) (has_one (λ k. list_any test k.gives) c ks) later (sym (list_any-append test k.gives (gives_of ks c)) ∙ parts))
  by false e later = rw e (later (rw e at any))

-- ---- rows

-- a row that isn't doomed and is a child of p of that name, and passes
pub record IsKin (rows : List Row) (p : ℕ) (c : ChildName) (q : List Give → Bool) : Type 0 where
  pub row : Row
  pub lives : row_of rows row.inc ≡ Some row
  pub parent : IsTrue (has_parent p row)
  pub name : row.name ≡ Some c
  pub kept : row.doomed ≡ false
  pub passes : IsTrue (q row.gives)

-- A first row that is a child of the name, isn't doomed and passes is the one that is sought.
kin_here : (next p : ℕ) (c : ChildName) (q : List Give → Bool) (r : Row) (rs : List Row) → IsTrue (has_parent p r) → r.name ≡ Some c → r.doomed ≡ false → IsTrue (q r.gives) → IsKin (r ∷ rs) p c q
kin_here next p c q r rs parent name kept passes = record {
  row = r;
  lives = ap (λ b. cond b (Some r) (row_of rs r.inc)) (eq-eqb r.inc r.inc refl);
  parent = parent;
  name = name;
  kept = kept;
  passes = passes;
}

-- A later row that is a child of the name and passes is still the one with a row in front.
kin_later : (next p : ℕ) (c : ChildName) (q : List Give → Bool) (r : Row) (rs : List Row) → IncarnationsIncrease next (r ∷ rs) → IsKin rs p c q → IsKin (r ∷ rs) p c q
kin_later next p c q r rs increasing it =
    let less : r.inc < it.row.inc = increasing.0.1 it.row.inc (ap is_some it.lives) in
    record {
      row = it.row;
      lives = ap (λ b. cond b (Some r) (row_of rs it.row.inc)) (ne_eqb r.inc it.row.inc (λ same. absurd (omega arith))) ∙ it.lives;
      parent = it.parent;
      name = it.name;
      kept = it.kept;
      passes = it.passes;
    }

-- Where a child of the name in a collection passes, a row of it does, row by row.
kin_of : (p next : ℕ) (c : ChildName) (q : List Give → Bool) (r : Row) (rs : List Row) (o : Option ChildName) → r.name ≡ o → IncarnationsIncrease next (r ∷ rs) → (IsTrue (has_one (λ k. q k.gives) c (dynamic_children rs p)) → IsKin rs p c q) → IsTrue (has_one (λ k. q k.gives) c (cons_option (option_and_then (dynamic_by p r) o) (dynamic_children rs p))) → IsKin (r ∷ rs) p c q
kin_of p next c q r rs None e increasing later any = kin_later next p c q r rs increasing (later any)
kin_of p next c q r rs (Some n) e increasing later any = by (has_parent p r && is_some n.coll && not r.doomed) refl any where
  by : (t : Bool) → (has_parent p r && is_some n.coll && not r.doomed) ≡ t → IsTrue (has_one (λ k. q k.gives) c (cons_option (cond t (Some (record { name = n; gives = r.gives })) None) (dynamic_children rs p))) → IsKin (r ∷ rs) p c q
  by false f some = kin_later next p c q r rs increasing (later some)
  by true f some = elim (or_cases (same_child n c && q r.gives) (has_one (λ k. q k.gives) c (dynamic_children rs p)) some) [
    | inl here ↦ kin_here next p c q r rs
        (first_so (has_parent p r) (is_some n.coll) (first_so (has_parent p r && is_some n.coll) (not r.doomed) f))
        (e ∙ ap Some (same_child_exact n c (first_so (same_child n c) (q r.gives) here)))
        (not-true r.doomed (second_so (has_parent p r && is_some n.coll) (not r.doomed) f))
        (second_so (same_child n c) (q r.gives) here)
    | inr more ↦ kin_later next p c q r rs increasing (later more)
  ]

-- Where a child of the name in a collection passes, a row of it does.
kin_in : (rows : List Row) (next p : ℕ) (c : ChildName) (q : List Give → Bool) → IncarnationsIncrease next rows → IsTrue (has_one (λ k. q k.gives) c (dynamic_children rows p)) → IsKin rows p c q
kin_in [] next p c q increasing any = never any
kin_in (r ∷ rs) next p c q increasing any = kin_of p next c q r rs r.name refl increasing (kin_in rs next p c q increasing.1) any

-- ---- the one that is found

-- the child that is found by the name passes
pub record IsNamed (rows : List Row) (p : ℕ) (c : ChildName) (q : List Give → Bool) : Type 0 where
  pub row : Row
  pub lives : row_of rows row.inc ≡ Some row
  pub found : child_of rows p c ≡ Some row.inc
  pub passes : IsTrue (q row.gives)

-- Where some child of a name passes in a collection, the row found by that name is one that passes.
pub named : (rows : List Row) (next p : ℕ) (c : ChildName) (q : List Give → Bool) → IsOrderly rows next → IsTrue (has_one (λ k. q k.gives) c (dynamic_children rows p)) → IsNamed rows p c q
named rows next p c q orderly any =
    let it : IsKin rows p c q = kin_in rows next p c q orderly.increasing any in
    let test : Row → Bool = λ r. has_parent p r && has_name c r && not r.doomed in
    let passes : IsTrue (test it.row) =
    and_pair (has_parent p it.row && has_name c it.row) (not it.row.doomed)
    (and_pair (has_parent p it.row) (has_name c it.row) it.parent (name_some it.row.name c it.name)) (ap not it.kept) in
    let first : (r : Row) × (find test rows ≡ Some r) = find_some test rows it.row.inc it.row it.lives passes in
    let lives : row_of rows first.0.inc ≡ Some first.0 = find-lives test rows next first.0 orderly.increasing first.1 in
    let also : IsTrue (test first.0) = find-passes test rows first.0 first.1 in
    let both : IsTrue (has_parent p first.0 && has_name c first.0) = first_so (has_parent p first.0 && has_name c first.0) (not first.0.doomed) also in
    let same : first.0.inc ≡ it.row.inc =
    orderly.one_name first.0.inc it.row.inc first.0 it.row lives it.lives
    (not-true first.0.doomed (second_so (has_parent p first.0 && has_name c first.0) (not first.0.doomed) also)) it.kept
    (option_eq_some first.0.parent p (first_so (has_parent p first.0) (has_name c first.0) both) ∙ sym (option_eq_some it.row.parent p it.parent))
    (some_name first.0.name c (second_so (has_parent p first.0) (has_name c first.0) both) ∙ sym it.name) in
    record {
      row = it.row;
      lives = it.lives;
      found = ap (option_map (λ (r : Row). r.inc)) first.1 ∙ ap Some same;
      passes = it.passes;
    }
