use Rattle.std.proofs.Common.{◌≡◌, ℕ, ◌<◌, List, length, ◌&&◌, refl, sym, ◌∙◌, subst, IsTrue, inl, inr, arith, Less}
use Rattle.std.specs.Prelude.{nat_lt}
use Rattle.std.specs.List.{list_any}
use Rattle.std.proofs.lemmas.Bool.{cases_lt}
use borrow.Author.Tests.{ltb-true, lt-ltb}
use Rattle.std.proofs.lemmas.Bool.{and_from as and_pair}
use Rattle.std.specs.Cmp.{first_so, second_so}
use Rattle.cm_decl.specs.declared.decl.Decl.{Decl}
use Rattle.cm_decl.specs.declared.node.DynChild.{DynChild}
use Rattle.cm_decl.specs.declared.node.Node.{Node}
use Rattle.cm_decl.specs.declared.node.Node.TheVariants.{Own, Child}
use Rattle.cm_decl.specs.NodeOrder.{node_cmp}
use Rattle.cm_decl.specs.Graph.{is_node, is_from_node, sources_of, is_strong_edge}
use Rattle.cm_decl.specs.GraphInside.{realm}
use Rattle.cm_deps.specs.Edges.{On}
use Rattle.cm_deps.specs.Nodes.{at, IsNodes}
use Rattle.cm_deps.specs.Sources.{IsEdges}
use Rattle.cm_deps.proofs.lemmas.listed.Gathering.{held_inside}
use Rattle.cm_deps.proofs.lemmas.numbers.Increasing.{increasing_keys}
use Rattle.cm_deps.proofs.lemmas.listed.Topological.{IsRealmOf}
use Rattle.cm_deps.proofs.lemmas.numbers.Placing.{found_at, at_found}

-- nothing is less than the component itself
own_least : (x : Node) → node_cmp x Own ≡ Less → ⊥
own_least Own less = let never : ⊥ = cc in never
own_least (Child c) less = let never : ⊥ = cc in never

-- Numbered nodes and rows of a declaration are the numbered graph of its realm.
pub realm_of : (d : Decl) (dynamic : List DynChild) (nodes : List Node) (rows : List (List ℕ)) → IsNodes (is_node d dynamic) nodes → IsEdges d dynamic nodes rows → IsRealmOf nodes rows (realm d dynamic)
realm_of d dynamic nodes rows is edges = record {
  some = omega (arith, own.1);
  own = first;
  number = number;
  node = node;
  numbered = record {
    size = edges.size;
    below = λ i j on. (let high : j < length nodes = (held i j on).1 in omega (arith, edges.size));
    increasing = increasing_keys nodes is.increasing;
    on = λ i j on. (let both : (i < length nodes) × (j < length nodes) × IsTrue (list_any (is_from_node (at nodes j)) (sources_of d dynamic (at nodes i))) = held i j on in
        and_pair (list_any (is_from_node (at nodes j)) (sources_of d dynamic (at nodes i)) && is_node d dynamic (at nodes i)) (is_node d dynamic (at nodes j)) (and_pair (list_any (is_from_node (at nodes j)) (sources_of d dynamic (at nodes i))) (is_node d dynamic (at nodes i)) both.2 (node i both.0)) (node j both.1));
    from = from;
  };
}
  where
    number : (x : Node) → IsTrue (is_node d dynamic x) → (i : ℕ) × (i < length nodes) × (at nodes i ≡ x)
    number x has = found_at x nodes (is.all x ∙ has)

    node : (i : ℕ) → i < length nodes → IsTrue (is_node d dynamic (at nodes i))
    node i low = sym (is.all (at nodes i)) ∙ at_found (at nodes i) nodes i low refl

    own : (i : ℕ) × (i < length nodes) × (at nodes i ≡ Own)
    own = number Own refl

    first : at nodes 0 ≡ Own
    first = elim (cases_lt 0 own.0) as (λ _. at nodes 0 ≡ Own) [
      | inl behind ↦ absurd (own_least (at nodes 0) (subst (λ x. node_cmp (at nodes 0) x ≡ Less) own.2 (increasing_keys nodes is.increasing 0 own.0 behind own.1)))
      | inr here ↦ (let zero_is : own.0 ≡ 0 = omega arith in subst (λ k. at nodes k ≡ Own) zero_is own.2)
    ]

    held : (i j : ℕ) → On rows i j → (i < length nodes) × (j < length nodes) × IsTrue (list_any (is_from_node (at nodes j)) (sources_of d dynamic (at nodes i)))
    held i j on =
        let inside : i < length rows = held_inside rows i j on in
        let low : i < length nodes = omega (arith, edges.size) in
        let both : IsTrue (nat_lt j (length nodes) && list_any (is_from_node (at nodes j)) (sources_of d dynamic (at nodes i))) = sym (edges.sources i low j) ∙ on in
        (low, ltb-true j (length nodes) (first_so (nat_lt j (length nodes)) (list_any (is_from_node (at nodes j)) (sources_of d dynamic (at nodes i))) both), second_so (nat_lt j (length nodes)) (list_any (is_from_node (at nodes j)) (sources_of d dynamic (at nodes i))) both)

    from : (x y : Node) → IsTrue (is_strong_edge d dynamic x y) → (i : ℕ) × (j : ℕ) × (at nodes i ≡ x) × (at nodes j ≡ y) × On rows i j
    from x y edge =
        let pair : IsTrue (list_any (is_from_node y) (sources_of d dynamic x) && is_node d dynamic x) = first_so (list_any (is_from_node y) (sources_of d dynamic x) && is_node d dynamic x) (is_node d dynamic y) edge in
        let there : IsTrue (list_any (is_from_node y) (sources_of d dynamic x)) = first_so (list_any (is_from_node y) (sources_of d dynamic x)) (is_node d dynamic x) pair in
        let one : (i : ℕ) × (i < length nodes) × (at nodes i ≡ x) = number x (second_so (list_any (is_from_node y) (sources_of d dynamic x)) (is_node d dynamic x) pair) in
        let two : (j : ℕ) × (j < length nodes) × (at nodes j ≡ y) = number y (second_so (list_any (is_from_node y) (sources_of d dynamic x) && is_node d dynamic x) (is_node d dynamic y) edge) in (
          one.0,
          two.0,
          one.2,
          two.2,
          edges.sources one.0 one.1 two.0 ∙
              and_pair (nat_lt two.0 (length nodes)) (list_any (is_from_node (at nodes two.0)) (sources_of d dynamic (at nodes one.0))) (lt-ltb two.0 (length nodes) two.1)
              (subst (λ v. IsTrue (list_any (is_from_node v) (sources_of d dynamic (at nodes one.0)))) (sym two.2) (subst (λ v. IsTrue (list_any (is_from_node y) (sources_of d dynamic v))) (sym one.2) there)),
        )

-- the first of the nodes is the component itself
pub own_first : (d : Decl) (dynamic : List DynChild) (nodes : List Node) → IsNodes (is_node d dynamic) nodes → (0 < length nodes) × (at nodes 0 ≡ Own)
own_first d dynamic nodes is =
    let own : (i : ℕ) × (i < length nodes) × (at nodes i ≡ Own) = found_at Own nodes (is.all Own) in
    elim (cases_lt 0 own.0) as (λ _. (0 < length nodes) × (at nodes 0 ≡ Own)) [
      | inl behind ↦ absurd (own_least (at nodes 0) (subst (λ x. node_cmp (at nodes 0) x ≡ Less) own.2 (increasing_keys nodes is.increasing 0 own.0 behind own.1)))
      | inr here ↦ (let zero_is : own.0 ≡ 0 = omega arith in subst (λ k. (k < length nodes) × (at nodes k ≡ Own)) zero_is (own.1, own.2))
    ]
