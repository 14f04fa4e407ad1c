use Rattle.std.proofs.Common.{◌≡◌, ℕ, suc, ◌<◌, length, List, [], ◌∷◌, Bool, true, false, ◌&&◌, Some, refl, sym, ◌∙◌, ap, subst, IsTrue, inl, inr, arith}
use Rattle.std.specs.Prelude.{slice_get, count_by, filter, if◌then◌else◌}
use Rattle.std.proofs.lemmas.List.Sums.{length-filter}
use Rattle.cm_decl.specs.declared.decl.Decl.{Decl}
use Rattle.cm_decl.specs.declared.node.DynChild.{DynChild}
use Rattle.cm_decl.specs.declared.node.Node.{Node}
use Rattle.cm_decl.specs.Same.{same_node}
use Rattle.cm_decl.specs.Reach.{DependencyPath, NoCycle}
use Rattle.cm_decl.specs.RealmGraph.{Directly}
use Rattle.cm_decl.specs.Graph.{is_node, is_from_node, sources_of, StrongOn}
use Rattle.cm_decl.specs.GraphInside.{IsTopologicalOrder, realm}
use Rattle.std.specs.List.{list_any}
use Rattle.std.specs.Cmp.{first_so, second_so}
use Rattle.cm_decl.proofs.lemmas.Sameness.{same_node_exact}

-- the two ends of a strong edge are nodes
pub edge_nodes : (d : Decl) (dynamic : List DynChild) (x y : Node) → StrongOn d dynamic x y → IsTrue (is_node d dynamic x) × IsTrue (is_node d dynamic y)
edge_nodes d dynamic x y h =
    let by : Bool = list_any (is_from_node y) (sources_of d dynamic x) in (
      second_so by (is_node d dynamic x) (first_so (by && is_node d dynamic x) (is_node d dynamic y) h),
      second_so (by && is_node d dynamic x) (is_node d dynamic y) h,
    )

-- Both ends of an edge, be it strong or implied, are nodes.
pub direct_nodes : (d : Decl) (dynamic : List DynChild) (x y : Node) → Directly (realm d dynamic) x y → IsTrue (is_node d dynamic x) × IsTrue (is_node d dynamic y)
direct_nodes d dynamic x y (inl strong) = edge_nodes d dynamic x y strong
direct_nodes d dynamic x y (inr implied) =
    (implied.node, subst (λ z. IsTrue (is_node d dynamic z)) (sym implied.own) refl)

-- A node that is counted once in an order stands at some place of it.
stands_in : (x : Node) (order : List Node) → length (filter (same_node x) order) ≡ 1 → (i : ℕ) × (slice_get order i ≡ Some x)
stands_in x [] h = absurd (omega arith)
stands_in x (y ∷ ys) h = found (same_node x y) refl (stands_in x ys)
  where
    found : (b : Bool) → same_node x y ≡ b → (length (filter (same_node x) ys) ≡ 1 → (i : ℕ) × (slice_get ys i ≡ Some x)) → (i : ℕ) × (slice_get (y ∷ ys) i ≡ Some x)
    found true same later = (0, ap Some (sym (same_node_exact x y same)))
    found false other later =
        let fewer : length (filter (same_node x) ys) ≡ 1 = rw other at h in
        let rest : (i : ℕ) × (slice_get ys i ≡ Some x) = later fewer in (suc rest.0, rest.1)

-- a node that is counted stands somewhere
pub stands_somewhere : (x : Node) (order : List Node) → count_by (same_node x) order ≡ 1 → (i : ℕ) × (slice_get order i ≡ Some x)
stands_somewhere x order h = stands_in x order (length-filter (same_node x) order ∙ h)

-- what is reached from a node stands behind it
behind : (d : Decl) (dynamic : List DynChild) (order : List Node) → IsTopologicalOrder (realm d dynamic) order → (x : Node) (i : ℕ) → slice_get order i ≡ Some x → (between : List Node) (y : Node) (j : ℕ) → slice_get order j ≡ Some y → DependencyPath (Directly (realm d dynamic)) x between y → i < j
behind d dynamic order is x i at [] y j there on = is.before x y i j at there on
behind d dynamic order is x i at (z ∷ zs) y j there way =
    let middle : (k : ℕ) × (slice_get order k ≡ Some z) = stands_somewhere z order (is.once z ∙ ap (λ b. if b then 1 else 0) (direct_nodes d dynamic x z way.0).1) in
    let first : i < middle.0 = is.before x z i middle.0 at middle.1 way.0 in
    let rest : middle.0 < j = behind d dynamic order is z middle.0 middle.1 zs y j there way.1 in
    omega arith

-- The first node of a way of dependencies is a node of the realm.
first_node : (d : Decl) (dynamic : List DynChild) (x : Node) (between : List Node) (y : Node) → DependencyPath (Directly (realm d dynamic)) x between y → IsTrue (is_node d dynamic x)
first_node d dynamic x [] y on = (direct_nodes d dynamic x y on).0
first_node d dynamic x (z ∷ zs) y way = (direct_nodes d dynamic x z way.0).0

-- a realm graph that has an order has no cycle
pub ordered_acyclic : (d : Decl) (dynamic : List DynChild) (order : List Node) → IsTopologicalOrder (realm d dynamic) order → NoCycle (Directly (realm d dynamic))
ordered_acyclic d dynamic order is (x, (between, way)) =
    let here : (i : ℕ) × (slice_get order i ≡ Some x) = stands_somewhere x order (is.once x ∙ ap (λ b. if b then 1 else 0) (first_node d dynamic x between x way)) in
    let lower : here.0 < here.0 = behind d dynamic order is x here.0 here.1 between x here.0 here.1 way in
    absurd (omega arith)
