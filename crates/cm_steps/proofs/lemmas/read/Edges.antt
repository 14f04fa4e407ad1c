-- The strong edges of a level by names are edges of its rows, so they make no ring.
use Rattle.std.proofs.Common.{◌≡◌, ℕ, List, [], ◌∷◌, ◌&&◌, ◌==◌, nat_eq, true, false, Bool, Option, Some, None, IsTrue, is_some, option_and_then, refl, sym, ◌∙◌, ap, subst}
use Rattle.std.specs.List.{list_any}
use Rattle.std.specs.Option.{option_eq}
use Rattle.std.specs.Cmp.{first_so}
use Rattle.cm_names.specs.declared.child.ChildName.{ChildName}
use Rattle.cm_facts.proofs.Numbers.{eq_self}
use Rattle.cm_facts.proofs.Booleans.{true_and_false}
use Rattle.cm_facts.proofs.Options.{option_eq_some}
use Rattle.cm_facts.proofs.Lists.{list_any_agree}
use Rattle.cm_decl.specs.declared.decl.Decl.{Decl}
use Rattle.cm_decl.specs.declared.origin.Origin.{Origin}
use Rattle.cm_decl.specs.declared.origin.Origin.TheVariants as origin
use Rattle.cm_decl.specs.declared.node.Node.{Node}
use Rattle.cm_decl.specs.Same.{same_child}
use Rattle.cm_decl.specs.Reach.{DependencyPath, Reaches, NoCycle}
use Rattle.cm_decl.specs.Graph.{is_node, is_from_node, sources_of, child_sources, StrongOn}
use Rattle.cm_decl.proofs.lemmas.Sameness.{same_child_exact}
use Rattle.cm_decl.proofs.lemmas.orders.Orders.{edge_nodes}
use Rattle.cm_world.specs.declared.row.Row.{Row}
use Rattle.cm_world.specs.Rows.{row_of, is_live, decl_of, child_of}
use Rattle.cm_world.specs.Level.{is_child_row, is_level_node, row_sources, level_sources, is_from_row, LevelStrong}
use Rattle.cm_world.specs.Sound.{IsSound}
use Rattle.cm_world.proofs.lemmas.trees.Finding.{none_some}
use Rattle.cm_trees.specs.Kids.{IsKid}
use Rattle.cm_trees.specs.Names.{dynamic_children}
use Rattle.cm_trees.proofs.trees.Trees.{eq_some, or_left, and_pair, not_true}
use Rattle.cm_trees.proofs.levels.Nodes.{kid_node}
use Rattle.cm_trees.proofs.names.Naming.{IsNamed, itself, child, child_refl, name_once, not_itself, row_once, found_kid, kid_found, kid_not_own, node_row, gives_same}

-- A row that has a declaration is there.
live_by : (o : Option Row) (d : Decl) → option_and_then (λ r. r.decl) o ≡ Some d → IsTrue (is_some o)
live_by None d e = absurd (none_some d e)
live_by (Some r) d e = refl

module _ (rows : List Row) (next : ℕ) (sound : IsSound rows next) (p : ℕ) (d : Decl) (found : decl_of rows p ≡ Some d) where
  -- ---- strong edges

  -- whether a source is a row, and whether it is its node
  from_row : (y : ℕ) (m : Node) → IsNamed rows p y m → (s : Origin) → is_from_row rows p y s ≡ is_from_node m s
  from_row _ _ itself origin.Own = eq_self p
  from_row _ _ itself (origin.Child c) = not_true (option_eq nat_eq (child_of rows p c) (Some p)) (λ e. not_itself rows next sound.orderly p c (found_kid rows next sound.orderly p c p (option_eq_some (child_of rows p c) p e)))
  from_row _ _ itself origin.Parent = refl
  from_row _ _ itself origin.Framework = refl
  from_row _ _ itself origin.Void = refl
  from_row _ _ (child x c kid) origin.Own = kid_not_own rows next sound.orderly p x kid.kid
  from_row _ _ (child x c kid) (origin.Child e) = by (same_child e c) refl where
    by : (t : Bool) → same_child e c ≡ t → option_eq nat_eq (child_of rows p e) (Some x) ≡ same_child e c
    by true same = eq_some (child_of rows p e) x (ap (child_of rows p) (same_child_exact e c same) ∙ kid_found rows next sound.orderly p c x kid) ∙ sym same
    by false other =
        not_true (option_eq nat_eq (child_of rows p e) (Some x)) (λ is.
        let same : e ≡ c = name_once rows next sound.orderly p x e c (found_kid rows next sound.orderly p e x (option_eq_some (child_of rows p e) x is)) kid in
        true_and_false (same_child c c) (child_refl c) (subst (λ z. same_child z c ≡ false) same other)) ∙ sym other
  from_row _ _ (child x c kid) origin.Parent = refl
  from_row _ _ (child x c kid) origin.Framework = refl
  from_row _ _ (child x c kid) origin.Void = refl

  -- The sources of a child row are those of its name and its gives in the declaration.
  kid_sources : (x : ℕ) (c : ChildName) (kid : IsKid rows p x) → kid.row.name ≡ Some c → level_sources rows p x ≡ child_sources d c kid.row.gives
  kid_sources x c kid name =
      rw (found, level_sources) (rw (kid_not_own rows next sound.orderly p x kid)
      (ap (λ o. elim o as (λ _. List Origin) [ None ↦ [] | Some r ↦ row_sources d r ]) kid.lives ∙ ap (λ o. elim o as (λ _. List Origin) [ None ↦ [] | Some b ↦ child_sources d b kid.row.gives ]) name))

  -- A row that has a node has the sources of that node.
  same_sources : (x : ℕ) (n : Node) → IsNamed rows p x n → level_sources rows p x ≡ sources_of d (dynamic_children rows p) n
  same_sources _ _ itself = rw (found, level_sources) (rw (eq_self p) refl)
  same_sources _ _ (child x c kid) = kid_sources x c kid.kid kid.name ∙ ap (child_sources d c) (sym (gives_same rows next sound p d found x c kid))

  -- A row that has a node is a node of the level.
  level_node : (x : ℕ) (n : Node) → IsNamed rows p x n → IsTrue (is_level_node rows p x)
  level_node _ _ itself = or_left (p == p && is_live rows p) (is_child_row rows p p) (and_pair (p == p) (is_live rows p) (eq_self p) (live_by (row_of rows p) d found))
  level_node _ _ (child x c kid) = kid_node rows p x kid.kid

  -- Where a node strongly depends on another, so does its row on that of the other.
  edge_rows : (x y : ℕ) (n m : Node) → IsNamed rows p x n → IsNamed rows p y m → StrongOn d (dynamic_children rows p) n m → LevelStrong rows p x y
  edge_rows x y n m first second strong =
      let named : IsTrue (list_any (is_from_node m) (sources_of d (dynamic_children rows p) n)) =
      first_so (list_any (is_from_node m) (sources_of d (dynamic_children rows p) n)) (is_node d (dynamic_children rows p) n)
      (first_so (list_any (is_from_node m) (sources_of d (dynamic_children rows p) n) && is_node d (dynamic_children rows p) n) (is_node d (dynamic_children rows p) m) strong) in
      let from : IsTrue (list_any (is_from_row rows p y) (level_sources rows p x)) =
      ap (list_any (is_from_row rows p y)) (same_sources x n first) ∙ list_any_agree (is_from_row rows p y) (is_from_node m) (from_row y m second) (sources_of d (dynamic_children rows p) n) ∙ named in
      and_pair (list_any (is_from_row rows p y) (level_sources rows p x) && is_level_node rows p x) (is_level_node rows p y)
      (and_pair (list_any (is_from_row rows p y) (level_sources rows p x)) (is_level_node rows p x) from (level_node x n first))
      (level_node y m second)

  -- ---- ways

  -- A path of dependencies by nodes is one by rows, where each of its steps is one.
  to_rows : (On : ℕ → ℕ → Type 0) (Along : Node → Node → Type 0) → ((x : ℕ) (n m : Node) → IsNamed rows p x n → Along n m → (y : ℕ) × IsNamed rows p y m × On x y) → (x : ℕ) (n : Node) → IsNamed rows p x n → (ns : List Node) (m : Node) → DependencyPath Along n ns m → (y : ℕ) × IsNamed rows p y m × Reaches On x y
  to_rows On Along step x n named [] m on =
      let last : (y : ℕ) × IsNamed rows p y m × On x y = step x n m named on in (last.0, last.1, ([], last.2))
  to_rows On Along step x n named (k ∷ ks) m way =
      let first : (y : ℕ) × IsNamed rows p y k × On x y = step x n k named way.0 in
      let rest : (y : ℕ) × IsNamed rows p y m × Reaches On first.0 y = to_rows On Along step first.0 k first.1 ks m way.1 in
      (rest.0, rest.1, (first.0 ∷ rest.2.0, (first.2, rest.2.1)))

  -- What the node of a row strongly depends on has a row on which that row strongly depends.
  strong_to_rows : (x : ℕ) (n m : Node) → IsNamed rows p x n → StrongOn d (dynamic_children rows p) n m → (y : ℕ) × IsNamed rows p y m × LevelStrong rows p x y
  strong_to_rows x n m named strong =
      let second : (y : ℕ) × IsNamed rows p y m = node_row rows next sound p d found m (edge_nodes d (dynamic_children rows p) n m strong).1 in
      (second.0, second.1, edge_rows x second.0 n m named second.1 strong)

  -- Where a node strongly depends on another, directly or through others, so does its row.
  reach_rows : (x y : ℕ) (n m : Node) → IsNamed rows p x n → IsNamed rows p y m → Reaches (StrongOn d (dynamic_children rows p)) n m → Reaches (LevelStrong rows p) x y
  reach_rows x y n m first second way =
      let end : (k : ℕ) × IsNamed rows p k m × Reaches (LevelStrong rows p) x k = to_rows (LevelStrong rows p) (StrongOn d (dynamic_children rows p)) strong_to_rows x n first way.0 m way.1 in
      subst (Reaches (LevelStrong rows p) x) (row_once rows next sound.orderly p end.0 y m end.1 second) end.2

  -- What strongly depends on a node, directly or through others, is a node of the declaration.
  first_node : (n m : Node) → Reaches (StrongOn d (dynamic_children rows p)) n m → IsTrue (is_node d (dynamic_children rows p) n)
  first_node n m ([], on) = (edge_nodes d (dynamic_children rows p) n m on).0
  first_node n m (k ∷ ks, way) = (edge_nodes d (dynamic_children rows p) n k way.0).0

  -- the graph by names has no cycle
  pub names_acyclic : NoCycle (StrongOn d (dynamic_children rows p))
  names_acyclic (n, way) =
      let row : (x : ℕ) × IsNamed rows p x n = node_row rows next sound p d found n (first_node n n way) in
      sound.acyclic p (row.0, reach_rows row.0 row.0 n n row.1 row.1 way)
