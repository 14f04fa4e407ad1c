-- Levels whose strong edges are edges between names.
use Rattle.std.proofs.Common.{◌≡◌, ℕ, List, [], ◌∷◌, ◌++◌, Bool, true, false, cond, ◌&&◌, ◌||◌, ◌==◌, Some, None, IsTrue, filter, map, refl, sym, ◌∙◌, ap, subst, inl, inr}
use Rattle.std.specs.List.{list_any}
use Rattle.std.specs.Cmp.{unsigned_Decides}
use Rattle.std.proofs.lemmas.List.Folds.{list_any-append}
use Rattle.std.proofs.lemmas.Bool.{or_cases}
use Rattle.cm_names.specs.declared.child.ChildName.{ChildName}
use Rattle.cm_facts.proofs.Booleans.{true_and_false}
use Rattle.cm_facts.proofs.Options.{option_eq_some}
use Rattle.cm_facts.proofs.Lists.{list_any_map}
use Rattle.cm_decl.specs.declared.decl.Decl.{Decl}
use Rattle.cm_decl.specs.declared.rows.Give.{Give}
use Rattle.cm_decl.specs.declared.node.DynChild.{DynChild}
use Rattle.cm_decl.specs.declared.origin.Origin.{Origin}
use Rattle.cm_decl.specs.declared.origin.Origin.TheVariants as origin
use Rattle.cm_decl.specs.declared.node.Node.{Node}
use Rattle.cm_decl.specs.declared.node.Node.TheVariants.{Own, Child}
use Rattle.cm_decl.specs.Same.{same_child, same_node}
use Rattle.cm_decl.specs.Graph.{is_node, static_name, static_node, dynamic_node, is_from_node, is_strong, own_sources, offers_to, child_sources, gives_of, sources_of, StrongOn}
use Rattle.cm_decl.specs.Reach.{NoCycle}
use Rattle.cm_decl.proofs.lemmas.Sameness.{never, same_node-refl}
use Rattle.cm_world.specs.declared.row.Row.{Row}
use Rattle.cm_world.specs.Rows.{row_of, decl_of, child_of}
use Rattle.cm_world.specs.Level.{child_row_sources, level_sources, is_from_row, LevelStrong}
use Rattle.cm_world.proofs.lemmas.trees.Finding.{some_same}
use Rattle.cm_world.proofs.lemmas.trees.Levels.{edge_source}
use Rattle.cm_trees.proofs.trees.Trees.{or_left, or_right, and_pair}
use Rattle.cm_trees.proofs.names.Listing.{any_flat}
use Rattle.cm_laws.proofs.lemmas.levels.Mapped.{mapped_acyclic}
use Rattle.cm_laws.proofs.lemmas.levels.Kept.{own_or_kid, kid_sources}

-- ---- a graph by names

-- a child has a node where it is declared or listed
pub node_parts : (d : Decl) (dynamic : List DynChild) (c : ChildName) → is_node d dynamic (Child c) ≡ (list_any (λ k. same_child (static_name k.name) c) d.children || list_any (λ k. same_child k.name c) dynamic)
node_parts d dynamic c =
    list_any-append (λ y. same_node y (Child c)) (Own ∷ map static_node d.children) (map dynamic_node dynamic)
    ∙ ap (λ b. b || list_any (λ y. same_node y (Child c)) (map dynamic_node dynamic)) (list_any_map (λ y. same_node y (Child c)) static_node d.children)
    ∙ ap (λ b. list_any (λ k. same_child (static_name k.name) c) d.children || b) (list_any_map (λ y. same_node y (Child c)) dynamic_node dynamic)

-- what was given to the children of a name was given to one of them
pub given_parts : (dynamic : List DynChild) (c : ChildName) (test : Give → Bool) → list_any test (gives_of dynamic c) ≡ list_any (λ k. same_child k.name c && list_any test k.gives) dynamic
given_parts dynamic c test = any_flat test (λ k. k.gives) (λ k. same_child k.name c) dynamic

-- Some source of the strong gives passes exactly where some strong give's source does.
any_kept : (q : Origin → Bool) (gs : List Give) → list_any q (map (λ g. g.from) (filter (λ g. is_strong g.dependency) gs)) ≡ list_any (λ g. is_strong g.dependency && q g.from) gs
any_kept q [] = refl
any_kept q (g ∷ gs) = by (is_strong g.dependency) refl (any_kept q gs) where
  by : (t : Bool) → is_strong g.dependency ≡ t → list_any q (map (λ g. g.from) (filter (λ g. is_strong g.dependency) gs)) ≡ list_any (λ g. is_strong g.dependency && q g.from) gs → list_any q (map (λ g. g.from) (filter (λ g. is_strong g.dependency) (g ∷ gs))) ≡ list_any (λ g. is_strong g.dependency && q g.from) (g ∷ gs)
  by true e more = rw e (ap (λ b. q g.from || b) more)
  by false e more = rw e more

-- Some source of a child passes exactly where one of a strong offer or a strong give does.
source_parts : (d : Decl) (c : ChildName) (gives : List Give) (q : Origin → Bool) → list_any q (child_sources d c gives) ≡ (list_any (λ g. is_strong g.dependency && q g.from) (offers_to d c) || list_any (λ g. is_strong g.dependency && q g.from) gives)
source_parts d c gives q =
    any_kept q (offers_to d c ++ gives) ∙ list_any-append (λ g. is_strong g.dependency && q g.from) (offers_to d c) gives

-- whoever was given more has more sources
more_sources : (d : Decl) (c : ChildName) (few many : List Give) → ((test : Give → Bool) → IsTrue (list_any test few) → IsTrue (list_any test many)) → (q : Origin → Bool) → IsTrue (list_any q (child_sources d c few)) → IsTrue (list_any q (child_sources d c many))
more_sources d c few many more q some =
    let test : Give → Bool = λ g. is_strong g.dependency && q g.from in
    source_parts d c many q ∙ elim (or_cases (list_any test (offers_to d c)) (list_any test few) (sym (source_parts d c few q) ∙ some)) [
      | inl offered ↦ or_left (list_any test (offers_to d c)) (list_any test many) offered
      | inr given ↦ or_right (list_any test (offers_to d c)) (list_any test many) (more test given)
    ]

-- ---- rows by names

-- a child row of a name that has a node; all that the row was given was given to the name
pub record IsListed (rows : List Row) (p : ℕ) (d : Decl) (dynamic : List DynChild) (x : ℕ) (c : ChildName) : Type 0 where
  pub row : Row
  pub lives : row_of rows x ≡ Some row
  pub name : row.name ≡ Some c
  pub other : (x == p) ≡ false
  pub node : IsTrue (is_node d dynamic (Child c))
  pub given : (test : Give → Bool) → IsTrue (list_any test row.gives) → IsTrue (list_any test (gives_of dynamic c))

-- a row that a node finds: p itself, or the child of that name
data IsFound (rows : List Row) (p : ℕ) : ℕ → Node → Type 0 where
  itself : IsFound rows p p Own
  child : (x : ℕ) (c : ChildName) → child_of rows p c ≡ Some x → IsFound rows p x (Child c)

module _ (rows : List Row) (p : ℕ) (d : Decl) (dynamic : List DynChild) (found : decl_of rows p ≡ Some d) (listed : (c : ChildName) (x : ℕ) → child_of rows p c ≡ Some x → IsListed rows p d dynamic x c) where
  -- ---- edges

  -- A row from which a source comes is found by a node from which it comes.
  source_found : (y : ℕ) (s : Origin) → IsTrue (is_from_row rows p y s) → (m : Node) × IsFound rows p y m × IsTrue (is_from_node m s)
  source_found y origin.Own is = (Own, subst (λ z. IsFound rows p z Own) (sym ((unsigned_Decides y p).0 is)) itself, refl)
  source_found y (origin.Child c) is = (Child c, child y c (option_eq_some (child_of rows p c) y is), same_node-refl (Child c))
  source_found y origin.Parent is = never is
  source_found y origin.Framework is = never is
  source_found y origin.Void is = never is

  -- what is a source by rows is one by names
  any_found : (y : ℕ) (ss : List Origin) → IsTrue (list_any (is_from_row rows p y) ss) → (m : Node) × IsFound rows p y m × IsTrue (list_any (is_from_node m) ss)
  any_found y [] is = never is
  any_found y (s ∷ ss) is = elim (or_cases (is_from_row rows p y s) (list_any (is_from_row rows p y) ss) is) [
    | inl here ↦
        let one : (m : Node) × IsFound rows p y m × IsTrue (is_from_node m s) = source_found y s here in
        (one.0, one.1, or_left (is_from_node one.0 s) (list_any (is_from_node one.0) ss) one.2)
    | inr later ↦
        let one : (m : Node) × IsFound rows p y m × IsTrue (list_any (is_from_node m) ss) = any_found y ss later in
        (one.0, one.1, or_right (is_from_node one.0 s) (list_any (is_from_node one.0) ss) one.2)
  ]

  -- The sources of the row at its own level are those that its declaration uses itself.
  own_found : level_sources rows p p ≡ own_sources d
  own_found = own_or_kid rows p p d found ∙ ap (λ t. cond t (own_sources d) (child_row_sources rows d p)) ((unsigned_Decides p p).1 refl)

  -- The sources of a listed child row are those of its name and its gives.
  kid_found : (x : ℕ) (c : ChildName) (one : IsListed rows p d dynamic x c) → level_sources rows p x ≡ child_sources d c one.row.gives
  kid_found x c one =
      own_or_kid rows p x d found
      ∙ ap (λ t. cond t (own_sources d) (child_row_sources rows d x)) one.other
      ∙ kid_sources rows d x one.row one.lives
      ∙ ap (λ o. elim o as (λ _. List Origin) [ None ↦ [] | Some b ↦ child_sources d b one.row.gives ]) one.name

  -- the sources of a row are sources of its node
  sources_found : (x : ℕ) (n : Node) → IsFound rows p x n → (q : Origin → Bool) → IsTrue (list_any q (level_sources rows p x)) → IsTrue (list_any q (sources_of d dynamic n))
  sources_found _ _ itself q some = sym (ap (list_any q) own_found) ∙ some
  sources_found _ _ (child x c finds) q some =
      let one : IsListed rows p d dynamic x c = listed c x finds in
      more_sources d c one.row.gives (gives_of dynamic c) one.given q (sym (ap (list_any q) (kid_found x c one)) ∙ some)

  -- A node by which a row is found is a node of the declaration.
  node_found : (x : ℕ) (n : Node) → IsFound rows p x n → IsTrue (is_node d dynamic n)
  node_found _ _ itself = refl
  node_found _ _ (child x c finds) = (listed c x finds).node

  -- an edge between rows is one between nodes
  edge_found : (x y : ℕ) (n : Node) → IsFound rows p x n → LevelStrong rows p x y → (m : Node) × IsFound rows p y m × StrongOn d dynamic n m
  edge_found x y n finds strong =
      let to : (m : Node) × IsFound rows p y m × IsTrue (list_any (is_from_node m) (level_sources rows p x)) = any_found y (level_sources rows p x) (edge_source rows p x y strong) in (
        to.0,
        to.1,
        and_pair (list_any (is_from_node to.0) (sources_of d dynamic n) && is_node d dynamic n) (is_node d dynamic to.0)
            (and_pair (list_any (is_from_node to.0) (sources_of d dynamic n)) (is_node d dynamic n) (sources_found x n finds (is_from_node to.0) to.2) (node_found x n finds))
            (node_found y to.0 to.1),
      )

  -- ---- one node for each row

  -- A child that is found by a name isn't the row itself.
  not_itself : (x : ℕ) (c : ChildName) → child_of rows p c ≡ Some x → x ≡ p → ⊥
  not_itself x c finds same = true_and_false (x == p) ((unsigned_Decides x p).1 same) (listed c x finds).other

  -- Two names that find the same child are the same.
  one_name : (x : ℕ) (b c : ChildName) → child_of rows p b ≡ Some x → child_of rows p c ≡ Some x → b ≡ c
  one_name x b c first second =
      let one : IsListed rows p d dynamic x b = listed b x first in
      let other : IsListed rows p d dynamic x c = listed c x second in
      some_same b c (sym one.name ∙ ap (λ r. r.name) (some_same one.row other.row (sym one.lives ∙ other.lives)) ∙ other.name)

  -- Two nodes by which the same row is found are the same.
  once_by : (x y : ℕ) (m n : Node) → IsFound rows p x m → IsFound rows p y n → x ≡ y → m ≡ n
  once_by _ _ _ _ itself itself e = refl
  once_by _ _ _ _ itself (child y c finds) e = absurd (not_itself y c finds (sym e))
  once_by _ _ _ _ (child x c finds) itself e = absurd (not_itself x c finds e)
  once_by _ _ _ _ (child x b first) (child y c second) e = ap Child (one_name y b c (subst (λ z. child_of rows p b ≡ Some z) e first) second)

  -- What a row strongly depends on is found by a node.
  node_of_source : (x y : ℕ) → LevelStrong rows p x y → (n : Node) × IsFound rows p y n
  node_of_source x y strong =
      let one : (n : Node) × IsFound rows p y n × IsTrue (list_any (is_from_node n) (level_sources rows p x)) = any_found y (level_sources rows p x) (edge_source rows p x y strong) in
      (one.0, one.1)

  -- where the names have no cycle the level has none
  pub named_acyclic : NoCycle (StrongOn d dynamic) → NoCycle (LevelStrong rows p)
  named_acyclic none =
      mapped_acyclic (LevelStrong rows p) (StrongOn d dynamic) (IsFound rows p) (record {
        node = node_of_source;
        once = λ x m n first second. once_by x x m n first second refl;
        step = edge_found;
      }) none
