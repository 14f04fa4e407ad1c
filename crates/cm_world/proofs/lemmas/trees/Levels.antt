-- Which nodes of a level nothing depends on.
use Rattle.std.proofs.Common.{◌≡◌, ◌≢◌, ℕ, List, [], ◌∷◌, Bool, true, false, cond, not, ◌&&◌, ◌||◌, ◌==◌, true≢false, Option, Some, None, is_some, refl, sym, ◌∙◌, ap, subst, IsTrue, inl, inr}
use Rattle.std.specs.List.{list_any, list_all}
use Rattle.std.specs.Option.{option_map_or}
use Rattle.std.specs.Cmp.{unsigned_Decides, first_so, second_so}
use Rattle.std.proofs.lemmas.Bool.{or_parts, or_cases}
use Rattle.cm_facts.proofs.Booleans.{not_both}
use Rattle.cm_facts.proofs.Options.{is_some_true}
use Rattle.cm_decl.specs.declared.decl.Decl.{Decl}
use Rattle.cm_decl.specs.Graph.{own_sources}
use Rattle.cm_decl.specs.Reach.{DependencyPath}
use Rattle.cm_world.specs.declared.row.Row.{Row}
use Rattle.cm_world.specs.Rows.{row_of, decl_of, has_parent, is_live}
use Rattle.cm_world.specs.Level.{is_child_row, is_level_node, level_edge, level_sources, is_from_row, LevelStrong}
use Rattle.cm_world.specs.LevelInside.{LevelOn}
use Rattle.cm_world.specs.Stopping.{IsFree}
use Rattle.cm_world.proofs.lemmas.trees.Finding.{row_of-inc, find-all}

-- ---- an edge's facts

-- a source of the first node is the second
pub edge_source : (rows : List Row) (p x y : ℕ) → LevelStrong rows p x y → IsTrue (list_any (is_from_row rows p y) (level_sources rows p x))
edge_source rows p x y strong =
    let by : Bool = list_any (is_from_row rows p y) (level_sources rows p x) in
    first_so by (is_level_node rows p x) (first_so (by && is_level_node rows p x) (is_level_node rows p y) strong)

-- Who depends strongly in a level is a node of it.
pub edge_node : (rows : List Row) (p x y : ℕ) → LevelStrong rows p x y → IsTrue (is_level_node rows p x)
edge_node rows p x y strong =
    let by : Bool = list_any (is_from_row rows p y) (level_sources rows p x) in
    second_so by (is_level_node rows p x) (first_so (by && is_level_node rows p x) (is_level_node rows p y) strong)

-- ---- a level without children

-- Where neither a row nor what is found in the rest has a parent, what is found of all has it not.
picks : (p : ℕ) (t : Bool) (r : Row) (o : Option Row) → has_parent p r ≡ false → option_map_or (has_parent p) o false ≡ false → option_map_or (has_parent p) (cond t (Some r) o) false ≡ false
picks p true r o here later = here
picks p false r o here later = later

-- where no row has this parent, no incarnation is a child of it
pub childless : (rows : List Row) (p x : ℕ) → list_any (has_parent p) rows ≡ false → is_child_row rows p x ≡ false
childless [] p x none = refl
childless (r ∷ rs) p x none =
    let both : (has_parent p r ≡ false) × (list_any (has_parent p) rs ≡ false) = or_parts (has_parent p r) (list_any (has_parent p) rs) none in
    picks p (r.inc == x) r (row_of rs x) both.0 (childless rs p x both.1)

-- Where one that lives or another holds, and the other does not, the first holds.
either : (a b live : Bool) → IsTrue ((a && live) || b) → b ≡ false → IsTrue a
either true b live h none = refl
either false b live h none = absurd (true≢false (sym h ∙ none))

-- Where p has no child, p is the only node of its level.
lone_node : (rows : List Row) (p x : ℕ) → list_any (has_parent p) rows ≡ false → IsTrue (is_level_node rows p x) → IsTrue (x == p)
lone_node rows p x none node =
    either (x == p) (is_child_row rows p x) (is_live rows p) node (childless rows p x none)

-- where p uses nothing of its children strongly either, nothing depends on anything
pub lone_level : (rows : List Row) (p x y : ℕ) → list_any (has_parent p) rows ≡ false → ((z : ℕ) → IsTrue (z == p) → level_sources rows p z ≡ []) → LevelOn rows p x y → ⊥
lone_level rows p x y none silent (inl strong) =
    let own : IsTrue (x == p) = lone_node rows p x none (edge_node rows p x y strong) in
    true≢false (sym (edge_source rows p x y strong) ∙ ap (list_any (is_from_row rows p y)) (silent x own))
lone_level rows p x y none silent (inr implied) =
    implied.child ((unsigned_Decides x p).0 (lone_node rows p x none implied.node))

-- Where p has no child, and no node has a source, every node of its level is free.
pub lone_free : (rows : List Row) (p x : ℕ) → list_any (has_parent p) rows ≡ false → ((z : ℕ) → IsTrue (z == p) → level_sources rows p z ≡ []) → IsFree rows p x
lone_free rows p x none silent z ([], on) = absurd (lone_level rows p z x none silent on)
lone_free rows p x none silent z (v ∷ vs, way) = absurd (lone_level rows p z v none silent way.0)

-- a row whose declaration uses nothing of its children strongly has no sources at its own level
pub own_level : (rows : List Row) (p : ℕ) (d : Decl) → decl_of rows p ≡ Some d → own_sources d ≡ [] → (z : ℕ) → IsTrue (z == p) → level_sources rows p z ≡ []
own_level rows p d found none z same = rw (found, level_sources) (rw same none)

-- ---- freedom of a child that no row depends on

-- Where a row that may be there has a parent there, it is there.
live_by : (p : ℕ) (o : Option Row) → IsTrue (option_map_or (has_parent p) o false) → (r : Row) × (o ≡ Some r)
live_by p None h = absurd (true≢false (sym h))
live_by p (Some r) h = (r, refl)

-- a node is a row that lives
pub node_row : (rows : List Row) (p z : ℕ) → IsTrue (is_level_node rows p z) → (r : Row) × (row_of rows z ≡ Some r)
node_row rows p z h =
    elim (or_cases (z == p && is_live rows p) (is_child_row rows p z) h) as (λ _. (r : Row) × (row_of rows z ≡ Some r)) [
      | inl own ↦
          let same : z ≡ p = (unsigned_Decides z p).0 (first_so (z == p) (is_live rows p) own) in
          is_some_true (row_of rows z) (subst (λ i. IsTrue (is_some (row_of rows i))) (sym same) (second_so (z == p) (is_live rows p) own))
      | inr child ↦ live_by p (row_of rows z) child
    ]

-- a child that no row of the level depends on strongly is free there
pub unneeded_free : (rows : List Row) (p x : ℕ) → x ≢ p → IsTrue (list_all (λ r. not (level_edge rows p r.inc x)) rows) → IsFree rows p x
unneeded_free rows p x other none z (between, way) = absurd (deep z between way) where
  direct : (y : ℕ) → LevelOn rows p y x → ⊥
  direct y (inl strong) =
      let found : (r : Row) × (row_of rows y ≡ Some r) = node_row rows p y (edge_node rows p y x strong) in
      let own : found.0.inc ≡ y = row_of-inc rows y found.0 found.1 in
      not_both (level_edge rows p y x) strong (subst (λ i. IsTrue (not (level_edge rows p i x))) own (find-all (λ s. s.inc == y) (λ r. not (level_edge rows p r.inc x)) rows found.0 none found.1))
  direct y (inr implied) = other implied.own

  deep : (y : ℕ) (ys : List ℕ) → DependencyPath (LevelOn rows p) y ys x → ⊥
  deep y [] on = direct y on
  deep y (u ∷ us) way = deep u us way.1
