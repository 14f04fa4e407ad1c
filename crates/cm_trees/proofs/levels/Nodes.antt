-- The nodes of a level's graph: its row and the rows of its children.
use Rattle.std.proofs.Common.{◌≡◌, ℕ, List, [], ◌∷◌, false, ◌&&◌, ◌==◌, Option, Some, None, IsTrue, refl, sym, subst, inl, inr, ◌⊎◌, arith}
use Rattle.std.specs.Option.{option_map_or}
use Rattle.std.specs.Cmp.{unsigned_Decides, first_so}
use Rattle.std.proofs.lemmas.Bool.{or_cases}
use Rattle.cm_facts.proofs.Options.{option_eq_some}
use Rattle.cm_decl.specs.declared.origin.Origin.TheVariants as origin
use Rattle.cm_decl.specs.RealmGraph.{Depends}
use Rattle.cm_decl.proofs.lemmas.Sameness.{never}
use Rattle.cm_world.specs.declared.row.Row.{Row}
use Rattle.cm_world.specs.Rows.{row_of, is_live, has_parent}
use Rattle.cm_world.specs.Level.{is_child_row, is_level_node, level}
use Rattle.cm_world.specs.LevelInside.{LevelOn}
use Rattle.cm_world.proofs.lemmas.trees.Levels.{edge_node}
use Rattle.cm_trees.specs.Kids.{IsKid}
use Rattle.cm_trees.proofs.trees.Trees.{eq_some, or_right}

-- a child row is a node of the level
pub kid_node : (rows : List Row) (p x : ℕ) → IsKid rows p x → IsTrue (is_level_node rows p x)
kid_node rows p x kid =
    or_right (x == p && is_live rows p) (is_child_row rows p x) (subst (λ o. IsTrue (option_map_or (has_parent p) o false)) (sym kid.lives) (eq_some kid.row.parent p kid.parent))

-- A living row that passes the test for a parent is a child row of that parent.
pub kid_by : (rows : List Row) (p x : ℕ) (o : Option Row) → row_of rows x ≡ o → IsTrue (option_map_or (has_parent p) o false) → IsKid rows p x
kid_by rows p x None lives h = never h
kid_by rows p x (Some r) lives h = record { row = r; lives = lives; parent = option_eq_some r.parent p h }

-- a node of the level is p itself, or a child row
pub node_kid : (rows : List Row) (p x : ℕ) → IsTrue (is_level_node rows p x) → (x ≡ p) ⊎ IsKid rows p x
node_kid rows p x node = elim (or_cases (x == p && is_live rows p) (is_child_row rows p x) node) [
  | inl own ↦ inl ((unsigned_Decides x p).0 (first_so (x == p) (is_live rows p) own))
  | inr kid ↦ inr (kid_by rows p x (row_of rows x) refl kid)
]

-- what depends on something is a node
pub direct_node : (rows : List Row) (p x y : ℕ) → LevelOn rows p x y → IsTrue (is_level_node rows p x)
direct_node rows p x y (inl strong) = edge_node rows p x y strong
direct_node rows p x y (inr implied) = implied.node

-- What depends on something at a level is a node of that level.
pub depends_node : (rows : List Row) (p x y : ℕ) → Depends (level rows p) x y → IsTrue (is_level_node rows p x)
depends_node rows p x y ([], on) = direct_node rows p x y on
depends_node rows p x y (z ∷ zs, way) = direct_node rows p x z way.0
