-- Levels whose strong edges all were there before a change of the rows.
use Rattle.std.proofs.Common.{◌≡◌, ℕ, List, [], ◌∷◌, false, cond, ◌&&◌, ◌==◌, not, true≢false, Option, Some, None, IsTrue, find, is_some, option_map, option_and_then, refl, sym, ◌∙◌, ap, subst, inl, inr, ◌⊎◌}
use Rattle.std.specs.List.{list_any}
use Rattle.std.specs.Cmp.{unsigned_Decides, first_so, second_so}
use Rattle.std.proofs.lemmas.Bool.{not-true, or_cases}
use Rattle.cm_names.specs.declared.child.ChildName.{ChildName}
use Rattle.cm_facts.proofs.Options.{option_eq_some}
use Rattle.cm_decl.specs.declared.decl.Decl.{Decl}
use Rattle.cm_decl.specs.declared.origin.Origin.{Origin}
use Rattle.cm_decl.specs.declared.origin.Origin.TheVariants as origin
use Rattle.cm_decl.specs.Graph.{own_sources, child_sources}
use Rattle.cm_decl.specs.Reach.{NoCycle}
use Rattle.cm_decl.proofs.lemmas.Sameness.{never}
use Rattle.cm_world.specs.declared.row.Row.{Row}
use Rattle.cm_world.specs.Rows.{row_of, is_live, decl_of, has_parent, has_name, child_of}
use Rattle.cm_world.specs.Level.{is_child_row, is_level_node, row_sources, child_row_sources, level_sources, is_from_row, LevelStrong}
use Rattle.cm_world.specs.Sound.{IncarnationsIncrease, IsOrderly}
use Rattle.cm_world.proofs.lemmas.trees.Finding.{none_some, some_same, find-passes}
use Rattle.cm_world.proofs.lemmas.trees.Levels.{edge_source, edge_node}
use Rattle.cm_world.proofs.lemmas.trees.Walks.{find-lives}
use Rattle.cm_trees.specs.Kids.{IsKid}
use Rattle.cm_trees.proofs.trees.Trees.{eq_some, or_left, or_right, and_pair}
use Rattle.cm_trees.proofs.names.Naming.{IsNamedKid, kid_found, some_name}
use Rattle.cm_laws.proofs.lemmas.levels.Mapped.{IsMapped, mapped_acyclic}
use Rattle.cm_trees.proofs.levels.Nodes.{kid_node, node_kid}

-- ---- what is declared at a row

-- Where a declaration was found, so was the row that has it.
decl_by : (o : Option Row) (d : Decl) → option_and_then (λ r. r.decl) o ≡ Some d → (r : Row) × (o ≡ Some r) × (r.decl ≡ Some d)
decl_by None d e = absurd (none_some d e)
decl_by (Some r) d e = (r, refl, e)

-- the row that a declaration stands at
pub decl_row : (rows : List Row) (p : ℕ) (d : Decl) → decl_of rows p ≡ Some d → (r : Row) × (row_of rows p ≡ Some r) × (r.decl ≡ Some d)
decl_row rows p d found = decl_by (row_of rows p) d found

-- The declaration of a row that lives is the one that stands there.
pub row_decl : (rows : List Row) (p : ℕ) (d : Decl) (r : Row) → row_of rows p ≡ Some r → r.decl ≡ Some d → decl_of rows p ≡ Some d
row_decl rows p d r lives e = ap (λ o. option_and_then (λ r. r.decl) o) lives ∙ e

-- a level with a declaration has its own node
own_node : (rows : List Row) (p : ℕ) (d : Decl) → decl_of rows p ≡ Some d → IsTrue (is_level_node rows p p)
own_node rows p d found =
    or_left (p == p && is_live rows p) (is_child_row rows p p) (and_pair (p == p) (is_live rows p) ((unsigned_Decides p p).1 refl) (ap is_some (decl_row rows p d found).1))

-- ---- the sources of a node

-- The sources of a node of a level, where its parent has a declaration, are its own or those of a child row.
pub own_or_kid : (rows : List Row) (p x : ℕ) (d : Decl) → decl_of rows p ≡ Some d → level_sources rows p x ≡ cond (x == p) (own_sources d) (child_row_sources rows d x)
own_or_kid rows p x d found = ap (λ o. elim o as (λ _. List Origin) [ None ↦ [] | Some d ↦ cond (x == p) (own_sources d) (child_row_sources rows d x) ]) found

-- The sources of a child's incarnation are those of the row that has it.
pub kid_sources : (rows : List Row) (d : Decl) (x : ℕ) (r : Row) → row_of rows x ≡ Some r → child_row_sources rows d x ≡ row_sources d r
kid_sources rows d x r lives = ap (λ o. elim o as (λ _. List Origin) [ None ↦ [] | Some r ↦ row_sources d r ]) lives

-- rows with one name that were given the same have the same
like_sources : (d : Decl) (r s : Row) → r.name ≡ s.name → r.gives ≡ s.gives → row_sources d r ≡ row_sources d s
like_sources d r s name gives =
    ap (λ o. elim o as (λ _. List Origin) [ None ↦ [] | Some c ↦ child_sources d c r.gives ]) name
    ∙ ap (λ g. elim s.name as (λ _. List Origin) [ None ↦ [] | Some c ↦ child_sources d c g ]) gives

-- ---- the child that a name finds

module _ (rows : List Row) (next : ℕ) (increasing : IncarnationsIncrease next rows) (p : ℕ) where
  -- The row that is found by a name is a child of that name and isn't doomed.
  found_by : (c : ChildName) (x : ℕ) (o : Option Row) → find (λ r. has_parent p r && has_name c r && not r.doomed) rows ≡ o → option_map (λ r. r.inc) o ≡ Some x → IsNamedKid rows p x c
  found_by c x None found e = absurd (none_some x e)
  found_by c x (Some r) found e =
      let passes : IsTrue (has_parent p r && has_name c r && not r.doomed) = find-passes (λ r. has_parent p r && has_name c r && not r.doomed) rows r found in
      let both : IsTrue (has_parent p r && has_name c r) = first_so (has_parent p r && has_name c r) (not r.doomed) passes in
      subst (λ i. IsNamedKid rows p i c) (some_same r.inc x e) (record {
        kid = record {
          row = r;
          lives = find-lives (λ r. has_parent p r && has_name c r && not r.doomed) rows next r increasing found;
          parent = option_eq_some r.parent p (first_so (has_parent p r) (has_name c r) both);
        };
        there = not-true r.doomed (second_so (has_parent p r && has_name c r) (not r.doomed) passes);
        name = some_name r.name c (second_so (has_parent p r) (has_name c r) both);
      })

  -- it has that name, and isn't doomed
  pub named_kid : (c : ChildName) (x : ℕ) → child_of rows p c ≡ Some x → IsNamedKid rows p x c
  named_kid c x found = found_by c x (find (λ r. has_parent p r && has_name c r && not r.doomed) rows) refl found

-- ---- levels that are kept

-- a child row was one before, with the same name and the same offers; if it isn't doomed it wasn't
pub record WasKid (old : List Row) (p x : ℕ) (r : Row) : Type 0 where
  pub kid : IsKid old p x
  pub name : r.name ≡ kid.row.name
  pub gives : r.gives ≡ kid.row.gives
  pub there : r.doomed ≡ false → kid.row.doomed ≡ false

-- a level with no other children than before, and with no other declaration
pub record IsKept (old new : List Row) (p : ℕ) : Type 0 where
  pub kids : (x : ℕ) (kid : IsKid new p x) → WasKid old p x kid.row
  pub decl : (d : Decl) → decl_of new p ≡ Some d → decl_of old p ≡ Some d

module _ (old new : List Row) (next n : ℕ) (orderly : IsOrderly old next) (increasing : IncarnationsIncrease n new) (p : ℕ) (kept : IsKept old new p) where
  -- A child of a name that isn't doomed was so before the change.
  named_was : (c : ChildName) (y : ℕ) → IsNamedKid new p y c → IsNamedKid old p y c
  named_was c y named =
      let was : WasKid old p y named.kid.row = kept.kids y named.kid in
      record { kid = was.kid; there = was.there named.there; name = sym was.name ∙ named.name }

  -- what a source names it named before
  from_was : (y : ℕ) (s : Origin) → IsTrue (is_from_row new p y s) → IsTrue (is_from_row old p y s)
  from_was y origin.Own is = is
  from_was y (origin.Child c) is =
      eq_some (child_of old p c) y (kid_found old next orderly p c y (named_was c y (named_kid new n increasing p c y (option_eq_some (child_of new p c) y is))))
  from_was y origin.Parent is = never is
  from_was y origin.Framework is = never is
  from_was y origin.Void is = never is

  -- Sources one of which comes from a row now had one that came from it before.
  any_was : (y : ℕ) (ss : List Origin) → IsTrue (list_any (is_from_row new p y) ss) → IsTrue (list_any (is_from_row old p y) ss)
  any_was y [] is = never is
  any_was y (s ∷ ss) is = elim (or_cases (is_from_row new p y s) (list_any (is_from_row new p y) ss) is) [
    | inl here ↦ or_left (is_from_row old p y s) (list_any (is_from_row old p y) ss) (from_was y s here)
    | inr later ↦ or_right (is_from_row old p y s) (list_any (is_from_row old p y) ss) (any_was y ss later)
  ]

  module _ (d : Decl) (found : decl_of new p ≡ Some d) where
    -- A node of the level was one before.
    node_was : (x : ℕ) → IsTrue (is_level_node new p x) → IsTrue (is_level_node old p x)
    node_was x node = elim (node_kid new p x node) [
      | inl own ↦ subst (λ i. IsTrue (is_level_node old p i)) (sym own) (own_node old p d (kept.decl d found))
      | inr kid ↦ kid_node old p x (kept.kids x kid).kid
    ]

    -- A child row has the sources that it had before.
    kid_was : (x : ℕ) → IsKid new p x → child_row_sources new d x ≡ child_row_sources old d x
    kid_was x kid =
        let was : WasKid old p x kid.row = kept.kids x kid in
        kid_sources new d x kid.row kid.lives ∙ like_sources d kid.row was.kid.row was.name was.gives ∙ sym (kid_sources old d x was.kid.row was.kid.lives)

    -- The row itself or a child of it has the sources that it had before.
    sources_by : (x : ℕ) → (x ≡ p) ⊎ IsKid new p x → cond (x == p) (own_sources d) (child_row_sources new d x) ≡ cond (x == p) (own_sources d) (child_row_sources old d x)
    sources_by x (inl own) = rw ((unsigned_Decides x p).1 own) refl
    sources_by x (inr kid) = ap (cond (x == p) (own_sources d)) (kid_was x kid)

    -- A node of the level has the sources that it had before.
    sources_was : (x : ℕ) → IsTrue (is_level_node new p x) → level_sources new p x ≡ level_sources old p x
    sources_was x node = own_or_kid new p x d found ∙ sources_by x (node_kid new p x node) ∙ sym (own_or_kid old p x d (kept.decl d found))

    -- A strong edge of a level whose row has a declaration was one before.
    declared_edge : (x y : ℕ) → LevelStrong new p x y → LevelStrong old p x y
    declared_edge x y strong =
        let node : IsTrue (is_level_node new p x) = edge_node new p x y strong in
        let from : IsTrue (list_any (is_from_row old p y) (level_sources old p x)) = subst (λ l. IsTrue (list_any (is_from_row old p y) l)) (sources_was x node) (any_was y (level_sources new p x) (edge_source new p x y strong)) in
        and_pair (list_any (is_from_row old p y) (level_sources old p x) && is_level_node old p x) (is_level_node old p y)
        (and_pair (list_any (is_from_row old p y) (level_sources old p x)) (is_level_node old p x) from (node_was x node))
        (node_was y (second_so (list_any (is_from_row new p y) (level_sources new p x) && is_level_node new p x) (is_level_node new p y) strong))

  -- A strong edge of the level was one before, whether a declaration is found or not.
  edge_by : (x y : ℕ) → LevelStrong new p x y → (o : Option Decl) → decl_of new p ≡ o → LevelStrong old p x y
  edge_by x y strong None none =
      let silent : level_sources new p x ≡ [] = rw (none, level_sources) refl in
      absurd (true≢false (sym (edge_source new p x y strong) ∙ ap (list_any (is_from_row new p y)) silent))
  edge_by x y strong (Some d) found = declared_edge d found x y strong

  -- a strong edge was there before
  kept_edge : (x y : ℕ) → LevelStrong new p x y → LevelStrong old p x y
  kept_edge x y strong = edge_by x y strong (decl_of new p) refl

  -- The strong edges of the level are edges from before, row by row.
  same_edges : IsMapped (LevelStrong new p) (LevelStrong old p) (λ x n. x ≡ n)
  same_edges = record {
    node = λ x y strong. (y, refl);
    once = λ x m n first second. sym first ∙ second;
    step = λ x y n same strong. (y, refl, subst (λ z. LevelStrong old p z y) same (kept_edge x y strong));
  }

  -- so there is no cycle where there was none
  pub kept_acyclic : NoCycle (LevelStrong old p) → NoCycle (LevelStrong new p)
  kept_acyclic none = mapped_acyclic (LevelStrong new p) (LevelStrong old p) (λ x n. x ≡ n) same_edges none
