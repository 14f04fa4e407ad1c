-- The nodes of a level by their names are its rows that aren't doomed, and itself.
use Rattle.std.proofs.Common.{◌≡◌, ◌≢◌, ℕ, ◌<◌, List, [], ◌∷◌, ◌++◌, Bool, true, false, cond, not, ◌&&◌, ◌||◌, ◌==◌, true≢false, Option, Some, None, IsTrue, IsSome, find, filter, flat_map, map, is_some, is_none, count_by, option_map, option_and_then, refl, sym, ◌∙◌, ap, subst, inl, inr, ◌⊎◌, arith}
use Rattle.std.specs.List.{list_any}
use Rattle.std.specs.Option.{option_map_or, option_eq}
use Rattle.std.specs.Cmp.{unsigned_Decides, first_so, second_so}
use Rattle.std.proofs.lemmas.List.Folds.{list_any-append}
use Rattle.std.proofs.lemmas.Bool.{not-true, or_cases}
use Rattle.cm_names.specs.declared.child.ChildName.{ChildName}
use Rattle.cm_facts.proofs.Options.{option_eq_some}
use Rattle.cm_facts.proofs.Lists.{list_any_map}
use Rattle.cm_decl.specs.declared.decl.Decl.{Decl}
use Rattle.cm_decl.specs.declared.rows.Child.{Child as DeclaredChild}
use Rattle.cm_decl.specs.declared.rows.Give.{Give}
use Rattle.cm_decl.specs.declared.node.DynChild.{DynChild}
use Rattle.cm_decl.specs.declared.node.Node.{Node}
use Rattle.cm_decl.specs.declared.node.Node.TheVariants.{Own, Child}
use Rattle.cm_decl.specs.Same.{same_child, same_node}
use Rattle.cm_decl.specs.Graph.{is_node, static_name, static_node, dynamic_node, gives_of}
use Rattle.cm_decl.proofs.lemmas.Sameness.{never, same_node-refl, same_child_exact, named}
use Rattle.cm_world.specs.declared.row.Row.{Row}
use Rattle.cm_world.specs.Rows.{row_of, decl_of, has_parent, has_name, child_of}
use Rattle.cm_world.specs.RowsInside.{is_behind}
use Rattle.cm_world.specs.Sound.{IsOrderly, IsSound, HasStatic}
use Rattle.cm_world.proofs.lemmas.trees.Finding.{none_some, some_same, find-passes}
use Rattle.cm_world.proofs.lemmas.trees.Walks.{find-lives}
use Rattle.cm_trees.specs.Kids.{IsKid}
use Rattle.cm_trees.specs.Names.{child_node, node_in, in_collection, dynamic_child, dynamic_children}
use Rattle.cm_trees.proofs.trees.Trees.{kid_higher, eq_some, or_left, or_right, and_pair, not_true, not_flip}
use Rattle.cm_trees.proofs.levels.Kids.{none_found}
use Rattle.cm_trees.proofs.names.Listing.{any_some, any_flat, any_row, row_any, any_counts, counts_any, flat_flat, only_row}

-- ---- names

-- A child's name is the same as itself.
pub child_refl : (c : ChildName) → IsTrue (same_child c c)
child_refl c = same_node-refl (Child c)

-- Where a name that may be missing is the same as this one, it is there, and is this one.
pub some_name : (o : Option ChildName) (c : ChildName) → IsTrue (option_eq same_child o (Some c)) → o ≡ Some c
some_name None c h = never h
some_name (Some b) c h = ap Some (same_child_exact b c h)

-- A name that is there, and is this one, is the same as it.
pub name_some : (o : Option ChildName) (c : ChildName) → o ≡ Some c → IsTrue (option_eq same_child o (Some c))
name_some o c e = subst (λ z. IsTrue (option_eq same_child z (Some c))) (sym e) (child_refl c)

-- A child's name in no collection is that of a static child.
static_same : (c : ChildName) → c.coll ≡ None → c ≡ static_name c.name
unfolding named
static_same c e = ap (λ o. named o c.name) e

-- ---- rows that a name finds

-- a child row that isn't doomed, with its name
pub record IsNamedKid (rows : List Row) (p x : ℕ) (c : ChildName) : Type 0 where
  pub kid : IsKid rows p x
  pub there : kid.row.doomed ≡ false
  pub name : kid.row.name ≡ Some c

-- a doomed child row, which has no node
pub record IsDoomedKid (rows : List Row) (p x : ℕ) : Type 0 where
  pub kid : IsKid rows p x
  pub doomed : kid.row.doomed ≡ true

-- a row that has a node: p itself, or such a child
pub data IsNamed (rows : List Row) (p : ℕ) : ℕ → Node → Type 0 where
  itself : IsNamed rows p p Own
  child : (x : ℕ) (c : ChildName) → IsNamedKid rows p x c → IsNamed rows p x (Child c)

module _ (rows : List Row) (next : ℕ) (orderly : IsOrderly rows next) (p : ℕ) where
  -- No two child rows of a row that aren't doomed have one name.
  pub kid_once : (x y : ℕ) (c : ChildName) → IsNamedKid rows p x c → IsNamedKid rows p y c → x ≡ y
  kid_once x y c one other =
      orderly.one_name x y one.kid.row other.kid.row one.kid.lives other.kid.lives one.there other.there (one.kid.parent ∙ sym other.kid.parent) (one.name ∙ sym other.name)

  -- A child row that isn't doomed has one name alone.
  pub name_once : (x : ℕ) (b c : ChildName) → IsNamedKid rows p x b → IsNamedKid rows p x c → b ≡ c
  name_once x b c one other =
      let same : one.kid.row ≡ other.kid.row = some_same one.kid.row other.kid.row (sym one.kid.lives ∙ other.kid.lives) in
      some_same b c (sym one.name ∙ ap (λ r. r.name) same ∙ other.name)

  -- No row is a child of itself by a name.
  pub not_itself : (c : ChildName) → IsNamedKid rows p p c → ⊥
  not_itself c kid = let higher : p < p = kid_higher rows next orderly p p kid.kid in let never : ⊥ = absurd (omega arith) in never

  -- Rows that are the same have the same node.
  node_by : (x y : ℕ) (m n : Node) → IsNamed rows p x m → IsNamed rows p y n → x ≡ y → m ≡ n
  node_by _ _ _ _ itself itself e = refl
  node_by _ _ _ _ itself (child y c kid) e = absurd (not_itself c (subst (λ z. IsNamedKid rows p z c) (sym e) kid))
  node_by _ _ _ _ (child x c kid) itself e = absurd (not_itself c (subst (λ z. IsNamedKid rows p z c) e kid))
  node_by _ _ _ _ (child x b one) (child y c other) e = ap Child (name_once y b c (subst (λ z. IsNamedKid rows p z b) e one) other)

  -- a row has at most one node
  pub node_once : (x : ℕ) (m n : Node) → IsNamed rows p x m → IsNamed rows p x n → m ≡ n
  node_once x m n one other = node_by x x m n one other refl

  -- a node is at most one row's
  pub row_once : (x y : ℕ) (n : Node) → IsNamed rows p x n → IsNamed rows p y n → x ≡ y
  row_once x y n one other = by x y n n one other refl where
    by : (x y : ℕ) (m n : Node) → IsNamed rows p x m → IsNamed rows p y n → m ≡ n → x ≡ y
    by _ _ _ _ itself itself e = refl
    by _ _ _ _ itself (child _ c kid) e = let never : ⊥ = cc in absurd never
    by _ _ _ _ (child _ c kid) itself e = let never : ⊥ = cc in absurd never
    by _ _ _ _ (child x b one) (child y c other) e =
        let same : b ≡ c = cc in
        kid_once x y c (subst (IsNamedKid rows p x) same one) other

  -- ---- finding by name

  -- A row that is found by parent and name has these, and isn't doomed.
  passes_name : (c : ChildName) (r : Row) → IsTrue (has_parent p r && has_name c r && not r.doomed) → (r.parent ≡ Some p) × (r.name ≡ Some c) × (r.doomed ≡ false)
  passes_name c r h = (
    option_eq_some r.parent p (first_so (has_parent p r) (has_name c r) (first_so (has_parent p r && has_name c r) (not r.doomed) h)),
    some_name r.name c (second_so (has_parent p r) (has_name c r) (first_so (has_parent p r && has_name c r) (not r.doomed) h)),
    not-true r.doomed (second_so (has_parent p r && has_name c r) (not r.doomed) h),
  )

  -- A living row with this parent and this name that isn't doomed is a child by that name.
  pub kid_of_row : (c : ChildName) (r : Row) → row_of rows r.inc ≡ Some r → r.parent ≡ Some p → r.name ≡ Some c → r.doomed ≡ false → IsNamedKid rows p r.inc c
  kid_of_row c r lives parent name there = record {
    kid = record { row = r; lives = lives; parent = parent };
    there = there;
    name = name;
  }

  -- What is found by a name under the row is a child of that name that isn't doomed.
  found_by : (c : ChildName) (x : ℕ) (o : Option Row) → find (λ r. has_parent p r && has_name c r && not r.doomed) rows ≡ o → option_map (λ r. r.inc) o ≡ Some x → IsNamedKid rows p x c
  found_by c x None found e = absurd (none_some x e)
  found_by c x (Some r) found e =
      let own : r.inc ≡ x = some_same r.inc x e in
      let is : (r.parent ≡ Some p) × (r.name ≡ Some c) × (r.doomed ≡ false) = passes_name c r (find-passes (λ r. has_parent p r && has_name c r && not r.doomed) rows r found) in
      subst (λ i. IsNamedKid rows p i c) own (kid_of_row c r (find-lives (λ r. has_parent p r && has_name c r && not r.doomed) rows next r orderly.increasing found) is.0 is.1 is.2)

  -- the child that a name finds has it
  pub found_kid : (c : ChildName) (x : ℕ) → child_of rows p c ≡ Some x → IsNamedKid rows p x c
  found_kid c x found = found_by c x (find (λ r. has_parent p r && has_name c r && not r.doomed) rows) refl found

  -- A child of a name that isn't doomed is what is found by that name.
  kid_found_by : (c : ChildName) (x : ℕ) (o : Option Row) → IsNamedKid rows p x c → find (λ r. has_parent p r && has_name c r && not r.doomed) rows ≡ o → option_map (λ r. r.inc) o ≡ Some x
  kid_found_by c x None kid found =
      absurd (none_found (λ r. has_parent p r && has_name c r && not r.doomed) rows x kid.kid.row kid.kid.lives
      (and_pair (has_parent p kid.kid.row && has_name c kid.kid.row) (not kid.kid.row.doomed) (and_pair (has_parent p kid.kid.row) (has_name c kid.kid.row) (eq_some kid.kid.row.parent p kid.kid.parent) (name_some kid.kid.row.name c kid.name)) (not_flip kid.kid.row.doomed kid.there)) found)
  kid_found_by c x (Some r) kid found = ap Some (kid_once r.inc x c (found_by c r.inc (Some r) found refl) kid)

  -- and a name finds the child that has it
  pub kid_found : (c : ChildName) (x : ℕ) → IsNamedKid rows p x c → child_of rows p c ≡ Some x
  kid_found c x kid = kid_found_by c x (find (λ r. has_parent p r && has_name c r && not r.doomed) rows) kid refl

  -- ---- the node that is kept of a row

  -- A child row that isn't doomed has the node of its name.
  child_by : (x : ℕ) (n : Node) (r : Row) (kid : IsKid rows p x) → kid.row ≡ r → (b : Bool) (o : Option ChildName) → r.doomed ≡ b → r.name ≡ o → cond b None (option_map Child o) ≡ Some n → IsNamed rows p x n
  child_by x n r kid same true o doomed name e = absurd (none_some n e)
  child_by x n r kid same false None doomed name e = absurd (none_some n e)
  child_by x n r kid same false (Some c) doomed name e =
      subst (IsNamed rows p x) (some_same (Child c) n e) (child x c (record {
        kid = kid;
        there = ap (λ r. r.doomed) same ∙ doomed;
        name = ap (λ r. r.name) same ∙ name;
      }))

  -- A child of a row isn't that row itself.
  pub kid_not_own : (x : ℕ) → IsKid rows p x → (x == p) ≡ false
  kid_not_own x kid = not_true (x == p) (λ e.
      let same : x ≡ p = (unsigned_Decides x p).0 e in
      let higher : p < x = kid_higher rows next orderly p x kid in
      let never : ⊥ = absurd (omega arith) in never)

  -- The node of a child row is the one that its name and doom tell.
  kid_kept : (x : ℕ) (kid : IsKid rows p x) → node_in rows p x ≡ child_node kid.row
  kid_kept x kid = rw (kid_not_own x kid) (ap (λ o. option_and_then child_node o) kid.lives)

  -- The node of the row itself at its own level is the component.
  own_kept : (x : ℕ) → x ≡ p → node_in rows p x ≡ Some Own
  own_kept x e = rw ((unsigned_Decides x p).1 e) refl

  -- A row or a child of it with a node is the one that this node names.
  pub kept_named : (x : ℕ) (n : Node) → (x ≡ p) ⊎ IsKid rows p x → Some n ≡ node_in rows p x → IsNamed rows p x n
  kept_named x n (inl own) e =
      let same : n ≡ Own = some_same n Own (e ∙ own_kept x own) in
      subst (λ z. IsNamed rows p z n) (sym own) (subst (IsNamed rows p p) (sym same) itself)
  kept_named x n (inr kid) e = child_by x n kid.row kid refl kid.row.doomed kid.row.name refl refl (sym (e ∙ kid_kept x kid))

  -- A child row with a name and without a node is doomed.
  doomed_by : (x : ℕ) (kid : IsKid rows p x) (b : Bool) (o : Option ChildName) → kid.row.doomed ≡ b → kid.row.name ≡ o → IsSome o → None ≡ cond b None (option_map Child o) → IsDoomedKid rows p x
  doomed_by x kid true o doomed name some e = record { kid = kid; doomed = doomed }
  doomed_by x kid false None doomed name some e = never some
  doomed_by x kid false (Some c) doomed name some e = absurd (none_some (Child c) e)

  -- A row or a child of it without a node is a doomed child.
  pub kept_doomed : (x : ℕ) → (x ≡ p) ⊎ IsKid rows p x → None ≡ node_in rows p x → IsDoomedKid rows p x
  kept_doomed x (inl own) e = absurd (none_some Own (e ∙ own_kept x own))
  kept_doomed x (inr kid) e = doomed_by x kid kid.row.doomed kid.row.name refl refl (orderly.parents x p kid.row kid.lives kid.parent).1 (e ∙ kid_kept x kid)

-- ---- the names of the declaration and of the rows

module _ (rows : List Row) (next : ℕ) (sound : IsSound rows next) (p : ℕ) (d : Decl) (found : decl_of rows p ≡ Some d) where
  -- Declared children stand as the declaration has them, where a row that may be there has one.
  decl_by : (o : Option Row) → row_of rows p ≡ o → option_and_then (λ r. r.decl) o ≡ Some d → HasStatic rows p d
  decl_by None lives e = absurd (none_some d e)
  decl_by (Some r) lives e = sound.static p r d lives e

  -- The declared children of the row stand as its declaration has them.
  static : HasStatic rows p d
  static = decl_by (row_of rows p) refl found

  -- a declared child has a row
  static_row : (c : ChildName) → IsTrue (list_any (λ k. same_child (static_name k.name) c) d.children) → (x : ℕ) × IsNamedKid rows p x c
  static_row c declared =
      let one : (k : DeclaredChild) × IsTrue (same_child (static_name k.name) c) = any_some (λ k. same_child (static_name k.name) c) d.children declared in
      let same : static_name one.0.name ≡ c = same_child_exact (static_name one.0.name) c one.1 in
      let again : IsTrue (list_any (λ k. same_child (static_name k.name) (static_name one.0.name)) d.children) = subst (λ z. IsTrue (list_any (λ k. same_child (static_name k.name) z) d.children)) (sym same) declared in
      let many : 0 < count_by (λ k. same_child (static_name k.name) (static_name one.0.name)) d.children = any_counts (λ k. same_child (static_name k.name) (static_name one.0.name)) d.children again in
      let row : (r : Row) × (row_of rows r.inc ≡ Some r) × IsTrue (has_parent p r && has_name (static_name one.0.name) r) =
      any_row (λ r. has_parent p r && has_name (static_name one.0.name) r) rows next sound.orderly.increasing (counts_any (λ r. has_parent p r && has_name (static_name one.0.name) r) rows (subst (λ n. 0 < n) (sym (static.one_each one.0.name)) many)) in
      let parent : IsTrue (has_parent p row.0) = first_so (has_parent p row.0) (has_name (static_name one.0.name) row.0) row.2 in
      let name : row.0.name ≡ Some (static_name one.0.name) = some_name row.0.name (static_name one.0.name) (second_so (has_parent p row.0) (has_name (static_name one.0.name) row.0) row.2) in
      let kept : (row.0.doomed ≡ false) × (row.0.gives ≡ []) = static.kept row.0.inc row.0 row.1 (and_pair (has_parent p row.0) (option_map_or (λ c. is_none c.coll) row.0.name false) parent (subst (λ o. IsTrue (option_map_or (λ c. is_none c.coll) o false)) (sym name) refl)) in
      (row.0.inc, kid_of_row rows next sound.orderly p c row.0 row.1 (option_eq_some row.0.parent p parent) (name ∙ ap Some same) kept.0)

  -- a row whose name has no collection is declared
  row_static : (x : ℕ) (c : ChildName) → IsNamedKid rows p x c → c.coll ≡ None → IsTrue (list_any (λ k. same_child (static_name k.name) c) d.children)
  row_static x c kid alone =
      let same : c ≡ static_name c.name = static_same c alone in
      let there : IsTrue (list_any (λ r. has_parent p r && has_name (static_name c.name) r) rows) =
      row_any (λ r. has_parent p r && has_name (static_name c.name) r) rows x kid.kid.row kid.kid.lives (and_pair (has_parent p kid.kid.row) (has_name (static_name c.name) kid.kid.row) (eq_some kid.kid.row.parent p kid.kid.parent) (name_some kid.kid.row.name (static_name c.name) (kid.name ∙ ap Some same))) in
      let many : 0 < count_by (λ r. has_parent p r && has_name (static_name c.name) r) rows = any_counts (λ r. has_parent p r && has_name (static_name c.name) r) rows there in
      subst (λ z. IsTrue (list_any (λ k. same_child (static_name k.name) z) d.children)) (sym same)
      (counts_any (λ k. same_child (static_name k.name) (static_name c.name)) d.children (subst (λ n. 0 < n) (static.one_each c.name) many))

  -- ---- children of collections

  -- A row that is listed as a dynamic child of a name isn't doomed and has that name.
  listed_by : (c : ChildName) (r : Row) (b : Bool) (o : Option ChildName) → r.doomed ≡ b → r.name ≡ o → IsTrue (list_any (λ (k : DynChild). same_child k.name c) (cond b [] (elim o as (λ _. List DynChild) [ None ↦ [] | Some e ↦ in_collection e r.gives ]))) → (r.doomed ≡ false) × (r.name ≡ Some c)
  listed_by c r true o doomed name h = never h
  listed_by c r false None doomed name h = never h
  listed_by c r false (Some e) doomed name h = (doomed, name ∙ ap Some (same_child_exact e c (at (is_some e.coll) h))) where
    at : (t : Bool) → IsTrue (list_any (λ (k : DynChild). same_child k.name c) (cond t (record { name = e; gives = r.gives } ∷ []) [])) → IsTrue (same_child e c)
    at true h = elim (or_cases (same_child e c) false h) [ inl same ↦ same | inr no_way ↦ never no_way ]
    at false h = never h

  -- A name among the dynamic children is that of a child row that isn't doomed.
  dynamic_row : (c : ChildName) → IsTrue (list_any (λ k. same_child k.name c) (dynamic_children rows p)) → (x : ℕ) × IsNamedKid rows p x c
  dynamic_row c listed =
      let row : (r : Row) × (row_of rows r.inc ≡ Some r) × IsTrue ((has_parent p r && is_behind None r.inc) && list_any (λ k. same_child k.name c) (dynamic_child r)) =
      any_row (λ r. (has_parent p r && is_behind None r.inc) && list_any (λ k. same_child k.name c) (dynamic_child r)) rows next sound.orderly.increasing (sym (any_flat (λ k. same_child k.name c) dynamic_child (λ r. has_parent p r && is_behind None r.inc) rows) ∙ listed) in
      let test : IsTrue (has_parent p row.0 && is_behind None row.0.inc) = first_so (has_parent p row.0 && is_behind None row.0.inc) (list_any (λ k. same_child k.name c) (dynamic_child row.0)) row.2 in
      let is : (row.0.doomed ≡ false) × (row.0.name ≡ Some c) = listed_by c row.0 row.0.doomed row.0.name refl refl (second_so (has_parent p row.0 && is_behind None row.0.inc) (list_any (λ k. same_child k.name c) (dynamic_child row.0)) row.2) in
      (row.0.inc, kid_of_row rows next sound.orderly p c row.0 row.1 (option_eq_some row.0.parent p (first_so (has_parent p row.0) (is_behind None row.0.inc) test)) is.1 is.0)

  -- what a child row that isn't doomed is listed as
  listed_as : (r : Row) (c : ChildName) → r.doomed ≡ false → r.name ≡ Some c → dynamic_child r ≡ in_collection c r.gives
  listed_as r c there name = rw there (ap (λ o. elim o as (λ _. List DynChild) [ None ↦ [] | Some e ↦ in_collection e r.gives ]) name)

  -- The name of a child row in a collection, not doomed, is among the dynamic children.
  row_dynamic : (x : ℕ) (c : ChildName) → IsNamedKid rows p x c → IsTrue (is_some c.coll) → IsTrue (list_any (λ k. same_child k.name c) (dynamic_children rows p))
  row_dynamic x c kid inside =
      any_flat (λ k. same_child k.name c) dynamic_child (λ r. has_parent p r && is_behind None r.inc) rows
      ∙ row_any (λ r. (has_parent p r && is_behind None r.inc) && list_any (λ k. same_child k.name c) (dynamic_child r)) rows x kid.kid.row kid.kid.lives
      (and_pair (has_parent p kid.kid.row && is_behind None kid.kid.row.inc) (list_any (λ k. same_child k.name c) (dynamic_child kid.kid.row)) (and_pair (has_parent p kid.kid.row) (is_behind None kid.kid.row.inc) (eq_some kid.kid.row.parent p kid.kid.parent) refl)
      (subst (λ l. IsTrue (list_any (λ k. same_child k.name c) l)) (sym (listed_as kid.kid.row c kid.there kid.name)) listed))
    where
      listed : IsTrue (list_any (λ (k : DynChild). same_child k.name c) (in_collection c kid.kid.row.gives))
      listed = rw inside (or_left (same_child c c) false (child_refl c))

  -- ---- nodes

  -- A child's name is a node exactly where a declared or a dynamic child has it.
  node_parts : (c : ChildName) → is_node d (dynamic_children rows p) (Child c) ≡ (list_any (λ k. same_child (static_name k.name) c) d.children || list_any (λ k. same_child k.name c) (dynamic_children rows p))
  node_parts c =
      list_any-append (λ y. same_node y (Child c)) (Own ∷ map static_node d.children) (map dynamic_node (dynamic_children rows p))
      ∙ ap (λ b. b || list_any (λ y. same_node y (Child c)) (map dynamic_node (dynamic_children rows p))) (list_any_map (λ y. same_node y (Child c)) static_node d.children)
      ∙ ap (λ b. list_any (λ k. same_child (static_name k.name) c) d.children || b) (list_any_map (λ y. same_node y (Child c)) dynamic_node (dynamic_children rows p))

  -- a row with a node is one of the graph by names
  pub row_node : (x : ℕ) (n : Node) → IsNamed rows p x n → IsTrue (is_node d (dynamic_children rows p) n)
  row_node _ _ itself = refl
  row_node _ _ (child x c kid) = node_parts c ∙ by c.coll refl where
    by : (o : Option (List ℕ)) → c.coll ≡ o → IsTrue (list_any (λ k. same_child (static_name k.name) c) d.children || list_any (λ k. same_child k.name c) (dynamic_children rows p))
    by None e = or_left (list_any (λ k. same_child (static_name k.name) c) d.children) (list_any (λ k. same_child k.name c) (dynamic_children rows p)) (row_static x c kid e)
    by (Some k) e = or_right (list_any (λ k. same_child (static_name k.name) c) d.children) (list_any (λ k. same_child k.name c) (dynamic_children rows p)) (row_dynamic x c kid (ap is_some e))

  -- and each node of that graph is a row's
  pub node_row : (n : Node) → IsTrue (is_node d (dynamic_children rows p) n) → (x : ℕ) × IsNamed rows p x n
  node_row Own h = (p, itself)
  node_row (Child c) h = elim (or_cases (list_any (λ k. same_child (static_name k.name) c) d.children) (list_any (λ k. same_child k.name c) (dynamic_children rows p)) (sym (node_parts c) ∙ h)) [
    | inl declared ↦ (let row : (x : ℕ) × IsNamedKid rows p x c = static_row c declared in (row.0, child row.0 c row.1))
    | inr listed ↦ (let row : (x : ℕ) × IsNamedKid rows p x c = dynamic_row c listed in (row.0, child row.0 c row.1))
  ]

  -- ---- gives

  -- What was given to a dynamic child by its name is what the child rows of that name were given.
  given_flat : (c : ChildName) → gives_of (dynamic_children rows p) c ≡ flat_map (λ r. cond (has_parent p r && is_behind None r.inc) (flat_map (λ k. k.gives) (filter (λ k. same_child k.name c) (dynamic_child r))) []) rows
  given_flat c = flat_flat (λ k. k.gives) (λ k. same_child k.name c) dynamic_child (λ r. has_parent p r && is_behind None r.inc) rows

  -- A child of another name, or in no collection, was given nothing for this name.
  alone_gives : (e c : ChildName) (gives : List Give) (t : Bool) → is_some e.coll ≡ t → (same_child e c ≡ false) ⊎ (t ≡ false) → flat_map (λ k. k.gives) (filter (λ k. same_child k.name c) (in_collection e gives)) ≡ []
  alone_gives e c gives false e_coll why = rw e_coll refl
  alone_gives e c gives true e_coll (inl other) = rw e_coll (rw other refl)
  alone_gives e c gives true e_coll (inr no_way) = absurd (true≢false no_way)

  -- A row that is doomed or has another name was given nothing for this name.
  others_give : (c : ChildName) (s : Row) (b : Bool) (o : Option ChildName) → s.doomed ≡ b → s.name ≡ o → ((e : ChildName) → s.doomed ≡ false → s.name ≡ Some e → same_child e c ≡ false) → flat_map (λ k. k.gives) (filter (λ k. same_child k.name c) (cond b [] (elim o as (λ _. List DynChild) [ None ↦ [] | Some e ↦ in_collection e s.gives ]))) ≡ []
  others_give c s true o doomed name other = refl
  others_give c s false None doomed name other = refl
  others_give c s false (Some e) doomed name other = alone_gives e c s.gives (is_some e.coll) refl (inl (other e doomed name))

  -- A row other than the named child adds nothing to what was given for that name.
  other_row : (x : ℕ) (c : ChildName) → IsNamedKid rows p x c → (j : ℕ) (s : Row) → row_of rows j ≡ Some s → j ≢ x → cond (has_parent p s && is_behind None s.inc) (flat_map (λ k. k.gives) (filter (λ k. same_child k.name c) (dynamic_child s))) [] ≡ []
  other_row x c kid j s lives apart = by (has_parent p s && is_behind None s.inc) refl where
    by : (t : Bool) → (has_parent p s && is_behind None s.inc) ≡ t → cond t (flat_map (λ k. k.gives) (filter (λ k. same_child k.name c) (dynamic_child s))) [] ≡ []
    by false e = refl
    by true e =
        others_give c s s.doomed s.name refl refl (λ b there name. not_true (same_child b c) (λ same.
        let parent : s.parent ≡ Some p = option_eq_some s.parent p (first_so (has_parent p s) (is_behind None s.inc) e) in
        apart (sound.orderly.one_name j x s kid.kid.row lives kid.kid.lives there kid.there (parent ∙ sym kid.kid.parent) (name ∙ ap Some (same_child_exact b c same) ∙ sym kid.name))))

  -- What is given for a child's name by its own row is what that row was given.
  own_by : (x : ℕ) (c : ChildName) (kid : IsNamedKid rows p x c) (o : Option (List ℕ)) → c.coll ≡ o → flat_map (λ k. k.gives) (filter (λ k. same_child k.name c) (in_collection c kid.kid.row.gives)) ≡ kid.kid.row.gives
  own_by x c kid None e =
      alone_gives c c kid.kid.row.gives false (ap is_some e) (inr refl)
      ∙ sym (static.kept x kid.kid.row kid.kid.lives (and_pair (has_parent p kid.kid.row) (option_map_or (λ c. is_none c.coll) kid.kid.row.name false) (eq_some kid.kid.row.parent p kid.kid.parent) (subst (λ o. IsTrue (option_map_or (λ c. is_none c.coll) o false)) (sym kid.name) (ap is_none e)))).1
  own_by x c kid (Some k) e = let inside : is_some c.coll ≡ true = ap is_some e in rw inside (rw (child_refl c) (append_nothing kid.kid.row.gives)) where
    append_nothing : (l : List Give) → l ++ [] ≡ l
    append_nothing [] = refl
    append_nothing (h ∷ hs) = ap (λ l. h ∷ l) (append_nothing hs)

  -- The row of a named child adds just what it was given.
  own_row : (x : ℕ) (c : ChildName) (kid : IsNamedKid rows p x c) → cond (has_parent p kid.kid.row && is_behind None kid.kid.row.inc) (flat_map (λ k. k.gives) (filter (λ k. same_child k.name c) (dynamic_child kid.kid.row))) [] ≡ kid.kid.row.gives
  own_row x c kid =
      rw (and_pair (has_parent p kid.kid.row) (is_behind None kid.kid.row.inc) (eq_some kid.kid.row.parent p kid.kid.parent) refl)
      (ap (λ l. flat_map (λ k. k.gives) (filter (λ k. same_child k.name c) l)) (listed_as kid.kid.row c kid.there kid.name) ∙ own_by x c kid c.coll refl)

  -- what was given by a name is what its row was given
  pub gives_same : (x : ℕ) (c : ChildName) (kid : IsNamedKid rows p x c) → gives_of (dynamic_children rows p) c ≡ kid.kid.row.gives
  gives_same x c kid =
      given_flat c
      ∙ only_row (λ r. cond (has_parent p r && is_behind None r.inc) (flat_map (λ k. k.gives) (filter (λ k. same_child k.name c) (dynamic_child r))) []) rows next x kid.kid.row sound.orderly.increasing kid.kid.lives (other_row x c kid)
      ∙ own_row x c kid
