-- Changes of the rows that leave every level without a cycle of strong edges.
use Rattle.std.proofs.Common.{◌≡◌, ℕ, ◌+◌, ◌<◌, ◌≤◌, ◌==◌, List, [], ◌∷◌, ◌++◌, Bool, true, false, ◌&&◌, ◌||◌, true≢false, Some, None, IsTrue, is_some, length, not, option_and_then, refl, sym, ◌∙◌, ap, subst, inl, inr, ◌⊎◌, arith}
use Rattle.std.specs.List.{list_any}
use Rattle.std.specs.Cmp.{unsigned_Decides}
use Rattle.std.proofs.lemmas.List.Folds.{list_any-append}
use Rattle.cm_names.specs.declared.child.ChildName.{ChildName}
use Rattle.cm_facts.proofs.Booleans.{or_assoc}
use Rattle.cm_decl.specs.declared.decl.Decl.{Decl}
use Rattle.cm_decl.specs.declared.rows.Give.{Give}
use Rattle.cm_decl.specs.declared.node.DynChild.{DynChild}
use Rattle.cm_decl.specs.declared.node.Node.TheVariants.{Child}
use Rattle.cm_decl.specs.Same.{same_child}
use Rattle.cm_decl.specs.Graph.{StrongOn, is_node, static_name, gives_of}
use Rattle.cm_decl.specs.Reach.{NoCycle}
use Rattle.cm_decl.specs.Valid.{IsValid}
use Rattle.cm_decl.proofs.lemmas.Sameness.{never, same_node-refl}
use Rattle.cm_world.specs.declared.row.Row.{Row}
use Rattle.cm_world.specs.Rows.{row_of, decl_of, child_of, is_below}
use Rattle.cm_world.specs.Level.{LevelStrong}
use Rattle.cm_world.specs.Sound.{IncarnationsIncrease, IsSound}
use Rattle.cm_world.specs.End.{changed, set_pending, set_decl, child_rows}
use Rattle.cm_world.specs.Create.{dynamic_name, dynamic_children, dynamic_with, created_row}
use Rattle.cm_world.specs.After.{others_than}
use Rattle.cm_world.proofs.lemmas.trees.Finding.{none_some, some_same, row_of-inc}
use Rattle.cm_world.proofs.lemmas.trees.Walks.{below_next}
use Rattle.cm_trees.proofs.rows.Rows.{lives_left, lives_pushed, Was, was_before, row_of-changed, increasing_changed, increasing_push}
use Rattle.cm_trees.proofs.rows.Growth.{childless}
use Rattle.cm_trees.specs.Names.{dynamic_children as listed_children}
use Rattle.cm_trees.proofs.trees.Trees.{or_left, or_right, and_pair, not_true}
use Rattle.cm_trees.proofs.names.Naming.{IsNamedKid, child, kid_not_own, row_node, gives_same}
use Rattle.cm_laws.proofs.lemmas.actions.Tasks.{by_test, find_split, edit_other}
use Rattle.cm_laws.proofs.lemmas.levels.Kept.{decl_row, row_decl, named_kid, WasKid, IsKept, kept_acyclic}
use Rattle.cm_laws.proofs.lemmas.levels.Named.{IsListed, named_acyclic, node_parts, given_parts}
use Rattle.cm_laws.proofs.lemmas.levels.Rows.{left_lives, left_increasing, IsNewKid, new_kid, same_children}
use Rattle.cm_trees.proofs.rows.Taking.{orderly_taken}

-- no level of these rows has a cycle of strong edges
abbrev pub AllAcyclic : List Row → Type 0
AllAcyclic rows = (p : ℕ) → NoCycle (LevelStrong rows p)

-- a change that leaves all that levels are made of, but may doom a row
pub record KeepsLevels (change : Row → Row) : Type 0 where
  pub inc : (r : Row) → (change r).inc ≡ r.inc
  pub parent : (r : Row) → (change r).parent ≡ r.parent
  pub name : (r : Row) → (change r).name ≡ r.name
  pub decl : (r : Row) → (change r).decl ≡ r.decl
  pub gives : (r : Row) → (change r).gives ≡ r.gives
  pub doomed : (r : Row) → r.doomed ≡ true → (change r).doomed ≡ true

-- ---- one row is changed

-- a change that leaves all that a child row is to its level
record KeepsKid (change : Row → Row) : Type 0 where
  pub inc : (r : Row) → (change r).inc ≡ r.inc
  pub parent : (r : Row) → (change r).parent ≡ r.parent
  pub name : (r : Row) → (change r).name ≡ r.name
  pub gives : (r : Row) → (change r).gives ≡ r.gives
  pub there : (r : Row) → (change r).doomed ≡ false → r.doomed ≡ false

-- A child row, as before or changed, was a child that was the same to its level.
was_kid_by : (change : Row → Row) → KeepsKid change → (rows : List Row) (p x : ℕ) (s r : Row) → row_of rows x ≡ Some r → s.parent ≡ Some p → (s ≡ r) ⊎ (s ≡ change r) → WasKid rows p x s
was_kid_by change keeps rows p x s r lives parent (inl e) = record {
  kid = record { row = r; lives = lives; parent = sym (ap (λ z. z.parent) e) ∙ parent };
  name = ap (λ z. z.name) e;
  gives = ap (λ z. z.gives) e;
  there = λ h. sym (ap (λ z. z.doomed) e) ∙ h;
}
was_kid_by change keeps rows p x s r lives parent (inr e) = record {
  kid = record { row = r; lives = lives; parent = sym (ap (λ z. z.parent) e ∙ keeps.parent r) ∙ parent };
  name = ap (λ z. z.name) e ∙ keeps.name r;
  gives = ap (λ z. z.gives) e ∙ keeps.gives r;
  there = λ h. keeps.there r (sym (ap (λ z. z.doomed) e) ∙ h);
}

-- a child row was one before
was_kid : (change : Row → Row) → KeepsKid change → (rows : List Row) (i p x : ℕ) (s : Row) → row_of (changed i change rows) x ≡ Some s → s.parent ≡ Some p → WasKid rows p x s
was_kid change keeps rows i p x s lives parent =
    let was : Was change (row_of rows x) s = was_before i change keeps.inc rows x s lives in
    was_kid_by change keeps rows p x s was.row was.was parent was.is

module _ (change : Row → Row) (keeps : KeepsLevels change) where
  -- The change leaves all that a child row is to its level.
  keeps_kid : KeepsKid change
  keeps_kid = record {
    inc = keeps.inc;
    parent = keeps.parent;
    name = keeps.name;
    gives = keeps.gives;
    there = λ r h. not_true r.doomed (λ doomed. true≢false (sym (keeps.doomed r doomed) ∙ h));
  }

  -- A row, as before or changed, has the same declaration.
  same_decl : (s r : Row) → (s ≡ r) ⊎ (s ≡ change r) → s.decl ≡ r.decl
  same_decl s r (inl e) = ap (λ z. z.decl) e
  same_decl s r (inr e) = ap (λ z. z.decl) e ∙ keeps.decl r

  -- Each level is kept by a change of one row.
  changed_kept : (rows : List Row) (i p : ℕ) → IsKept rows (changed i change rows) p
  changed_kept rows i p = record {
    kids = λ x kid. was_kid change keeps_kid rows i p x kid.row kid.lives kid.parent;
    decl = λ d found. let row : (r : Row) × (row_of (changed i change rows) p ≡ Some r) × (r.decl ≡ Some d) = decl_row (changed i change rows) p d found in
        let was : Was change (row_of rows p) row.0 = was_before i change keeps.inc rows p row.0 row.1 in
        row_decl rows p d was.row was.was (sym (same_decl row.0 was.row was.is) ∙ row.2);
  }

-- In a sound tree, where one row is changed so that levels are kept, no level has a cycle.
pub acyclic_changed : (rows : List Row) (next i : ℕ) (change : Row → Row) → IsSound rows next → KeepsLevels change → AllAcyclic (changed i change rows)
acyclic_changed rows next i change sound keeps p =
    kept_acyclic rows (changed i change rows) next next sound.orderly (increasing_changed i next change keeps.inc rows sound.orderly.increasing) p (changed_kept change keeps rows i p) (sound.acyclic p)

-- ---- rows leave

-- In a sound tree, where a row and all below it leave, no level has a cycle.
pub acyclic_purged : (rows : List Row) (next i : ℕ) → IsSound rows next → AllAcyclic (others_than rows i)
acyclic_purged rows next i sound p =
    let left : Row → Bool = λ r. not (is_below rows i r.inc) in
    let was : (x : ℕ) (r : Row) → row_of (others_than rows i) x ≡ Some r → row_of rows x ≡ Some r = λ x r. left_lives left rows next x r sound.orderly.increasing in
    kept_acyclic rows (others_than rows i) next next sound.orderly (left_increasing left rows next sound.orderly.increasing) p (record {
      kids = λ x kid. record {
        kid = record { row = kid.row; lives = was x kid.row kid.lives; parent = kid.parent };
        name = refl;
        gives = refl;
        there = λ h. h;
      };
      decl = λ d found. let row : (r : Row) × (row_of (others_than rows i) p ≡ Some r) × (r.decl ≡ Some d) = decl_row (others_than rows i) p d found in
          row_decl rows p d row.0 (was p row.0 row.1) row.2;
    }) (sound.acyclic p)

-- ---- a row gets its declaration

module _ (rows : List Row) (next i : ℕ) (url : List ℕ) (d : Decl) (r : Row) (sound : IsSound rows next) (lives : row_of rows i ≡ Some r) (unresolved : r.decl ≡ None) (valid : IsValid d) where
  -- the row with its declaration
  abbrev resolve : Row → Row
  resolve s = set_decl url d (set_pending None s)

  -- The rows with the one changed.
  abbrev changed_rows : List Row
  changed_rows = changed i resolve rows

  -- the rows with those of the declared children
  abbrev resolved_rows : List Row
  resolved_rows = changed_rows ++ child_rows i next d.children

  -- A resolve leaves all that a child row is to its level.
  resolved_keeps : KeepsKid resolve
  resolved_keeps = record { inc = λ r. refl; parent = λ r. refl; name = λ r. refl; gives = λ r. refl; there = λ r h. h }

  -- a row that lives then lived before, or is that of a declared child
  either_row : (x : ℕ) (s : Row) → row_of resolved_rows x ≡ Some s → (row_of changed_rows x ≡ Some s) ⊎ IsNewKid i next d.children s
  either_row x s here = elim (find_split (λ r. r.inc == x) changed_rows (child_rows i next d.children) s here) [
    | inl old ↦ inl old
    | inr new ↦ inr (new_kid i next d.children x s new)
  ]

  -- Incarnations increase after a resolve.
  resolved_increasing : IncarnationsIncrease (next + length d.children) resolved_rows
  resolved_increasing = (orderly_taken i next url d rows sound.orderly (ap is_some lives) (ap (λ o. option_and_then (λ r. r.decl) o) lives ∙ unresolved) valid).increasing

  -- any other level is kept
  others_kept : (p : ℕ) → (p ≡ i → ⊥) → IsKept rows resolved_rows p
  others_kept p apart = record {
    kids = λ x kid. elim (either_row x kid.row kid.lives) [
      | inl old ↦ was_kid resolve resolved_keeps rows i p x kid.row old kid.parent
      | inr new ↦ absurd (apart (some_same p i (sym kid.parent ∙ new.under)))
    ];
    decl = λ e found. let row : (s : Row) × (row_of resolved_rows p ≡ Some s) × (s.decl ≡ Some e) = decl_row resolved_rows p e found in
        elim (either_row p row.0 row.1) [
          | inl old ↦ row_decl rows p e row.0 (sym (edit_other (λ r. r.inc) i resolve (λ r. refl) p rows apart) ∙ old) row.2
          | inr new ↦ absurd (none_some e (sym new.undeclared ∙ row.2))
        ];
  }

  -- the row's own level has the declared children alone
  kid_listed : (x : ℕ) (c : ChildName) (kid : IsNamedKid resolved_rows i x c) → IsNewKid i next d.children kid.kid.row → IsListed resolved_rows i d [] x c
  kid_listed x c kid new = record {
    row = kid.kid.row;
    lives = kid.kid.lives;
    name = kid.name;
    other = not_true (x == i) (λ e.
        let same : x ≡ i = (unsigned_Decides x i).0 e in
        let own : kid.kid.row.inc ≡ x = row_of-inc resolved_rows x kid.kid.row kid.kid.lives in
        let above : next ≤ kid.kid.row.inc = new.above in
        let low : i < next = below_next rows next i r sound.orderly.increasing lives in
        let no_way : ⊥ = absurd (omega arith) in no_way);
    node = node_parts d [] c ∙ or_left (list_any (λ k. same_child (static_name k.name) c) d.children) false (new.declared c kid.name);
    given = λ test some. never (subst (λ g. IsTrue (list_any test g)) new.ungiven some);
  }

  -- A child that is found after a resolve is listed in the new declaration.
  resolved_listed : (c : ChildName) (x : ℕ) → child_of resolved_rows i c ≡ Some x → IsListed resolved_rows i d [] x c
  resolved_listed c x finds =
      let kid : IsNamedKid resolved_rows i x c = named_kid resolved_rows (next + length d.children) resolved_increasing i c x finds in
      elim (either_row x kid.kid.row kid.kid.lives) [
        | inl old ↦
            let was : WasKid rows i x kid.kid.row = was_kid resolve resolved_keeps rows i i x kid.kid.row old kid.kid.parent in
            absurd (childless rows next i r sound.orderly lives unresolved x was.kid.row was.kid.lives was.kid.parent)
        | inr new ↦ kid_listed x c kid new
      ]

  -- The row that is resolved has the new declaration.
  resolved_decl : decl_of resolved_rows i ≡ Some d
  resolved_decl =
      row_decl resolved_rows i d (resolve r)
      (lives_left changed_rows (child_rows i next d.children) i (resolve r) (row_of-changed i resolve (λ r. refl) rows r lives)) refl

  -- The own level of the resolved row has no cycle of strong edges.
  resolved_own : NoCycle (LevelStrong resolved_rows i)
  resolved_own = named_acyclic resolved_rows i d [] resolved_decl resolved_listed valid.acyclic

  -- No level has a cycle of strong edges after a resolve.
  resolved_level : AllAcyclic resolved_rows
  resolved_level p =
      by_test p i
      (λ same. subst (λ j. NoCycle (LevelStrong resolved_rows j)) (sym same) resolved_own)
      (λ apart. kept_acyclic rows resolved_rows next (next + length d.children) sound.orderly resolved_increasing p (others_kept p apart) (sound.acyclic p))

-- where an unresolved row gets a valid declaration, with its children
pub acyclic_resolved : (rows : List Row) (next i : ℕ) (url : List ℕ) (d : Decl) (r : Row) → IsSound rows next → row_of rows i ≡ Some r → r.decl ≡ None → IsValid d → AllAcyclic (changed i (λ r. set_decl url d (set_pending None r)) rows ++ child_rows i next d.children)
acyclic_resolved rows next i url d r sound lives unresolved valid = resolved_level rows next i url d r sound lives unresolved valid

-- ---- a child is created

module _ (rows : List Row) (next p : ℕ) (coll name url : List ℕ) (gives : List Give) (d : Decl) (sound : IsSound rows next) (found : decl_of rows p ≡ Some d) where
  -- The name of the created row.
  abbrev own_name : ChildName
  own_name = dynamic_name coll name

  -- the row of the new child
  abbrev created : Row
  created = created_row next p coll name url gives

  -- the rows with it
  abbrev created_rows : List Row
  created_rows = rows ++ created ∷ []

  -- the child as it is listed
  abbrev listed : DynChild
  listed = record { name = own_name; gives = gives }

  -- the children in collections, with it
  abbrev children : List DynChild
  children = dynamic_with rows p own_name gives

  -- Incarnations increase with the created row.
  created_increasing : IncarnationsIncrease (next + 1) created_rows
  created_increasing = increasing_push rows next created refl sound.orderly.increasing

  -- any other level is kept
  created_kept : (q : ℕ) → (q ≡ p → ⊥) → IsKept rows created_rows q
  created_kept q apart = record {
    kids = λ x kid. elim (lives_pushed rows created kid.row x kid.lives) [
      | inl old ↦ record { kid = record { row = kid.row; lives = old; parent = kid.parent }; name = refl; gives = refl; there = λ h. h }
      | inr new ↦ absurd (apart (some_same q p (sym kid.parent ∙ ap (λ z. z.parent) new.0)))
    ];
    decl = λ e declared. let row : (s : Row) × (row_of created_rows q ≡ Some s) × (s.decl ≡ Some e) = decl_row created_rows q e declared in
        elim (lives_pushed rows created row.0 q row.1) [
          | inl old ↦ row_decl rows q e row.0 old row.2
          | inr new ↦ absurd (none_some e (sym (ap (λ z. z.decl) new.0) ∙ row.2))
        ];
  }

  -- what was given to a name is that, and what the new child was given
  with_given : (c : ChildName) (test : Give → Bool) → list_any test (gives_of children c) ≡ (list_any test (gives_of (listed_children rows p) c) || ((same_child own_name c && list_any test gives) || false))
  with_given c test =
      let given : DynChild → Bool = λ k. same_child k.name c && list_any test k.gives in
      given_parts children c test
      ∙ list_any-append given (dynamic_children rows p) (listed ∷ [])
      ∙ ap (λ b. b || list_any given (listed ∷ [])) (ap (list_any given) (same_children rows p) ∙ sym (given_parts (listed_children rows p) c test))

  -- the nodes are those, and that of the new child
  with_node : (c : ChildName) → is_node d children (Child c) ≡ (is_node d (listed_children rows p) (Child c) || (same_child own_name c || false))
  with_node c =
      let declared : Bool = list_any (λ k. same_child (static_name k.name) c) d.children in
      node_parts d children c
      ∙ ap (λ b. declared || b) (list_any-append (λ k. same_child k.name c) (dynamic_children rows p) (listed ∷ []))
      ∙ or_assoc declared (list_any (λ k. same_child k.name c) (dynamic_children rows p)) (list_any (λ k. same_child k.name c) (listed ∷ []))
      ∙ ap (λ b. b || list_any (λ k. same_child k.name c) (listed ∷ [])) (ap (λ l. declared || list_any (λ k. same_child k.name c) l) (same_children rows p) ∙ sym (node_parts d (listed_children rows p) c))

  -- A child of a name that was there is listed with the created one.
  old_listed : (x : ℕ) (c : ChildName) → IsNamedKid rows p x c → IsListed created_rows p d children x c
  old_listed x c kid = record {
    row = kid.kid.row;
    lives = lives_left rows (created ∷ []) x kid.kid.row kid.kid.lives;
    name = kid.name;
    other = kid_not_own rows next sound.orderly p x kid.kid;
    node = with_node c ∙ or_left (is_node d (listed_children rows p) (Child c)) (same_child own_name c || false) (row_node rows next sound p d found x (Child c) (child x c kid));
    given = λ test some. with_given c test
        ∙ or_left (list_any test (gives_of (listed_children rows p) c)) ((same_child own_name c && list_any test gives) || false)
        (subst (λ g. IsTrue (list_any test g)) (sym (gives_same rows next sound p d found x c kid)) some);
  }

  -- The created row is listed under its own name.
  new_listed : (c : ChildName) → own_name ≡ c → row_of created_rows next ≡ Some created → IsListed created_rows p d children next c
  new_listed c named lives =
      let same : IsTrue (same_child own_name c) = subst (λ b. IsTrue (same_child own_name b)) named (same_node-refl (Child own_name)) in
      record {
        row = created;
        lives = lives;
        name = ap Some named;
        other = not_true (next == p) (λ e.
            let equal : next ≡ p = (unsigned_Decides next p).0 e in
            let row : (r : Row) × (row_of rows p ≡ Some r) × (r.decl ≡ Some d) = decl_row rows p d found in
            let low : p < next = below_next rows next p row.0 sound.orderly.increasing row.1 in
            let no_way : ⊥ = absurd (omega arith) in no_way);
        node = with_node c ∙ or_right (is_node d (listed_children rows p) (Child c)) (same_child own_name c || false) (or_left (same_child own_name c) false same);
        given = λ test some. with_given c test
            ∙ or_right (list_any test (gives_of (listed_children rows p) c)) ((same_child own_name c && list_any test gives) || false)
            (or_left (same_child own_name c && list_any test gives) false (and_pair (same_child own_name c) (list_any test gives) same some));
      }

  -- A child that is found and is the created row is listed under its name.
  new_found : (x : ℕ) (c : ChildName) (kid : IsNamedKid created_rows p x c) → kid.kid.row ≡ created → next ≡ x → IsListed created_rows p d children x c
  new_found x c kid same own =
      subst (λ j. IsListed created_rows p d children j c) own
      (new_listed c (some_same own_name c (sym (ap (λ z. z.name) same) ∙ kid.name)) (ap (row_of created_rows) own ∙ kid.kid.lives ∙ ap Some same))

  -- A child that is found by a name is listed with the created one.
  created_listed : (c : ChildName) (x : ℕ) → child_of created_rows p c ≡ Some x → IsListed created_rows p d children x c
  created_listed c x finds =
      let kid : IsNamedKid created_rows p x c = named_kid created_rows (next + 1) created_increasing p c x finds in
      elim (lives_pushed rows created kid.kid.row x kid.kid.lives) [
        | inl old ↦ old_listed x c (record { kid = record { row = kid.kid.row; lives = old; parent = kid.kid.parent }; there = kid.there; name = kid.name })
        | inr new ↦ new_found x c kid new.0 new.1
      ]

  -- The parent has its declaration with the created row.
  created_decl : decl_of created_rows p ≡ Some d
  created_decl =
      let row : (r : Row) × (row_of rows p ≡ Some r) × (r.decl ≡ Some d) = decl_row rows p d found in
      row_decl created_rows p d row.0 (lives_left rows (created ∷ []) p row.0 row.1) row.2

  -- The parent's level has no cycle of strong edges, where its nodes with the new one have none.
  created_own : NoCycle (StrongOn d children) → NoCycle (LevelStrong created_rows p)
  created_own acyclic =
      named_acyclic created_rows p d children created_decl created_listed acyclic

  -- No level has a cycle of strong edges with the created row, where the nodes have none.
  created_level : NoCycle (StrongOn d children) → AllAcyclic created_rows
  created_level acyclic q =
      by_test q p
      (λ same. subst (λ j. NoCycle (LevelStrong created_rows j)) (sym same) (created_own acyclic))
      (λ apart. kept_acyclic rows created_rows next (next + 1) sound.orderly created_increasing q (created_kept q apart) (sound.acyclic q))

-- In a sound tree, where a child comes with which the names have no cycle, no level has one.
pub acyclic_created : (rows : List Row) (next p : ℕ) (coll name url : List ℕ) (gives : List Give) (d : Decl) → IsSound rows next → decl_of rows p ≡ Some d → child_of rows p (dynamic_name coll name) ≡ None → NoCycle (StrongOn d (dynamic_with rows p (dynamic_name coll name) gives)) → AllAcyclic (rows ++ created_row next p coll name url gives ∷ [])
acyclic_created rows next p coll name url gives d sound found unused acyclic = created_level rows next p coll name url gives d sound found acyclic
