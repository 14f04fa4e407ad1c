-- A shutdown never comes to a dead end.
use Rattle.std.proofs.Common.{◌≡◌, ◌≢◌, ℕ, zero, suc, ◌+◌, ◌-◌, ◌<◌, List, [], ◌∷◌, Bool, true, false, ◌&&◌, ◌==◌, true≢false, Option, Some, None, IsTrue, is_some, refl, sym, ◌∙◌, ap, subst, inl, inr, ◌⊎◌, arith}
use Rattle.std.specs.List.{list_any}
use Rattle.std.specs.Option.{option_map_or}
use Rattle.std.specs.Cmp.{unsigned_Decides, second_so}
use Rattle.cm_facts.proofs.Booleans.{true_and_false}
use Rattle.cm_decl.specs.Reach.{DependencyPath, Reaches, NoCycle}
use Rattle.cm_decl.specs.RealmGraph.{IsImplied, Depends}
use Rattle.cm_decl.proofs.lemmas.Sameness.{never}
use Rattle.cm_decl.proofs.lemmas.cycles.Reaching.{Reaches-trans}
use Rattle.cm_world.specs.declared.row.Row.{Row}
use Rattle.cm_world.specs.Rows.{row_of, has_parent, is_live, is_below, is_closing, is_subtree_shut}
use Rattle.cm_world.specs.Level.{is_child_row, is_level_node, level_sources, is_from_row, level_edge, level, LevelStrong}
use Rattle.cm_world.specs.LevelInside.{LevelOn}
use Rattle.cm_world.specs.Sound.{IsParent, IsSound}
use Rattle.cm_world.specs.Stopping.{is_wholly_shut, IsFree, outermost, line_up_to, AllFree}
use Rattle.cm_world.proofs.lemmas.trees.Finding.{none_some}
use Rattle.cm_world.proofs.lemmas.trees.Levels.{node_row}
use Rattle.cm_world.proofs.lemmas.trees.Walks.{below_next}
use Rattle.cm_trees.specs.Kids.{IsKid}
use Rattle.cm_trees.specs.Laws.{CanStop}
use Rattle.cm_trees.specs.LawsInside.{HasNoDeadEnd}
use Rattle.cm_trees.proofs.trees.Trees.{below_self, below_kid, below_trans, kid_below, kid_higher, kid_within, parent_lives, shut_each, shut_all, and_pair, or_left, eq_some}
use Rattle.cm_trees.proofs.trees.Tops.{IsTop, top_of, top_below, top_lives, no_top}
use Rattle.cm_trees.proofs.trees.Paths.{path, path_top}
use Rattle.cm_trees.proofs.names.Graphs.{direct_acyclic, follow, search_below, reach_or_not}
use Rattle.cm_trees.proofs.levels.Shut.{own_shut, kid_shut}
use Rattle.cm_trees.proofs.levels.Nodes.{kid_node, kid_by, node_kid, depends_node}

-- a row at or below this one that isn't shut and is free at each level up to it
pub record CanUnder (rows : List Row) (c : ℕ) : Type 0 where
  pub inc : ℕ
  pub row : Row
  pub lives : row_of rows inc ≡ Some row
  pub below : IsTrue (is_below rows c inc)
  pub unshut : row.shut ≡ false
  pub free : AllFree rows inc (line_up_to rows c inc)

-- a node that isn't wholly shut and depends on another
record Binds (rows : List Row) (p x z : ℕ) : Type 0 where
  pub depends : Depends (level rows p) z x
  pub unshut : is_wholly_shut rows p z ≡ false

-- A child of the row at or below which not all is shut.
record IsUnshutKid (rows : List Row) (c k : ℕ) : Type 0 where
  pub kid : IsKid rows c k
  pub unshut : is_subtree_shut rows k ≡ false

-- ---- ways backwards

module _ {N : Type 0} (On : N → N → Type 0) where
  -- z is depended on by x
  abbrev pub Back : N → N → Type 0
  Back x z = Reaches On z x

  -- A way of edges turned around is a way from its end to its start.
  back_way : (x : N) (xs : List N) (y : N) → DependencyPath Back x xs y → Reaches On y x
  back_way x [] y way = way
  back_way x (z ∷ zs) y way = Reaches-trans On y z x (back_way z zs y way.1) way.0

  -- Edges without a cycle have none when they are turned around.
  back_acyclic : NoCycle On → NoCycle Back
  back_acyclic acyclic (x, way) = acyclic (x, back_way x way.0 x way.1)

module _ (rows : List Row) (next : ℕ) (sound : IsSound rows next) where
  -- ---- what is decided at a level

  -- It can be told whether one node strongly depends on another at a level.
  strong_or_not : (p x y : ℕ) → LevelStrong rows p x y ⊎ (LevelStrong rows p x y → ⊥)
  strong_or_not p x y = by (level_edge rows p x y) where
    by : (b : Bool) → IsTrue b ⊎ (IsTrue b → ⊥)
    by true = inl refl
    by false = inr (λ h. never h)

  -- What is strongly depended on at a level is a node of it.
  edge_end : (p x y : ℕ) → LevelStrong rows p x y → IsTrue (is_level_node rows p y)
  edge_end p x y strong = second_so (list_any (is_from_row rows p y) (level_sources rows p x) && is_level_node rows p x) (is_level_node rows p y) strong

  -- What is strongly depended on at a level is a row that lives.
  strong_there : (p x y : ℕ) → LevelStrong rows p x y → (r : Row) × (row_of rows y ≡ Some r)
  strong_there p x y strong = node_row rows p y (edge_end p x y strong)

  -- The incarnation of a row that lives is below the next one.
  within : (y : ℕ) (r : Row) → row_of rows y ≡ Some r → y < next
  within y r lives = below_next rows next y r sound.orderly.increasing lives

  -- The parent of a child row lives.
  kid_parent : (p x : ℕ) → IsKid rows p x → (r : Row) × (row_of rows p ≡ Some r)
  kid_parent p x kid = let parent : IsParent rows p x = parent_lives rows next sound.orderly p x kid in (parent.row, parent.lives)

  -- A node of a level other than the row itself is its child.
  implied_kid : (p x : ℕ) → IsTrue (is_level_node rows p x) → x ≢ p → IsKid rows p x
  implied_kid p x node child = elim (node_kid rows p x node) [ inl own ↦ absurd (child own) | inr kid ↦ kid ]

  -- What is depended on directly at a level is a row that lives.
  on_there : (p x y : ℕ) → LevelOn rows p x y → (r : Row) × (row_of rows y ≡ Some r)
  on_there p x y (inl strong) = strong_there p x y strong
  on_there p x y (inr implied) =
      let row : (r : Row) × (row_of rows p ≡ Some r) = kid_parent p x (implied_kid p x implied.node implied.child) in
      (row.0, subst (λ i. row_of rows i ≡ Some row.0) (sym implied.own) row.1)

  -- No level has a cycle of direct edges.
  on_acyclic : (p : ℕ) → NoCycle (LevelOn rows p)
  on_acyclic p = direct_acyclic (level rows p) (sound.acyclic p)

  -- It can be told whether a level has an implied edge between two nodes.
  implied_or_not : (p x y : ℕ) → IsImplied (level rows p) x y ⊎ (IsImplied (level rows p) x y → ⊥)
  implied_or_not p x y = by (y == p) (x == p) (is_level_node rows p x) refl refl refl where
    reach : (q : ℕ) → q ≢ p → IsTrue (is_level_node rows p q) → Reaches (LevelStrong rows p) p q ⊎ (Reaches (LevelStrong rows p) p q → ⊥)
    reach q child node =
        let row : (r : Row) × (row_of rows p ≡ Some r) = kid_parent p q (implied_kid p q node child) in
        reach_or_not rows next (LevelStrong rows p) (strong_there p) within (sound.acyclic p) (strong_or_not p) q p row.0 row.1

    by : (a b c : Bool) → (y == p) ≡ a → (x == p) ≡ b → is_level_node rows p x ≡ c → IsImplied (level rows p) x y ⊎ (IsImplied (level rows p) x y → ⊥)
    by false b c own child node = inr (λ implied. true≢false (sym ((unsigned_Decides y p).1 implied.own) ∙ own))
    by true true c own child node = inr (λ implied. implied.child ((unsigned_Decides x p).0 child))
    by true false false own child node = inr (λ implied. true≢false (sym implied.node ∙ node))
    by true false true own child node =
        let apart : x ≢ p = λ same. true≢false (sym ((unsigned_Decides x p).1 same) ∙ child) in
        elim (reach x apart node) [
          | inl way ↦ inr (λ implied. implied.apart way)
          | inr no_way ↦ inl (record { acyclic = sound.acyclic p; node = node; child = apart; apart = no_way; own = (unsigned_Decides y p).0 own })
        ]

  -- It can be told whether one node depends on another directly at a level.
  on_or_not : (p x y : ℕ) → LevelOn rows p x y ⊎ (LevelOn rows p x y → ⊥)
  on_or_not p x y = elim (strong_or_not p x y) [
    | inl strong ↦ inl (inl strong)
    | inr not_strong ↦ (elim (implied_or_not p x y) [
      | inl implied ↦ inl (inr implied)
      | inr not_implied ↦ inr (λ on. elim on [ inl strong ↦ not_strong strong | inr implied ↦ not_implied implied ])
    ])
  ]

  -- It can be told whether one node depends on another at a level, where the row may be there.
  depends_by : (p x y : ℕ) (o : Option Row) → row_of rows x ≡ o → Depends (level rows p) x y ⊎ (Depends (level rows p) x y → ⊥)
  depends_by p x y (Some r) lives = reach_or_not rows next (LevelOn rows p) (on_there p) within (on_acyclic p) (on_or_not p) y x r lives
  depends_by p x y None none =
      inr (λ way. let row : (r : Row) × (row_of rows x ≡ Some r) = node_row rows p x (depends_node rows p x y way) in none_some row.0 (sym none ∙ row.1))

  -- whether one row of a level depends on another
  depends_or_not : (p x y : ℕ) → Depends (level rows p) x y ⊎ (Depends (level rows p) x y → ⊥)
  depends_or_not p x y = depends_by p x y (row_of rows x) refl

  -- ---- one level

  -- It can be told whether a node that isn't wholly shut depends on another at a level.
  binds_or_not : (p x z : ℕ) → (b : Bool) → is_wholly_shut rows p z ≡ b → Binds rows p x z ⊎ (Binds rows p x z → ⊥)
  binds_or_not p x z true shut = inr (λ binds. true≢false (sym shut ∙ binds.unshut))
  binds_or_not p x z false unshut = elim (depends_or_not p z x) [
    | inl way ↦ inl (record { depends = way; unshut = unshut })
    | inr no_way ↦ inr (λ binds. no_way binds.depends)
  ]

  -- Where nothing unshut depends on a node, all that depends on it is wholly shut.
  free_by : (p x z : ℕ) → ((i : ℕ) → i < next → Binds rows p x i → ⊥) → Depends (level rows p) z x → (b : Bool) → is_wholly_shut rows p z ≡ b → IsTrue (is_wholly_shut rows p z)
  free_by p x z none way true shut = shut
  free_by p x z none way false unshut =
      let row : (r : Row) × (row_of rows z ≡ Some r) = node_row rows p z (depends_node rows p z x way) in
      absurd (none z (within z row.0 row.1) (record { depends = way; unshut = unshut }))

  -- A row that is free at its own level is shut, or can be taken next under itself.
  own_by : (c : ℕ) (r : Row) → row_of rows c ≡ Some r → IsFree rows c c → (b : Bool) → r.shut ≡ b → CanUnder rows c ⊎ IsTrue (is_wholly_shut rows c c)
  own_by c r lives free true shut = inr (own_shut rows c ∙ ap (λ o. option_map_or (λ s. s.shut) o false) lives ∙ shut)
  own_by c r lives free false unshut = inl (record {
    inc = c;
    row = r;
    lives = lives;
    below = below_self rows next sound.orderly c r lives;
    unshut = unshut;
    free = subst (AllFree rows c) (sym (path_top rows next sound.orderly c r lives)) (free, tt);
  })

  -- What can be taken next under a free child can be so under its parent.
  kid_can : (c k : ℕ) → IsKid rows c k → IsFree rows c k → CanUnder rows k → CanUnder rows c
  kid_can c k kid free can = record {
    inc = can.inc;
    row = can.row;
    lives = can.lives;
    below = below_trans rows next sound.orderly c k can.inc (kid_below rows next sound.orderly c k kid) can.below;
    unshut = can.unshut;
    free = (path rows next sound.orderly c k can.inc kid can.below).more can.inc can.free free;
  }

  -- a free node is wholly shut, or one at or below it may stop
  free_node : (c x : ℕ) (r : Row) → row_of rows c ≡ Some r → ((k : ℕ) → IsKid rows c k → CanUnder rows k ⊎ IsTrue (is_subtree_shut rows k)) → IsTrue (is_level_node rows c x) → IsFree rows c x → CanUnder rows c ⊎ IsTrue (is_wholly_shut rows c x)
  free_node c x r lives kids node free = elim (node_kid rows c x node) [
    | inl own ↦ subst (λ z. CanUnder rows c ⊎ IsTrue (is_wholly_shut rows c z)) (sym own) (own_by c r lives (subst (IsFree rows c) own free) r.shut refl)
    | inr kid ↦ (elim (kids x kid) [
      | inl can ↦ inl (kid_can c x kid free can)
      | inr shut ↦ inr (kid_shut rows next sound.orderly c x kid ∙ shut)
    ])
  ]

  -- so is any node
  node_or_can : (c : ℕ) (r : Row) → row_of rows c ≡ Some r → ((k : ℕ) → IsKid rows c k → CanUnder rows k ⊎ IsTrue (is_subtree_shut rows k)) → (x : ℕ) → IsTrue (is_level_node rows c x) → CanUnder rows c ⊎ IsTrue (is_wholly_shut rows c x)
  node_or_can c r lives kids x node =
      let row : (s : Row) × (row_of rows x ≡ Some s) = node_row rows c x node in
      follow rows (Back (LevelOn rows c)) (λ x z way. node_row rows c z (depends_node rows c z x way)) (back_acyclic (LevelOn rows c) (on_acyclic c)) (λ x. IsTrue (is_level_node rows c x) → CanUnder rows c ⊎ IsTrue (is_wholly_shut rows c x))
      (λ x more node. elim (search_below next (Binds rows c x) (λ z. binds_or_not c x z (is_wholly_shut rows c z) refl)) [
        | inl found ↦ (elim (more found.0 found.1.depends (depends_node rows c found.0 x found.1.depends)) [
          | inl can ↦ inl can
          | inr shut ↦ absurd (true≢false (sym shut ∙ found.1.unshut))
        ])
        | inr none ↦ free_node c x r lives kids node (λ z way. free_by c x z none way (is_wholly_shut rows c z) refl)
      ]) x row.0 row.1 node

  -- ---- down the tree

  -- It can be told whether an incarnation is a child under which not all is shut.
  kid_or_not : (c k : ℕ) (a b : Bool) → option_map_or (has_parent c) (row_of rows k) false ≡ a → is_subtree_shut rows k ≡ b → IsUnshutKid rows c k ⊎ (IsUnshutKid rows c k → ⊥)
  kid_or_not c k false b parent shut =
      inr (λ is. true_and_false (has_parent c is.kid.row) (eq_some is.kid.row.parent c is.kid.parent) (sym (ap (λ o. option_map_or (has_parent c) o false) is.kid.lives) ∙ parent))
  kid_or_not c k true true parent shut = inr (λ is. true≢false (sym shut ∙ is.unshut))
  kid_or_not c k true false parent shut = inl (record { kid = kid_by rows c k (row_of rows k) refl parent; unshut = shut })

  -- A row that is wholly shut at its own level is shut.
  own_row : (c i : ℕ) (r : Row) → i ≡ c → row_of rows i ≡ Some r → IsTrue (is_wholly_shut rows c c) → IsTrue r.shut
  own_row c i r same lives shut =
      let there : row_of rows c ≡ Some r = subst (λ z. row_of rows z ≡ Some r) same lives in
      sym (ap (λ o. option_map_or (λ s. s.shut) o false) there) ∙ sym (own_shut rows c) ∙ shut

  -- Where all is shut under each child, a row at or below a child is shut.
  kid_row : (c k i : ℕ) (r : Row) → IsKid rows c k → ((j : ℕ) → j < next → IsUnshutKid rows c j → ⊥) → row_of rows i ≡ Some r → IsTrue (is_below rows k i) → (b : Bool) → is_subtree_shut rows k ≡ b → IsTrue r.shut
  kid_row c k i r kid none lives below true shut = shut_each rows next sound.orderly k i r shut lives below
  kid_row c k i r kid none lives below false unshut = absurd (none k (kid_within rows next sound.orderly c k kid) (record { kid = kid; unshut = unshut }))

  -- Where a row is shut and all under each of its children, all at and below it is shut.
  all_kids : (c : ℕ) → IsTrue (is_wholly_shut rows c c) → ((j : ℕ) → j < next → IsUnshutKid rows c j → ⊥) → IsTrue (is_subtree_shut rows c)
  all_kids c own none =
      shut_all rows next sound.orderly c (λ i r lives below. elim (below_kid rows next sound.orderly c i below) [
        | inl same ↦ own_row c i r same lives own
        | inr kid ↦ kid_row c kid.0 i r kid.1 none lives kid.2 (is_subtree_shut rows kid.0) refl
      ])

  -- Some row can be taken next, or all is shut, where so of each node of the level.
  level_or_can : (c : ℕ) (r : Row) → row_of rows c ≡ Some r → ((x : ℕ) → IsTrue (is_level_node rows c x) → CanUnder rows c ⊎ IsTrue (is_wholly_shut rows c x)) → CanUnder rows c ⊎ IsTrue (is_subtree_shut rows c)
  level_or_can c r lives nodes = elim (search_below next (IsUnshutKid rows c) (λ k. kid_or_not c k (option_map_or (has_parent c) (row_of rows k) false) (is_subtree_shut rows k) refl refl)) [
    | inl found ↦ (elim (nodes found.0 (kid_node rows c found.0 found.1.kid)) [
      | inl can ↦ inl can
      | inr shut ↦ absurd (true≢false (sym (sym (kid_shut rows next sound.orderly c found.0 found.1.kid) ∙ shut) ∙ found.1.unshut))
    ])
    | inr none ↦ (elim (nodes c (or_left (c == c && is_live rows c) (is_child_row rows c c) (and_pair (c == c) (is_live rows c) ((unsigned_Decides c c).1 refl) (ap is_some lives)))) [
      | inl can ↦ inl can
      | inr own ↦ inr (all_kids c own none)
    ])
  ]

  -- Under each row some can be taken next, or all at and below it is shut.
  down : (n c : ℕ) (r : Row) → row_of rows c ≡ Some r → next - c < n → CanUnder rows c ⊎ IsTrue (is_subtree_shut rows c)
  down zero c r lives low = absurd (omega arith)
  down (suc n) c r lives low =
      level_or_can c r lives (node_or_can c r lives (λ k kid.
      let higher : c < k = kid_higher rows next sound.orderly c k kid in
      let inside : k < next = kid_within rows next sound.orderly c k kid in
      down n k kid.row kid.lives (omega arith)))

  -- all at and below a row is shut, or one there may stop
  pub shut_or_can : (c : ℕ) (r : Row) → row_of rows c ≡ Some r → CanUnder rows c ⊎ IsTrue (is_subtree_shut rows c)
  shut_or_can c r lives = down (next - c + 1) c r lives (omega arith)

-- ---- the law

-- In a sound tree a closing row that isn't shut leaves some row that can be stopped.
law_by : (rows : List Row) (next i : ℕ) (r : Row) → IsSound rows next → row_of rows i ≡ Some r → IsTrue (is_closing rows i) → r.shut ≡ false → (o : Option ℕ) → outermost rows i ≡ o → CanStop rows i
law_by rows next i r sound lives closing unshut None none = absurd (true≢false (sym closing ∙ no_top rows next sound.orderly i none))
law_by rows next i r sound lives closing unshut (Some top) all =
    let is : IsTop rows top i = top_of rows next sound.orderly i top all in
    let row : (s : Row) × (row_of rows top ≡ Some s) = top_lives rows next sound.orderly top top is.own in
    elim (shut_or_can rows next sound top row.0 row.1) [
      | inl can ↦ (record {
        top = top;
        outermost = all;
        inc = can.inc;
        row = can.row;
        lives = can.lives;
        below = can.below;
        unshut = can.unshut;
        may_stop = record { top = top; outermost = top_below rows next sound.orderly top can.inc is.own can.below; free = can.free };
      })
      | inr shut ↦ true_and_false r.shut (shut_each rows next sound.orderly top i r shut lives is.below) unshut
    ]

-- In a sound tree, as long as a row that is being shut down isn't shut, some such row may stop.
pub no_dead_end : HasNoDeadEnd
no_dead_end rows next i r sound lives closing unshut = law_by rows next i r sound lives closing unshut (outermost rows i) refl
