-- Whether a row leads at its own level.
use Rattle.std.proofs.Common.{◌≡◌, ℕ, ◌<◌, List, [], ◌∷◌, Bool, true, false, true≢false, ◌&&◌, Option, Some, None, is_some, not, IsTrue, refl, sym, ◌∙◌, ap, subst, inl, inr, arith}
use Rattle.std.specs.Prelude.{◌↔◌}
use Rattle.std.specs.List.{list_any}
use Rattle.std.specs.Option.{option_map_or}
use Rattle.cm_facts.proofs.Booleans.{true_and_false, false_iff}
use Rattle.cm_decl.specs.declared.decl.Decl.{Decl}
use Rattle.cm_decl.specs.declared.rows.Usage.{Usage}
use Rattle.cm_decl.specs.Graph.{is_strong, is_from_child, own_sources}
use Rattle.cm_decl.specs.Reach.{DependencyPath, Reaches, NoCycle}
use Rattle.cm_decl.specs.RealmGraph.{Depends}
use Rattle.cm_decl.proofs.lemmas.cycles.Reaching.{Reaches-trans}
use Rattle.cm_world.specs.declared.row.Row.{Row}
use Rattle.cm_world.specs.Rows.{row_of, decl_of, is_shut, is_subtree_shut}
use Rattle.cm_world.specs.Level.{is_from_row, level, LevelStrong}
use Rattle.cm_world.specs.LevelInside.{LevelOn}
use Rattle.cm_world.specs.RowsInside.{is_behind, child_behind}
use Rattle.cm_trees.proofs.levels.Kids.{other_kids, no_kids}
use Rattle.cm_world.specs.Sound.{IsSound}
use Rattle.cm_world.specs.Stopping.{is_wholly_shut, IsFree}
use Rattle.cm_world.proofs.lemmas.trees.Levels.{edge_source, node_row}
use Rattle.cm_trees.specs.Kids.{IsKid}
use Rattle.cm_order.specs.Search.{IsFreeAt, IsNextLeading}
use Rattle.cm_order.specs.declared.dependents.Dependents.{Dependents}
use Rattle.cm_order.specs.Glances.{AreKidsShut, HasKidLeft, is_in_set, KnowsDependents}
use Rattle.cm_trees.proofs.trees.Trees.{kid_higher}
use Rattle.cm_order.proofs.lemmas.levels.Glancing.{free_by, last_step}
use Rattle.cm_order.proofs.lemmas.levels.Standing.{strong_way}
use Rattle.cm_trees.proofs.names.Graphs.{direct_acyclic, follow}
use Rattle.cm_order.proofs.lemmas.names.Sources.{any_from, next_none, own_all}
use Rattle.cm_trees.proofs.levels.Shut.{own_shut, kid_shut}
use Rattle.cm_trees.proofs.levels.Nodes.{kid_node, node_kid, direct_node, depends_node}

-- what the declaration of a row says of its uses
pub uses_by : (rows : List Row) (i : ℕ) (d : Decl) (uses : List Usage) (b : Bool) → Some d ≡ decl_of rows i → uses ≡ d.uses → b ≡ list_any (λ u. is_strong u.dependency && is_from_child u.from) uses → b ≡ option_map_or (λ d. list_any (λ u. is_strong u.dependency && is_from_child u.from) d.uses) (decl_of rows i) false
uses_by rows i d uses b found same is =
    is ∙ ap (list_any (λ u. is_strong u.dependency && is_from_child u.from)) same ∙ ap (λ o. option_map_or (λ (d : Decl). list_any (λ u. is_strong u.dependency && is_from_child u.from) d.uses) o false) found

module _ (rows : List Row) (next : ℕ) (sound : IsSound rows next) (p : ℕ) where
  -- where it uses nothing of a child, no strong edge leads from it
  no_edge : (x : ℕ) (o : Option Decl) → decl_of rows p ≡ o → option_map_or (λ d. list_any (λ u. is_strong u.dependency && is_from_child u.from) d.uses) o false ≡ false → LevelStrong rows p p x → ⊥
  no_edge x None found none strong = next_none rows next sound p (sym found) p x strong
  no_edge x (Some d) found none strong =
      let from : IsTrue (list_any (is_from_row rows p x) (own_sources d)) =
      sym (ap (list_any (is_from_row rows p x)) (own_all rows next sound p d found)) ∙ edge_source rows p p x strong in
      true_and_false (list_any (λ u. is_strong u.dependency && is_from_child u.from) d.uses)
      (any_from (is_from_row rows p x) (λ (u : Usage). u.from) (λ u. is_strong u.dependency && is_from_child u.from) (λ u. is_strong u.dependency && is_from_child u.from) (λ u passes comes. passes) d.uses from) none

  -- A path of strong dependencies has a first step.
  first_step : (x : ℕ) (xs : List ℕ) (y : ℕ) → DependencyPath (LevelStrong rows p) x xs y → (z : ℕ) × LevelStrong rows p x z
  first_step x [] y on = (y, on)
  first_step x (z ∷ zs) y way = (z, way.0)

  -- so each child depends on it
  pub own_bound : HasKidLeft rows p → option_map_or (λ d. list_any (λ u. is_strong u.dependency && is_from_child u.from) d.uses) (decl_of rows p) false ≡ false → IsTrue false ↔ IsFreeAt rows p p
  own_bound yet none = false_iff (λ it.
      true_and_false (is_wholly_shut rows p yet.child)
      (it.free yet.child (
        [],
        inr (record {
          acyclic = sound.acyclic p;
          node = kid_node rows p yet.child yet.kid;
          child = λ same. (let higher : p < yet.child = kid_higher rows next sound.orderly p yet.child yet.kid in absurd (omega arith));
          apart = λ way. (let step = first_step p way.0 yet.child way.1 in no_edge step.0 (decl_of rows p) refl none step.1);
          own = refl;
        }),
      ))
      (kid_shut rows next sound.orderly p yet.child yet.kid ∙ yet.unshut))

  -- A row that is shut may not be gone on to at its own level.
  pub own_gone : is_shut rows p ≡ true → IsTrue false ↔ IsFreeAt rows p p
  own_gone shut = false_iff (λ it. true_and_false (is_wholly_shut rows p p) (own_shut rows p ∙ shut) it.unshut)

  -- A row that isn't shut, and all of whose children are, may be gone on to at its own level.
  pub own_leads_last : is_shut rows p ≡ false → AreKidsShut rows p → IsTrue true ↔ IsFreeAt rows p p
  own_leads_last unshut kids = (
    λ told. record { free = λ z way. free_by rows next sound p z kids way; unshut = own_shut rows p ∙ unshut },
    λ it. refl,
  )

  -- ---- a child

  -- A child that is shut with all below it may not be gone on to at its parent's level.
  pub kid_gone : (c : ℕ) → IsKid rows p c → is_subtree_shut rows c ≡ true → IsTrue false ↔ IsFreeAt rows p c
  kid_gone c kid shut = false_iff (λ it. true_and_false (is_wholly_shut rows p c) (kid_shut rows next sound.orderly p c kid ∙ shut) it.unshut)

-- ---- a row itself, by its children

module _ {N : Type 0} (On : N → N → Type 0) where
  -- A path by turned edges is a way back by the edges themselves.
  back_way : (x : N) (xs : List N) (y : N) → DependencyPath (λ x y. On y x) x xs y → Reaches On y x
  back_way x [] y on = ([], on)
  back_way x (z ∷ zs) y way = Reaches-trans On y z x (back_way z zs y way.1) ([], way.0)

  -- Where no node leads back to itself, none does by turned edges.
  back_acyclic : NoCycle On → NoCycle (λ x y. On y x)
  back_acyclic acyclic (x, way) = acyclic (x, back_way x way.0 x way.1)

module _ (rows : List Row) (next : ℕ) (sound : IsSound rows next) (p : ℕ) where
  -- what depends on a row, where it depends on p, is shut
  abbrev IsDone : ℕ → Type 0
  IsDone x = Depends (level rows p) x p → IsFree rows p x × IsTrue (is_wholly_shut rows p x)

  -- Where each node that depends directly on a row is free and shut, if it depends on p, the row is free.
  done_free : (x : ℕ) → ((w : ℕ) → LevelOn rows p w x → IsDone w) → Depends (level rows p) x p → IsFree rows p x
  done_free x more on z way = elim (last_step rows next sound p z way.0 x way.1) [
    | inl step ↦ (more z step (Reaches-trans (LevelOn rows p) z x p ([], step) on)).1
    | inr rest ↦ (more rest.0 rest.2 (Reaches-trans (LevelOn rows p) rest.0 x p ([], rest.2) on)).0 z rest.1
  ]

  -- A free row that depends on p is wholly shut, where no child that depends on p leads.
  done_by : ((c : ℕ) → IsKid rows p c → Depends (level rows p) c p → IsFreeAt rows p c → ⊥) → (x : ℕ) → Depends (level rows p) x p → IsFree rows p x → (b : Bool) → is_wholly_shut rows p x ≡ b → IsTrue (is_wholly_shut rows p x)
  done_by none x on free true shut = shut
  done_by none x on free false unshut = elim (node_kid rows p x (depends_node rows p x p on)) [
    | inl own ↦ absurd (direct_acyclic (level rows p) (sound.acyclic p) (p, subst (λ v. Depends (level rows p) v p) own on))
    | inr kid ↦ absurd (none x kid on (record { free = free; unshut = unshut }))
  ]

  -- where no child that depends on it leads, all that depends on it is shut
  pub own_free : ((c : ℕ) → IsKid rows p c → Depends (level rows p) c p → IsFreeAt rows p c → ⊥) → IsFree rows p p
  own_free none z on =
      let row : (r : Row) × (row_of rows z ≡ Some r) = node_row rows p z (depends_node rows p z p on) in
      (follow rows (λ x w. LevelOn rows p w x) (λ x w step. node_row rows p w (direct_node rows p w x step)) (back_acyclic (LevelOn rows p) (direct_acyclic (level rows p) (sound.acyclic p))) IsDone
      (λ x more on. let free : IsFree rows p x = done_free x more on in (free, done_by none x on free (is_wholly_shut rows p x) refl)) z row.0 row.1 on).1

  -- A child on which p doesn't strongly depend depends on p.
  implied_by : (c : ℕ) → IsKid rows p c → (Reaches (LevelStrong rows p) p c → ⊥) → Depends (level rows p) c p
  implied_by c kid apart = (
    [],
    inr (record {
      acyclic = sound.acyclic p;
      node = kid_node rows p c kid;
      child = λ same. (let higher : p < c = kid_higher rows next sound.orderly p c kid in absurd (omega arith));
      apart = apart;
      own = refl;
    }),
  )

  -- a child that leads, on which it doesn't depend, binds it
  pub own_bound_by : (c : ℕ) → IsKid rows p c → (Reaches (LevelStrong rows p) p c → ⊥) → is_wholly_shut rows p c ≡ false → IsFree rows p p → ⊥
  own_bound_by c kid apart unshut free = true_and_false (is_wholly_shut rows p c) (free c (implied_by c kid apart)) unshut

  -- where it isn't shut itself, each that leads does
  pub own_bound_leads : (c : ℕ) → IsKid rows p c → IsFreeAt rows p c → is_shut rows p ≡ false → IsFree rows p p → ⊥
  own_bound_leads c kid leads unshut =
      own_bound_by c kid (λ way. true_and_false (is_wholly_shut rows p p) (leads.free p (strong_way rows next sound p p c way)) (own_shut rows p ∙ unshut)) leads.unshut

  -- what p depends on doesn't depend on it
  pub own_apart : (c : ℕ) → Reaches (LevelStrong rows p) p c → Depends (level rows p) c p → ⊥
  own_apart c way on = direct_acyclic (level rows p) (sound.acyclic p) (c, Reaches-trans (LevelOn rows p) c p c on (strong_way rows next sound p p c way))

  -- and isn't free before it
  pub own_first : (c : ℕ) → Reaches (LevelStrong rows p) p c → IsFree rows p c → IsFree rows p p
  own_first c way free z on = free z (Reaches-trans (LevelOn rows p) z p c on (strong_way rows next sound p p c way))

  -- ---- by the lists

  -- What strongly leads to a row whose clients are cleared is cleared, where p isn't.
  reached_in : (known : Dependents) → KnowsDependents rows p known → is_in_set known.cleared p ≡ false → (c : ℕ) → ((z : ℕ) → LevelStrong rows p z c → IsTrue (is_in_set known.cleared z)) → (x : ℕ) (xs : List ℕ) → DependencyPath (LevelStrong rows p) x xs c → IsTrue (is_in_set known.cleared x)
  reached_in known is left c clients x [] on = clients x on
  reached_in known is left c clients x (w ∷ ws) way =
      let there : IsTrue (is_in_set known.cleared w) = reached_in known is left c clients w ws way.1 in
      is.closed x w (λ own. true_and_false (is_in_set known.cleared w) there (ap (is_in_set known.cleared) own ∙ left)) way.0 there

  -- a child whose clients are all cleared, where p isn't, is one on which p doesn't depend
  pub unreached : (known : Dependents) → KnowsDependents rows p known → is_in_set known.cleared p ≡ false → (c : ℕ) → ((z : ℕ) → LevelStrong rows p z c → IsTrue (is_in_set known.cleared z)) → Reaches (LevelStrong rows p) p c → ⊥
  unreached known is left c clients way = true_and_false (is_in_set known.cleared p) (reached_in known is left c clients p way.0 way.1) left

-- ---- child after child

-- no child so far leads and depends on p
abbrev pub NoneBinds : List Row → ℕ → Option ℕ → Type 0
NoneBinds rows p behind = (c : ℕ) → IsKid rows p c → Depends (level rows p) c p → IsFreeAt rows p c → IsTrue (is_behind behind c)

-- Before any child was looked at, each is still to come.
pub none_binds_first : (rows : List Row) (p : ℕ) → NoneBinds rows p None
none_binds_first rows p c kid on leads = refl

module _ (rows : List Row) (next : ℕ) (sound : IsSound rows next) (p : ℕ) where
  -- Where the next child doesn't bind p, those that may are still to come behind it.
  pub none_binds_more : (c : ℕ) (behind : Option ℕ) → NoneBinds rows p behind → Some c ≡ child_behind rows p behind → (Depends (level rows p) c p → IsFreeAt rows p c → ⊥) → NoneBinds rows p (Some c)
  none_binds_more c behind so_far found none i kid on leads = elim (other_kids rows next sound.orderly p behind c i (sym found) kid (so_far i kid on leads)) [
    | inl same ↦ absurd (none (subst (λ z. Depends (level rows p) z p) same on) (subst (IsFreeAt rows p) same leads))
    | inr later ↦ later
  ]

  -- Where no child is left and none binds p, p is free.
  pub none_binds_ends : (behind : Option ℕ) → NoneBinds rows p behind → None ≡ child_behind rows p behind → IsFree rows p p
  none_binds_ends behind so_far none =
      own_free rows next sound p (λ c kid on leads. no_kids rows p behind c (sym none) kid (so_far c kid on leads))

  -- where it isn't shut, it leads where no child does
  pub own_leads_by : (o : Option ℕ) (none : Bool) → is_shut rows p ≡ false → IsNextLeading rows p None o → is_some o ≡ not none → IsTrue none ↔ IsFreeAt rows p p
  own_leads_by None true unshut first is = (
    λ told. record { free = own_free rows next sound p (λ c kid on leads. first c kid refl leads); unshut = own_shut rows p ∙ unshut },
    λ it. refl,
  )
  own_leads_by None false unshut first is = absurd (true≢false (sym is))
  own_leads_by (Some c) true unshut first is = absurd (true≢false is)
  own_leads_by (Some c) false unshut first is = false_iff (λ it. own_bound_leads rows next sound p c first.kid first.leads unshut it.free)
