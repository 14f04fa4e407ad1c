-- What a quick look at a level finds.
use Rattle.std.proofs.Common.{◌≡◌, ◌≢◌, ℕ, ◌<◌, List, [], ◌∷◌, Bool, true, false, not, ◌&&◌, Option, Some, None, IsTrue, is_none, true≢false, refl, sym, ◌∙◌, ap, subst, inl, inr, ◌⊎◌, arith}
use Rattle.std.specs.Option.{option_map_or}
use Rattle.std.specs.Cmp.{first_so, second_so}
use Rattle.std.proofs.lemmas.Bool.{not-true}
use Rattle.cm_facts.proofs.Booleans.{true_and_false}
use Rattle.cm_decl.specs.Reach.{DependencyPath}
use Rattle.cm_decl.specs.RealmGraph.{Depends}
use Rattle.cm_decl.proofs.lemmas.Sameness.{never}
use Rattle.cm_world.specs.declared.row.Row.{Row}
use Rattle.cm_world.specs.Rows.{row_of, is_subtree_shut}
use Rattle.cm_world.specs.RowsInside.{child_behind}
use Rattle.cm_world.specs.Level.{level}
use Rattle.cm_world.specs.LevelInside.{LevelOn}
use Rattle.cm_world.specs.Sound.{IsOrderly, IsSound}
use Rattle.cm_world.specs.Stopping.{is_wholly_shut}
use Rattle.cm_order.specs.declared.search.SearchGoal.TheVariants.{Idle}
use Rattle.cm_trees.specs.Kids.{IsKid}
use Rattle.cm_order.specs.Search.{IsHere}
use Rattle.cm_order.specs.declared.dependents.Dependents.{Dependents}
use Rattle.cm_order.specs.Glances.{is_client, IsCleared, KnowsDependents, IsFreeKid, AreKidsShut}
use Rattle.cm_order.specs.Plans.{AreShutSoFar}
use Rattle.cm_trees.proofs.trees.Trees.{kid_higher, below_kid, shut_each, shut_all}
use Rattle.cm_trees.proofs.levels.Kids.{other_kids, no_kids}
use Rattle.cm_order.proofs.lemmas.searches.Turns.{under}
use Rattle.cm_trees.proofs.names.Graphs.{direct_acyclic}
use Rattle.cm_trees.proofs.levels.Shut.{own_shut, kid_shut}
use Rattle.cm_trees.proofs.levels.Nodes.{node_kid, depends_node}

module _ (rows : List Row) (next : ℕ) (sound : IsSound rows next) (p : ℕ) where
  -- A child isn't its own parent.
  apart : (c : ℕ) → IsKid rows p c → c ≢ p
  apart c kid = λ same. let higher : p < c = kid_higher rows next sound.orderly p c kid in absurd (omega arith)

  -- the last step of a way
  pub last_step : (z : ℕ) (zs : List ℕ) (x : ℕ) → DependencyPath (LevelOn rows p) z zs x → LevelOn rows p z x ⊎ ((v : ℕ) × Depends (level rows p) z v × LevelOn rows p v x)
  last_step z [] x on = inl on
  last_step z (w ∷ ws) x way = elim (last_step w ws x way.1) [
    | inl on ↦ inr (w, ([], way.0), on)
    | inr rest ↦ inr (rest.0, (w ∷ rest.1.0, (way.0, rest.1.1)), rest.2)
  ]

  -- what depends directly on a child whose list is empty is cleared
  cleared_client : (known : Dependents) → KnowsDependents rows p known → (c v : ℕ) → IsKid rows p c → ((z : ℕ) → is_client known.edges.clients c z ≡ false) → LevelOn rows p v c → IsCleared rows p v
  cleared_client known is c v kid none (inr implied) = absurd (apart c kid implied.own)
  cleared_client known is c v kid none (inl strong) = elim (is.clients v c (apart c kid) strong) [
    | inl there ↦ absurd (true_and_false (is_client known.edges.clients c v) there (none v))
    | inr cleared ↦ is.cleared v cleared
  ]

  -- so such a child is free
  pub free_unlisted : (known : Dependents) → KnowsDependents rows p known → (c : ℕ) → IsKid rows p c → ((z : ℕ) → is_client known.edges.clients c z ≡ false) → IsFreeKid rows p c
  free_unlisted known is c kid none = record {
    kid = kid;
    free = λ z way. elim (last_step z way.0 c way.1) [
      | inl on ↦ (cleared_client known is c z kid none on).shut
      | inr rest ↦ (cleared_client known is c rest.0 kid none rest.2).free z rest.1
    ];
  }

  -- ---- p itself

  -- Where all children of a row are shut, what depends on it at its own level is wholly shut.
  pub free_by : (z : ℕ) → AreKidsShut rows p → Depends (level rows p) z p → IsTrue (is_wholly_shut rows p z)
  free_by z kids way = elim (node_kid rows p z (depends_node rows p z p way)) [
    | inl own ↦ absurd (direct_acyclic (level rows p) (sound.acyclic p) (p, subst (λ v. Depends (level rows p) v p) own way))
    | inr kid ↦ kid_shut rows next sound.orderly p z kid ∙ kids z kid
  ]

  -- A row that isn't shut, has nothing pending and has its children shut may stop at its own level.
  here_by : (o : Option Row) → row_of rows p ≡ o → IsTrue (option_map_or (λ r. not r.shut && is_none r.pending) o false) → AreKidsShut rows p → IsHere rows Idle (under p)
  here_by None e idle kids = never idle
  here_by (Some r) e idle kids = record {
    new = refl;
    row = r;
    lives = e;
    fits = second_so (not r.shut) (is_none r.pending) idle;
    leads = record {
      free = λ z way. free_by z kids way;
      unshut = own_shut rows p ∙ ap (λ o. option_map_or (λ s. s.shut) o false) e ∙ not-true r.shut (first_so (not r.shut) (is_none r.pending) idle);
    };
  }

  -- an idle row whose children are all shut
  pub here_last : IsTrue (option_map_or (λ r. not r.shut && is_none r.pending) (row_of rows p) false) → AreKidsShut rows p → IsHere rows Idle (under p)
  here_last idle kids = here_by (row_of rows p) refl idle kids

  -- ---- child after child

  -- Where the children up to one are shut, and the next is too, those up to the next are.
  pub shut_more : (c : ℕ) (behind : Option ℕ) → AreShutSoFar rows p behind → Some c ≡ child_behind rows p behind → IsTrue (is_subtree_shut rows c) → AreShutSoFar rows p (Some c)
  shut_more c behind so_far found shut i kid = elim (so_far i kid) [
    | inl later ↦ (elim (other_kids rows next sound.orderly p behind c i (sym found) kid later) [
      | inl same ↦ inr (subst (λ z. IsTrue (is_subtree_shut rows z)) (sym same) shut)
      | inr more ↦ inl more
    ])
    | inr done ↦ inr done
  ]

-- a row that is shut, as are all its children with all below them
own_shut_by : (r : Row) (o : Option Row) → o ≡ Some r → option_map_or (λ r. not r.shut) o false ≡ false → IsTrue r.shut
own_shut_by r o lives own = by r.shut (sym (ap (λ o. option_map_or (λ r. not r.shut) o false) lives) ∙ own) where
  by : (b : Bool) → not b ≡ false → IsTrue b
  by true e = refl
  by false e = absurd (true≢false e)

-- A row that is shut or gone, with all its children shut with all below them, is shut with all below.
pub shut_below : (rows : List Row) (next : ℕ) → IsOrderly rows next → (p : ℕ) → option_map_or (λ r. not r.shut) (row_of rows p) false ≡ false → AreKidsShut rows p → IsTrue (is_subtree_shut rows p)
shut_below rows next orderly p own kids =
    shut_all rows next orderly p (λ i r lives below. elim (below_kid rows next orderly p i below) [
      | inl same ↦ own_shut_by r (row_of rows p) (subst (λ z. row_of rows z ≡ Some r) same lives) own
      | inr kid ↦ shut_each rows next orderly kid.0 i r (kids kid.0 kid.1) lives kid.2
    ])

-- Where no child is left behind those that are shut, all children are shut with all below them.
pub shut_ends : (rows : List Row) (p : ℕ) (behind : Option ℕ) → AreShutSoFar rows p behind → None ≡ child_behind rows p behind → AreKidsShut rows p
shut_ends rows p behind so_far none c kid = elim (so_far c kid) [
  | inl later ↦ absurd (no_kids rows p behind c (sym none) kid later)
  | inr done ↦ done
]
