-- What is known of levels holds on where all that is read of them is the same, and what is shut stays shut.
use Rattle.std.proofs.Common.{◌≡◌, ℕ, zero, suc, List, [], ◌∷◌, Bool, true, false, cond, ◌&&◌, ◌||◌, ◌==◌, Option, Some, None, IsTrue, length, map, is_some, option_map, refl, sym, ◌∙◌, ap, subst, inl, inr}
use Rattle.std.specs.List.{list_any}
use Rattle.std.specs.Option.{option_eq, option_map_or}
use Rattle.std.specs.Prelude.{nat_eq}
use Rattle.std.specs.Ordering.{nat_cmp}
use Rattle.std.specs.BTreeMap.{get}
use Rattle.std.proofs.lemmas.List.{length-map}
use Rattle.std.proofs.lemmas.Option.{IfSome_then}
use Rattle.cm_facts.proofs.Lists.{list_any_agree}
use Rattle.cm_decl.specs.declared.decl.Decl.{Decl}
use Rattle.cm_decl.specs.declared.origin.Origin.{Origin}
use Rattle.cm_decl.specs.declared.origin.Origin.TheVariants as origin
use Rattle.cm_decl.specs.Graph.{own_sources}
use Rattle.cm_decl.specs.Reach.{DependencyPath, Reaches}
use Rattle.cm_world.specs.declared.row.Row.{Row}
use Rattle.cm_world.specs.declared.reply.Entry.{Entry}
use Rattle.cm_world.specs.Rows.{row_of, is_live, decl_of, has_parent, at_or_above, is_below, is_shut, is_subtree_shut}
use Rattle.cm_world.specs.Level.{is_child_row, is_level_node, row_sources, child_row_sources, level_sources, is_from_row, level_edge, LevelStrong}
use Rattle.cm_world.specs.LevelInside.{LevelOn}
use Rattle.cm_world.specs.Sound.{IsOrderly}
use Rattle.cm_world.specs.Stopping.{is_wholly_shut, IsFree}
use Rattle.cm_world.specs.World.{World}
use Rattle.cm_world.specs.After.{after}
use Rattle.cm_world.specs.Legal.{IsStep}
use Rattle.cm_world.proofs.lemmas.trees.Finding.{none_some, some_same}
use Rattle.cm_decl.proofs.lemmas.Sameness.{never}
use Rattle.cm_order.specs.declared.plan.DescentPlan.{DescentPlan}
use Rattle.cm_order.specs.declared.stand.Stand.{Stand}
use Rattle.cm_trees.specs.Kids.{IsKid}
use Rattle.cm_order.specs.declared.dependents.Dependents.{Dependents}
use Rattle.cm_order.specs.Glances.{IsCleared, KnowsDependents}
use Rattle.cm_order.specs.Plans.{IsFreeOnTheWay, IsKnownLevel, AreShutSoFar, IsDescent, IsPlan}
use Rattle.cm_order.proofs.lemmas.searches.Reaching.{plan_none}
use Rattle.cm_trees.proofs.trees.Trees.{below_lives, shut_each, shut_all}
use Rattle.cm_cache.specs.Right.{bare}
use Rattle.cm_cache.specs.Keeping.{forgets}
use Rattle.cm_cache.specs.Beside.{is_emptied, IsReported}
use Rattle.cm_cache.proofs.lemmas.trees.Reading.{ReadsSame, reads_same}
use Rattle.cm_cache.proofs.lemmas.trees.Staying.{bare_rows_stay}
use Rattle.cm_laws.proofs.lemmas.sound.Rows.{Follows}
use Rattle.cm_laws.proofs.lemmas.sound.Healthy.{IsHealthy, Leads, leads_after}
use Rattle.cm_laws.proofs.lemmas.lasting.MarksLast.{Goes, goes_after, healthy_of}
use Rattle.cm_steps.specs.declared.realm.Realm.TheInside.{Inside}
use Rattle.cm_steps.specs.Planned.{IsPlannedBy}
use Rattle.cm_steps.specs.Inside.{story_of, world_in, LeavesTree}

-- ---- what is read of a row is read of the bare row

-- The sources of a child, by the row that was found.
abbrev sources_of : Decl → Option Row → List Origin
sources_of d o = elim o as (λ _. List Origin) [ None ↦ [] | Some r ↦ row_sources d r ]

-- The sources of a child are the same for its row as walks read it.
sources_bare : (d : Decl) (o : Option Row) → sources_of d (option_map bare o) ≡ sources_of d o
sources_bare d None = refl
sources_bare d (Some r) = refl

-- A row as walks read it is there exactly where the row is.
live_bare : (o : Option Row) → is_some (option_map bare o) ≡ is_some o
live_bare None = refl
live_bare (Some r) = refl

-- A row as walks read it is a child of another exactly where the row is.
under_bare : (p : ℕ) (o : Option Row) → option_map_or (has_parent p) (option_map bare o) false ≡ option_map_or (has_parent p) o false
under_bare p None = refl
under_bare p (Some r) = refl

-- Whether a found row is the top or below it.
abbrev above_by : ℕ → ℕ → List Row → Option Row → Bool
above_by n top rows o =
    elim o as (λ _. Bool) [ None ↦ false | Some r ↦ (r.inc == top) || at_or_above n (λ r. r.inc == top) rows r.parent ]

-- A row as walks read it is at or below the top exactly where the row is.
above_bare : (n top : ℕ) (rows : List Row) (o : Option Row) → above_by n top rows (option_map bare o) ≡ above_by n top rows o
above_bare n top rows None = refl
above_bare n top rows (Some r) = refl

-- The sources of a node of a level, by the declaration that was found.
abbrev sources_by : ℕ → ℕ → List Row → Option Decl → List Origin
sources_by p x rows o =
    elim o as (λ _. List Origin) [ None ↦ [] | Some d ↦ cond (x == p) (own_sources d) (child_row_sources rows d x) ]

-- ---- levels that are the same

module _ (a b : List Row) (reads : ReadsSame a b) (p : ℕ) where
  -- A source comes from a row in one tree exactly where it does in the other.
  from_same : (y : ℕ) (s : Origin) → is_from_row a p y s ≡ is_from_row b p y s
  from_same y origin.Own = refl
  from_same y (origin.Child c) = ap (λ o. option_eq nat_eq o (Some y)) (reads.children p c)
  from_same y origin.Parent = refl
  from_same y origin.Framework = refl
  from_same y origin.Void = refl

  -- A child row has the same sources in both trees.
  kid_same : (d : Decl) (x : ℕ) → child_row_sources a d x ≡ child_row_sources b d x
  kid_same d x = sym (sources_bare d (row_of a x)) ∙ ap (sources_of d) (reads.rows x) ∙ sources_bare d (row_of b x)

  -- A node of a level has the same sources in both trees, by the declaration that was found.
  sources_at : (x : ℕ) (o : Option Decl) → sources_by p x a o ≡ sources_by p x b o
  sources_at x None = refl
  sources_at x (Some d) = ap (cond (x == p) (own_sources d)) (kid_same d x)

  -- A node of a level has the same sources in both trees.
  sources_same : (x : ℕ) → level_sources a p x ≡ level_sources b p x
  sources_same x = ap (sources_by p x a) (reads.decls p) ∙ sources_at x (decl_of b p)

  -- A row lives in one tree exactly where it does in the other.
  live_same : (x : ℕ) → is_live a x ≡ is_live b x
  live_same x = sym (live_bare (row_of a x)) ∙ ap is_some (reads.rows x) ∙ live_bare (row_of b x)

  -- A row is a child of another in one tree exactly where it is in the other.
  under_same : (x : ℕ) → is_child_row a p x ≡ is_child_row b p x
  under_same x =
      sym (under_bare p (row_of a x)) ∙ ap (λ o. option_map_or (has_parent p) o false) (reads.rows x) ∙ under_bare p (row_of b x)

  -- A row is a node of a level in one tree exactly where it is in the other.
  node_same : (x : ℕ) → is_level_node a p x ≡ is_level_node b p x
  node_same x =
      ap (λ t. ((x == p) && t) || is_child_row a p x) (live_same p) ∙ ap (λ t. ((x == p) && is_live b p) || t) (under_same x)

  -- A level has the same strong edges in both trees.
  edge_same : (x y : ℕ) → level_edge a p x y ≡ level_edge b p x y
  edge_same x y =
      ap (λ t. t && is_level_node a p x && is_level_node a p y) (list_any_agree (is_from_row a p y) (is_from_row b p y) (from_same y) (level_sources a p x))
      ∙ ap (λ ss. list_any (is_from_row b p y) ss && is_level_node a p x && is_level_node a p y) (sources_same x)
      ∙ ap (λ t. list_any (is_from_row b p y) (level_sources b p x) && t && is_level_node a p y) (node_same x)
      ∙ ap (λ t. list_any (is_from_row b p y) (level_sources b p x) && is_level_node b p x && t) (node_same y)

-- ---- ways that are the same

-- A path of one relation is one of another that follows from it.
way_on : (On Along : ℕ → ℕ → Type 0) → ((x y : ℕ) → On x y → Along x y) → (x : ℕ) (xs : List ℕ) (y : ℕ) → DependencyPath On x xs y → DependencyPath Along x xs y
way_on On Along f x [] y on = f x y on
way_on On Along f x (z ∷ zs) y way = (f x z way.0, way_on On Along f z zs y way.1)

-- What reaches by one relation does so by another that follows from it.
reaches_on : (On Along : ℕ → ℕ → Type 0) → ((x y : ℕ) → On x y → Along x y) → (x y : ℕ) → Reaches On x y → Reaches Along x y
reaches_on On Along f x y way = (way.0, way_on On Along f x way.0 y way.1)

module _ (a b : List Row) (reads : ReadsSame a b) (p : ℕ) where
  -- What strongly depends on a row in the first tree does so in the second.
  strong_on : (x y : ℕ) → LevelStrong a p x y → LevelStrong b p x y
  strong_on x y on = sym (edge_same a b reads p x y) ∙ on

  -- What strongly depends on a row in the second tree does so in the first.
  strong_back : (x y : ℕ) → LevelStrong b p x y → LevelStrong a p x y
  strong_back x y on = edge_same a b reads p x y ∙ on

  -- What directly depends on a row in the first tree does so in the second.
  direct_on : (x y : ℕ) → LevelOn a p x y → LevelOn b p x y
  direct_on x y (inl strong) = inl (strong_on x y strong)
  direct_on x y (inr implied) = inr (record {
    acyclic = λ ring. implied.acyclic (ring.0, reaches_on (LevelStrong b p) (LevelStrong a p) strong_back ring.0 ring.0 ring.1);
    node = sym (node_same a b reads p x) ∙ implied.node;
    child = implied.child;
    apart = λ way. implied.apart (reaches_on (LevelStrong b p) (LevelStrong a p) strong_back p x way);
    own = implied.own;
  })

-- ---- rows that are below the same

module _ (a b : List Row) (reads : ReadsSame a b) (top : ℕ) where
  -- A found row is at or below the top in both trees alike, where those above are.
  above_at : (n : ℕ) (o : Option Row) → ((i : Option ℕ) → at_or_above n (λ r. r.inc == top) a i ≡ at_or_above n (λ r. r.inc == top) b i) → above_by n top a o ≡ above_by n top b o
  above_at n None later = refl
  above_at n (Some r) later = ap (λ t. (r.inc == top) || t) (later r.parent)

  -- A row is at or below the top in both trees alike, so many rows up.
  above_same : (n : ℕ) (i : Option ℕ) → at_or_above n (λ r. r.inc == top) a i ≡ at_or_above n (λ r. r.inc == top) b i
  above_same zero i = refl
  above_same (suc n) None = refl
  above_same (suc n) (Some i) =
      sym (above_bare n top a (row_of a i)) ∙ ap (above_by n top a) (reads.rows i) ∙ above_bare n top a (row_of b i)
      ∙ above_at n (row_of b i) (above_same n)

  -- A row is at or below the top in both trees alike, where these are as long.
  below_same : length a ≡ length b → (i : ℕ) → is_below a top i ≡ is_below b top i
  below_same long i = above_same (length a) (Some i) ∙ ap (λ n. at_or_above n (λ r. r.inc == top) b (Some i)) long

-- ---- what is shut stays shut

-- A found row that is shut is shut in the other tree.
shut_by : (o p : Option Row) → option_map bare o ≡ option_map bare p → ((r s : Row) → o ≡ Some r → p ≡ Some s → r.shut ≡ true → s.shut ≡ true) → IsTrue (option_map_or (λ r. r.shut) o false) → IsTrue (option_map_or (λ r. r.shut) p false)
shut_by None p same lasts shut = never shut
shut_by (Some r) None same lasts shut = absurd (none_some (bare r) (sym same))
shut_by (Some r) (Some s) same lasts shut = lasts r s refl refl shut

-- What holds by one of two cases holds by what follows from that case.
wholly_by : (t : Bool) (a b c d : Bool) → (IsTrue a → IsTrue c) → (IsTrue b → IsTrue d) → IsTrue (cond t a b) → IsTrue (cond t c d)
wholly_by true a b c d own below shut = own shut
wholly_by false a b c d own below shut = below shut

-- a child row was one before
kid_by : (p c : ℕ) (rows : List Row) (r : Row) (o : Option Row) → row_of rows c ≡ o → r.parent ≡ Some p → option_map bare o ≡ Some (bare r) → IsKid rows p c
kid_by p c rows r None lives parent same = absurd (none_some (bare r) same)
kid_by p c rows r (Some s) lives parent same = record {
  row = s;
  lives = lives;
  parent = ap (λ b. b.parent) (some_same (bare s) (bare r) same) ∙ parent;
}

-- A child row was one before, where its row is the same as walks read it.
kid_was : (old new : List Row) (p c : ℕ) (kid : IsKid new p c) → option_map bare (row_of old c) ≡ option_map bare (row_of new c) → IsKid old p c
kid_was old new p c kid same = kid_by p c old kid.row (row_of old c) refl kid.parent (same ∙ ap (option_map bare) kid.lives)

module _ (old new : List Row) (next n m : ℕ) (was : IsOrderly old next) (is : IsOrderly new n) (bares : map bare old ≡ map bare new) (follows : Follows old new m) where
  -- There are as many rows before as after.
  long : length old ≡ length new
  long = sym (length-map old bare) ∙ ap length bares ∙ length-map new bare

  -- A row that is shut stays so.
  own_stays : (z : ℕ) → IsTrue (is_shut old z) → IsTrue (is_shut new z)
  own_stays z shut = shut_by (row_of old z) (row_of new z) ((reads_same old new bares).rows z) (λ r s there here. (follows.lasts z r s there here).shut) shut

  -- A subtree that is shut stays so.
  below_stays : (z : ℕ) → IsTrue (is_subtree_shut old z) → IsTrue (is_subtree_shut new z)
  below_stays z shut =
      shut_all new n is z
      (λ j s here below. let before : IsTrue (is_below old z j) = below_same old new (reads_same old new bares) z long j ∙ below in
      let row : (r : Row) × (row_of old j ≡ Some r) = below_lives old next was z j before in
      (follows.lasts j row.0 s row.1 here).shut (shut_each old next was z j row.0 shut row.1 before))

  -- A row that is wholly shut stays so.
  wholly_stays : (p z : ℕ) → IsTrue (is_wholly_shut old p z) → IsTrue (is_wholly_shut new p z)
  wholly_stays p z shut =
      wholly_by (z == p) (is_shut old z) (is_subtree_shut old z) (is_shut new z) (is_subtree_shut new z) (own_stays z) (below_stays z) shut

  -- so what is free stays free
  free_stays : (p c : ℕ) → IsFree old p c → IsFree new p c
  free_stays p c free z way =
      wholly_stays p z (free z (reaches_on (LevelOn new p) (LevelOn old p) (direct_on new old (reads_same new old (sym bares)) p) z c way))

  -- A row that is at or below the top was so before.
  below_was : (top i : ℕ) → IsTrue (is_below new top i) → IsTrue (is_below old top i)
  below_was top i below = below_same old new (reads_same old new bares) top long i ∙ below

  -- so a way down goes on to be one
  reached_stays : (top i : ℕ) → IsFreeOnTheWay old top i → IsFreeOnTheWay new top i
  reached_stays top i it = record {
    below = sym (below_same old new (reads_same old new bares) top long i) ∙ it.below;
    free = λ p c kid upper lower. free_stays p c (it.free p c (kid_was old new p c kid ((reads_same old new bares).rows c)) (below_was top p upper) (below_was c i lower));
  }

  -- A row that is wholly shut with all that depends on it stays so.
  cleared_stays : (p z : ℕ) → IsCleared old p z → IsCleared new p z
  cleared_stays p z it = record { free = free_stays p z it.free; shut = wholly_stays p z it.shut }

  -- the strong edges are the same, and what is cleared stays so
  level_stays : (p : ℕ) (known : Dependents) → KnowsDependents old p known → KnowsDependents new p known
  level_stays p known it = record {
    clients = λ z x other strong. it.clients z x other (strong_back old new (reads_same old new bares) p z x strong);
    strong = λ x z there. strong_on old new (reads_same old new bares) p z x (it.strong x z there);
    closed = λ z x other strong. it.closed z x other (strong_back old new (reads_same old new bares) p z x strong);
    cleared = λ z there. cleared_stays p z (it.cleared z there);
  }

  -- A child row was one before.
  kid_before : (p c : ℕ) → IsKid new p c → IsKid old p c
  kid_before p c kid = kid_was old new p c kid ((reads_same old new bares).rows c)

  -- Child rows that are shut with all below them, up to one, stay so.
  done_stays : (p : ℕ) (last : Option ℕ) → AreShutSoFar old p last → AreShutSoFar new p last
  done_stays p last it c kid = elim (it c (kid_before p c kid)) [
    | inl later ↦ inl later
    | inr shut ↦ inr (below_stays c shut)
  ]

  -- What is kept of one level stays right.
  known_stays : (s : Stand) → IsKnownLevel old s → IsKnownLevel new s
  known_stays s it = record {
    done = done_stays s.inc s.done it.done;
    below = λ yes c kid. below_stays c (it.below yes c (kid_before s.inc c kid));
  }

  -- The levels of a way down stay right.
  way_stays : (top : ℕ) (stands : List Stand) → IsDescent old top stands → IsDescent new top stands
  way_stays top [] all = tt
  way_stays top (s ∷ ss) all = (
    record { reached = reached_stays top s.inc all.0.reached; known = known_stays s all.0.known },
    way_stays top ss all.1,
  )

  -- What is kept from one pick to the next stays right.
  plan_stays : (plan : DescentPlan) → IsPlan old plan → IsPlan new plan
  plan_stays plan it = record {
    way = way_stays plan.top plan.way.items it.way;
    others = λ top. IfSome_then (get nat_cmp plan.others top) (it.others top) (λ way. way_stays top way.items);
    levels = λ p. IfSome_then (get nat_cmp plan.levels p) (it.levels p) (level_stays p);
  }

-- ---- entries

-- Behind an entry that leaves the rows as they are a plan is still one.
pub planned_same : (rows : List Row) (emptied : Bool) (old new : DescentPlan) → IsPlan rows old → IsPlannedBy emptied old new → IsPlan rows new
planned_same rows true old new it by = plan_none rows new by
planned_same rows false old new it by = subst (IsPlan rows) (sym by) it

-- What is kept between picks is right after a step, where one that changes the tree forgets it.
planned_by : (w : World) (e : Entry) (emptied : Bool) (old new : DescentPlan) → IsHealthy w → IsStep w e → emptied ≡ forgets w e → IsPlan w.rows old → IsPlannedBy emptied old new → IsPlan (after w e).rows new
planned_by w e true old new healthy step told it by = plan_none (after w e).rows new by
planned_by w e false old new healthy step told it by =
    let goes : Goes w (after w e) = goes_after w e step in
    let leads : Leads w (after w e) = leads_after w e healthy step in
    subst (IsPlan (after w e).rows) (sym by)
    (plan_stays w.rows (after w e).rows w.next_inc (after w e).next_inc w.next_inc healthy.sound.orderly leads.sound.orderly
    (sym (bare_rows_stay w e healthy.sound.orderly.increasing (sym told))) goes.follows old it)

-- Behind any entry that the tree allows the plan is one of the tree that is left.
pub planned_after : (a : Inside) (e : Entry) (doomed : Bool) (rows : List Row) (plan : DescentPlan) → LeavesTree (story_of a) (world_in a) → IsStep (world_in a) e → (after (world_in a) e).rows ≡ rows → IsReported (world_in a) e doomed → IsPlan a.table.rows a.records.plan → IsPlannedBy (is_emptied e.event e.reply doomed) a.records.plan plan → IsPlan rows plan
planned_after a e doomed rows plan stands step moves told it by =
    subst (λ rs. IsPlan rs plan) moves
    (planned_by (world_in a) e (is_emptied e.event e.reply doomed) a.records.plan plan (subst IsHealthy stands.world (healthy_of (story_of a) stands.legal)) step told it by)
