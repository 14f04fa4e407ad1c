-- Where the route from a client to its provider turns from going up to going down, the client depends on the provider.
use Rattle.std.proofs.Common.{◌≡◌, ◌≢◌, ℕ, List, [], ◌∷◌, true, false, ◌&&◌, true≢false, Option, Some, None, IsTrue, find, option_and_then, refl, sym, ◌∙◌, ap, subst, inl, inr, ◌⊎◌}
use Rattle.std.specs.List.{list_all}
use Rattle.std.specs.Str.{bytes_eq}
use Rattle.std.specs.Cmp.{unsigned_Decides, first_so, second_so}
use Rattle.cm_names.specs.declared.child.ChildName.{ChildName}
use Rattle.cm_decl.specs.declared.decl.Decl.{Decl}
use Rattle.cm_decl.specs.declared.rows.Give.{Give}
use Rattle.cm_decl.specs.declared.rows.Usage.{Usage}
use Rattle.cm_decl.specs.declared.origin.Origin.TheVariants.{Own, Child}
use Rattle.cm_decl.specs.Graph.{is_strong}
use Rattle.cm_world.specs.declared.row.Row.{Row}
use Rattle.cm_world.specs.declared.frame.Builtin.{Builtin}
use Rattle.cm_world.specs.declared.route.Start.TheVariants.{UseAt}
use Rattle.cm_world.specs.Rows.{row_of, decl_of, child_of, is_below}
use Rattle.cm_world.specs.Level.{is_level_node, is_from_row, LevelStrong}
use Rattle.cm_world.specs.Clients.{IsClient}
use Rattle.cm_world.specs.Sound.{IsOrderly, IsParent}
use Rattle.cm_world.specs.Ending.{is_from_parent, KeepsDown}
use Rattle.cm_world.specs.Stations.{Station, use_station, offer_station, expose_station, capability_station}
use Rattle.cm_world.specs.NextStation.{To, Ends, next_of, next_by}
use Rattle.cm_world.specs.Route.{Named, First, NoUse, IsChain, last_of}
use Rattle.cm_world.proofs.lemmas.trees.Finding.{none_some, some_same}
use Rattle.cm_world.proofs.lemmas.trees.Walks.{child_lives, steps_fall, begins_down}
use Rattle.cm_trees.specs.Kids.{IsKid}
use Rattle.cm_trees.proofs.trees.Trees.{below_self, below_trans, kid_below, parent_lives, eq_some}
use Rattle.cm_laws.proofs.lemmas.levels.Kept.{decl_row}
use Rattle.cm_laws.proofs.lemmas.clients.Next.{provided_at, instance_of, IsOffered, IsNext, by_parent, by_kid, by_itself, by_others, next_is}
use Rattle.cm_laws.proofs.lemmas.clients.Edges.{own_node, offer_edge, use_edge}
use Rattle.cm_trees.proofs.levels.Nodes.{kid_node}

-- the node of p's level that leads to a row: p itself to p, a child to all at and below it
abbrev pub LeadsTo : List Row → ℕ → ℕ → ℕ → Type 0
LeadsTo rows p n x = ((n ≡ p) × (x ≡ p)) ⊎ (IsKid rows p n × IsTrue (is_below rows n x))

-- at some level the node that leads to the first row depends strongly on the one that leads to the second
pub record IsMet (rows : List Row) (x y : ℕ) : Type 0 where
  pub level : ℕ
  pub client : ℕ
  pub source : ℕ
  pub edge : LevelStrong rows level client source
  pub to_client : LeadsTo rows level client x
  pub to_source : LeadsTo rows level source y

-- strong stations behind one another, of which the last is provided by an instance
record IsWay (rows : List Row) (builtins : List Builtin) (y : ℕ) (s : Station) (ss : List Station) : Type 0 where
  pub keeps : KeepsDown s
  pub chain : IsChain rows builtins s ss
  pub strong : IsTrue (list_all (λ t. t.hop.strong) (s ∷ ss))
  pub ends : provided_at (last_of s ss) ≡ Some y

-- the node that leads to x at the level of a station's row depends on what the station's source names
record IsAsking (rows : List Row) (x y : ℕ) (s : Station) (n : ℕ) : Type 0 where
  pub leads : LeadsTo rows s.hop.inc n x
  pub row : Row
  pub lives : row_of rows s.hop.inc ≡ Some row
  pub kid : (c : ChildName) (j : ℕ) → s.source ≡ Some (Child c) → child_of rows s.hop.inc c ≡ Some j → LevelStrong rows s.hop.inc n j
  pub own : s.source ≡ Some Own → s.hop.inc ≡ y → LevelStrong rows s.hop.inc n s.hop.inc

-- what provides no instance doesn't provide this one
not_provided : {A : Type 0} (o : Option ℕ) (y : ℕ) → o ≡ None → o ≡ Some y → A
not_provided o y none some = absurd (none_some y (sym none ∙ some))

module _ (rows : List Row) (builtins : List Builtin) (next : ℕ) (orderly : IsOrderly rows next) where
  -- ---- on the way

  -- a way goes on from its next station
  way_next : (y : ℕ) (s t : Station) (ts : List Station) → IsWay rows builtins y s (t ∷ ts) → IsWay rows builtins y t ts
  way_next y s t ts way = record {
    keeps = (steps_fall rows next builtins s t orderly way.keeps way.chain.0).1;
    chain = way.chain.1;
    strong = second_so s.hop.strong (list_all (λ t. t.hop.strong) (t ∷ ts)) way.strong;
    ends = way.ends;
  }

  -- behind a station without a source stands none
  nothing_next : (s t : Station) → s.source ≡ None → next_of rows builtins s ≡ To t → ⊥
  nothing_next s t none e =
      let ends : Ends ≡ To t = sym (ap (λ o. next_by rows builtins s o) none) ∙ e in
      let never : ⊥ = absurd (cc) in never

  -- so it is the last one of its way
  end_last : (y : ℕ) (s : Station) (ss : List Station) → s.source ≡ None → IsWay rows builtins y s ss → provided_at s ≡ Some y
  end_last y s [] none way = way.ends
  end_last y s (t ∷ ts) none way = absurd (nothing_next s t none way.chain.0)

  -- the child that a name finds
  child_kid : (p j : ℕ) (c : ChildName) → child_of rows p c ≡ Some j → IsKid rows p j
  child_kid p j c found =
      let child : (r : Row) × (row_of rows j ≡ Some r) × (r.parent ≡ Some p) = child_lives rows next p j c orderly.increasing found in
      record { row = child.0; lives = child.1; parent = child.2 }

  -- ---- down

  -- what an expose leads to, by these stations, stands at or below its row
  LeadsDown : ℕ → List Station → Type 0
  LeadsDown y ss = (j : ℕ) (g : Give) (r : Row) → row_of rows j ≡ Some r → IsWay rows builtins y (expose_station rows j g) ss → IsTrue (is_below rows j y)

  -- by what stands behind the expose
  down_next : (y j : ℕ) (g : Give) (r : Row) (t : Station) (ts : List Station) → row_of rows j ≡ Some r → KeepsDown (expose_station rows j g) → IsWay rows builtins y t ts → LeadsDown y ts → IsNext rows (expose_station rows j g) t → IsTrue (is_below rows j y)
  unfolding LeadsDown
  down_next y j g r _ ts lives keeps way later (by_parent p h it) =
      absurd (true≢false (subst (λ o. (is_from_parent o && true) ≡ false) it.source keeps))
  down_next y j g r _ ts lives keeps way later (by_kid c k h source found) =
      let kid : IsKid rows j k = child_kid j k c found in
      below_trans rows next orderly j k y (kid_below rows next orderly j k kid) (later k h kid.row kid.lives way)
  down_next y j g r _ ts lives keeps way later (by_itself c source) =
      subst (λ z. IsTrue (is_below rows j z)) (some_same j y (end_last y (capability_station rows j c) ts refl way)) (below_self rows next orderly j r lives)
  down_next y j g r _ ts lives keeps way later (by_others t none nothing) =
      not_provided (provided_at t) y nothing (end_last y t ts none way)

  -- What an expose leads to, by these stations, stands at or below its row.
  leads_down : (y : ℕ) (ss : List Station) → LeadsDown y ss
  unfolding LeadsDown
  leads_down y [] j g r lives way = absurd (none_some y way.ends)
  leads_down y (t ∷ ts) j g r lives way =
      down_next y j g r t ts lives way.keeps (way_next y (expose_station rows j g) t ts way) (leads_down y ts) (next_is rows builtins (expose_station rows j g) t way.chain.0)

  module _ (x y : ℕ) where
    -- ---- up

    -- where a station asks, and these stations behind it lead to y
    Meets : List Station → Type 0
    Meets ss = (s : Station) (n : ℕ) → IsAsking rows x y s n → provided_at s ≡ None → IsWay rows builtins y s ss → IsMet rows x y

    -- a row whose level has a node that leads to x stands at or above x
    leads_below : (i n : ℕ) (r : Row) → row_of rows i ≡ Some r → LeadsTo rows i n x → IsTrue (is_below rows i x)
    leads_below i n r lives (inl same) = subst (λ z. IsTrue (is_below rows i z)) (sym same.1) (below_self rows next orderly i r lives)
    leads_below i n r lives (inr kid) = below_trans rows next orderly i n x (kid_below rows next orderly i n kid.0) kid.1

    -- a row that is offered something is a child of the one that offers it
    abbrev offered_kid : (s : Station) (p : ℕ) (g : Give) → IsOffered rows s p g → IsKid rows p s.hop.inc
    offered_kid s p g it = record { row = it.row; lives = it.lives; parent = it.parent }

    -- and depends on the source of what is offered
    offered_edge : (s : Station) (p j : ℕ) (g : Give) → IsOffered rows s p g → IsTrue (is_strong g.dependency) → IsTrue (is_from_row rows p j g.from) → IsTrue (is_level_node rows p j) → LevelStrong rows p s.hop.inc j
    offered_edge s p j g it strong from node =
        offer_edge rows next orderly p s.hop.inc j it.decl it.name s.hop.kind s.source_name g (offered_kid s p g it) it.found it.named it.gives strong from node

    -- so it asks at its parent
    asks_above : (s : Station) (n p : ℕ) (g : Give) → IsAsking rows x y s n → IsOffered rows s p g → IsTrue (is_strong g.dependency) → IsAsking rows x y (offer_station rows p g) s.hop.inc
    asks_above s n p g asking it strong =
        let above : IsParent rows p s.hop.inc = parent_lives rows next orderly p s.hop.inc (offered_kid s p g it) in
        record {
          leads = inr (offered_kid s p g it, leads_below s.hop.inc n it.row it.lives asking.leads);
          row = above.row;
          lives = above.lives;
          kid = λ c j source found.
              offered_edge s p j g it strong
              (subst (λ o. IsTrue (is_from_row rows p j o)) (sym (some_same g.from (Child c) source)) (eq_some (child_of rows p c) j found))
              (kid_node rows p j (child_kid p j c found));
          own = λ source same.
              offered_edge s p p g it strong
              (subst (λ o. IsTrue (is_from_row rows p p o)) (sym (some_same g.from Own source)) ((unsigned_Decides p p).1 refl))
              (own_node rows p above.row above.lives);
        }

    -- by what stands behind a station that asks
    up_next : (s : Station) (n : ℕ) (t : Station) (ts : List Station) → IsAsking rows x y s n → IsWay rows builtins y t ts → Meets ts → IsNext rows s t → IsMet rows x y
    unfolding Meets LeadsDown
    up_next s n _ ts asking way later (by_parent p g it) =
        later (offer_station rows p g) s.hop.inc
        (asks_above s n p g asking it (first_so (is_strong g.dependency) (list_all (λ t. t.hop.strong) ts) way.strong)) refl way
    up_next s n _ ts asking way later (by_kid c j g source found) =
        let kid : IsKid rows s.hop.inc j = child_kid s.hop.inc j c found in
        record {
          level = s.hop.inc;
          client = n;
          source = j;
          edge = asking.kid c j source found;
          to_client = asking.leads;
          to_source = inr (kid, leads_down y ts j g kid.row kid.lives way);
        }
    up_next s n _ ts asking way later (by_itself c source) =
        let same : s.hop.inc ≡ y = some_same s.hop.inc y (end_last y (capability_station rows s.hop.inc c) ts refl way) in
        record {
          level = s.hop.inc;
          client = n;
          source = s.hop.inc;
          edge = asking.own source same;
          to_client = asking.leads;
          to_source = inl (refl, sym same);
        }
    up_next s n _ ts asking way later (by_others t none nothing) =
        not_provided (provided_at t) y nothing (end_last y t ts none way)

    -- Where a station asks and these behind it lead to the provider, the client meets it.
    meets : (ss : List Station) → Meets ss
    unfolding Meets
    meets [] s n asking nothing way = not_provided (provided_at s) y nothing way.ends
    meets (t ∷ ts) s n asking nothing way =
        up_next s n t ts asking (way_next y s t ts way) (meets ts) (next_is rows builtins s t way.chain.0)

    -- ---- the whole route

    -- a client asks by its use
    asks_use : (path : List ℕ) (r : Row) (d : Decl) (u : Usage) → x ≢ y → row_of rows x ≡ Some r → decl_of rows x ≡ Some d → find (λ u. bytes_eq u.path path) d.uses ≡ Some u → IsTrue (is_strong u.dependency) → IsAsking rows x y (use_station rows x u) x
    asks_use path r d u differ lives found used strong = record {
      leads = inl (refl, refl);
      row = r;
      lives = lives;
      kid = λ c j source finds.
          use_edge rows next orderly x j r d c (λ u. bytes_eq u.path path) u lives found used strong
          (some_same u.from (Child c) source) finds (kid_node rows x j (child_kid x j c finds));
      own = λ source same. absurd (differ same);
    }

    -- by the use that is found
    met_use : (path : List ℕ) (d : Decl) (s : Station) (ss : List Station) (o : Option Usage) → x ≢ y → decl_of rows x ≡ Some d → find (λ u. bytes_eq u.path path) d.uses ≡ o → elim o as (λ _. Named) [ None ↦ NoUse | Some u ↦ First (use_station rows x u) ] ≡ First s → IsWay rows builtins y s ss → IsMet rows x y
    unfolding Meets
    met_use path d s ss None differ found used begins way = let never : ⊥ = absurd (cc) in absurd never
    met_use path d s ss (Some u) differ found used begins way =
        let row : (r : Row) × (row_of rows x ≡ Some r) × (r.decl ≡ Some d) = decl_row rows x d found in
        let same : s ≡ use_station rows x u = cc in
        let used_way : IsWay rows builtins y (use_station rows x u) ss = subst (λ z. IsWay rows builtins y z ss) same way in
        meets ss (use_station rows x u) x
        (asks_use path row.0 d u differ row.1 found used (first_so (is_strong u.dependency) (list_all (λ s. s.hop.strong) ss) used_way.strong)) refl used_way

    -- by the declaration
    met_decl : (path : List ℕ) (s : Station) (ss : List Station) (o : Option Decl) → x ≢ y → decl_of rows x ≡ o → elim (option_and_then (λ d. find (λ u. bytes_eq u.path path) d.uses) o) as (λ _. Named) [ None ↦ NoUse | Some u ↦ First (use_station rows x u) ] ≡ First s → IsWay rows builtins y s ss → IsMet rows x y
    met_decl path s ss None differ found begins way = let never : ⊥ = absurd (cc) in absurd never
    met_decl path s ss (Some d) differ found begins way =
        met_use path d s ss (find (λ u. bytes_eq u.path path) d.uses) differ found refl begins way

  -- a client depends on its provider at some level
  pub met : (x y : ℕ) → IsClient rows builtins x y → IsMet rows x y
  met x y client =
      met_decl x y client.path client.first client.rest (decl_of rows x) client.differ refl client.route.begins (record {
        keeps = begins_down rows next (UseAt x client.path) client.first orderly client.route.begins;
        chain = client.route.chain;
        strong = client.strong;
        ends = ap instance_of client.provider;
      })
