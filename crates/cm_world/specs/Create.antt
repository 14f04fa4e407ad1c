-- Promised.
-- The reply to a create, which adds a child to a collection of its parent.
use Rattle.std.specs.Prelude.{◌≡◌, ℕ, List, [], ◌∷◌, ◌++◌, Bool, true, false, not, ◌&&◌, Option, Some, None}
use Rattle.std.specs.Prelude.{find, filter_map, is_some, option_map, option_and_then, if◌then◌else◌}
use Rattle.std.specs.Str.{bytes_eq}
use Rattle.cm_names.specs.declared.child.ChildName.{ChildName}
use Rattle.cm_decl.specs.declared.decl.Decl.{Decl}
use Rattle.cm_decl.specs.declared.rows.Collection.{Collection}
use Rattle.cm_decl.specs.declared.node.DynChild.{DynChild}
use Rattle.cm_decl.specs.declared.rows.Give.{Give}
use Rattle.cm_decl.specs.Dynamic.{bad_give}
use Rattle.cm_decl.specs.Graph.{StrongOn, is_strong_edge}
use Rattle.cm_decl.specs.Cycle.{IsPickedCycle}
use Rattle.cm_decl.specs.Reach.{NoCycle}
use Rattle.cm_world.specs.declared.event.NewChild.{NewChild}
use Rattle.cm_world.specs.declared.row.Row.{Row}
use Rattle.cm_world.specs.declared.reply.Reply.{Reply}
use Rattle.cm_world.specs.declared.reply.Reply.TheVariants.{Gone, Closing, Need, NoCollection, Exists}
use Rattle.cm_world.specs.declared.reply.Reply.TheVariants.{OffersRefused, BadOffer, Cycle, Full, Created}
use Rattle.cm_world.specs.Rows.{decl_of, child_of, has_parent, is_gone, is_closed}
use Rattle.cm_world.specs.World.{new_row, rows_fit}

-- what a child is created with: its collection, its name there, its URL, and what it alone is offered
abbrev pub child_with : List ℕ → List ℕ → List ℕ → List Give → NewChild
child_with coll name url gives = record { coll = coll; name = name; url = url; gives = gives }

-- the name of a child in a collection: the collection's, and its own
abbrev pub dynamic_name : List ℕ → List ℕ → ChildName
dynamic_name coll name = record { coll = Some coll; name = name }

-- the collection of this name in a declaration, if it has one
abbrev pub collection_of : Decl → List ℕ → Option Collection
collection_of d coll = find (λ c. bytes_eq c.name coll) d.collections

-- ---- the children in collections

-- a row named c as a child of p in a collection, with what it was offered when it was created; none
-- for a doomed row, another's child, or a declared one
abbrev pub dynamic_by : ℕ → Row → ChildName → Option DynChild
dynamic_by p r c =
    if has_parent p r && is_some c.coll && not r.doomed then Some (record { name = c; gives = r.gives })
    else None

-- a row as a child of p in a collection, if it is one that isn't doomed
abbrev pub dynamic_of : ℕ → Row → Option DynChild
dynamic_of p r = option_and_then (dynamic_by p r) r.name

-- the children of p in collections that aren't doomed, as the realm graph of p's declaration takes
-- them in
abbrev pub dynamic_children : List Row → ℕ → List DynChild
dynamic_children rows p = filter_map (dynamic_of p) rows

-- the children of p in collections, and the one that would be created
abbrev pub dynamic_with : List Row → ℕ → ChildName → List Give → List DynChild
dynamic_with rows p c gives = dynamic_children rows p ++ record { name = c; gives = gives } ∷ []

-- whether p has a child of this name that isn't doomed
abbrev pub is_child_there : List Row → ℕ → ChildName → Bool
is_child_there rows p c = is_some (child_of rows p c)

-- ---- what refuses a new child before its realm graph is looked at

-- what refuses the offers that a new child would be given: its collection takes none, or one of them
-- breaks the rules of offers
abbrev pub refused_gives : List Row → ℕ → Decl → Collection → List Give → Option Reply
refused_gives rows p d coll [] = None
refused_gives rows p d coll (g ∷ gs) =
    if coll.dynamic_offers
    then option_map (λ bad. BadOffer bad.0 bad.1) (bad_give d (is_child_there rows p) coll.name (g ∷ gs))
    else Some OffersRefused

-- what refuses a new child in a collection that is there: a child of that name, then its offers
abbrev pub refused_name : List Row → ℕ → Decl → Collection → ChildName → List Give → Option Reply
refused_name rows p d coll c gives =
    elim (child_of rows p c) as (λ _. Option Reply) [
      | Some i ↦ Some (Exists i)
      | None ↦ refused_gives rows p d coll gives
    ]

-- what refuses a new child by its parent's declaration: there is no such collection, or its name or
-- offers
abbrev pub refused_by : List Row → ℕ → Decl → List ℕ → List ℕ → List Give → Option Reply
refused_by rows p d coll name gives =
    elim (collection_of d coll) as (λ _. Option Reply) [
      | None ↦ Some NoCollection
      | Some c ↦ refused_name rows p d c (dynamic_name coll name) gives
    ]

-- what refuses a create before the realm graph is looked at: the parent is gone, is being shut down or
-- isn't resolved, or its declaration doesn't allow the child
abbrev pub refused_create : List Row → ℕ → List ℕ → List ℕ → List Give → Option Reply
refused_create rows p coll name gives =
    if is_gone rows p then Some (Gone p)
    else if is_closed rows p then Some (Closing p)
    else elim (decl_of rows p) as (λ _. Option Reply) [
      | None ↦ Some (Need p)
      | Some d ↦ refused_by rows p d coll name gives
    ]

-- ---- the reply

-- the reply where nothing but the realm graph or the room is left to refuse: a cycle of strong edges
-- that the child would close, no room for a row, or the incarnation of the new row
abbrev pub Creates : ℕ → List Row → ℕ → Decl → List DynChild → Reply → Type 0
Creates limit rows next d dynamic (Cycle nodes) = IsPickedCycle (is_strong_edge d dynamic) nodes
Creates limit rows next d dynamic Full =
    NoCycle (StrongOn d dynamic) × (rows_fit limit rows next 1 ≡ false)
Creates limit rows next d dynamic (Created i) =
    NoCycle (StrongOn d dynamic) × (rows_fit limit rows next 1 ≡ true) × (i ≡ next)
Creates limit rows next d dynamic _ = ⊥

-- the reply where nothing but the realm graph or the room is left to refuse, by the parent's
-- declaration, which is there
abbrev pub CreatesUnder : ℕ → List Row → ℕ → Option Decl → List DynChild → Reply → Type 0
CreatesUnder limit rows next None dynamic reply = ⊥
CreatesUnder limit rows next (Some d) dynamic reply = Creates limit rows next d dynamic reply

-- the reply to a create is the refusal, if there is one; else it is decided by the realm graph and the
-- room
abbrev pub CreatesUnless : ℕ → List Row → ℕ → ℕ → ChildName → List Give → Option Reply → Reply → Type 0
CreatesUnless limit rows next p c gives (Some refusal) reply = reply ≡ refusal
CreatesUnless limit rows next p c gives None reply =
    CreatesUnder limit rows next (decl_of rows p) (dynamic_with rows p c gives) reply

-- the reply to a create; next is the incarnation that the new row would get
abbrev pub IsCreateReply : ℕ → List Row → ℕ → ℕ → List ℕ → List ℕ → List Give → Reply → Type 0
IsCreateReply limit rows next p coll name gives reply =
    CreatesUnless limit rows next p (dynamic_name coll name) gives
    (refused_create rows p coll name gives) reply

-- the row of a child that was just created in a collection
abbrev pub created_row : ℕ → ℕ → List ℕ → List ℕ → List ℕ → List Give → Row
created_row i p coll name url gives = new_row i (Some p) (Some (dynamic_name coll name)) url gives
