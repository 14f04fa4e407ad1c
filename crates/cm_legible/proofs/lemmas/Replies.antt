-- In a world that can be told of, replies to events that can be told of can be told of, and their monikers are
-- of names.
use Rattle.std.proofs.Common.{◌≡◌, ℕ, List, [], ◌∷◌, ◌++◌, map, filter, Bool, true, false, cond, not, ◌&&◌, Option, Some, None, option_map, is_some, ◌==◌, All, IsTrue, sym, subst, inl, inr}
use Rattle.std.specs.Prelude.{IfSome, filter_map}
use Rattle.std.specs.Option.{option_eq}
use Rattle.std.specs.Str.{bytes_eq}
use Rattle.std.specs.List.{list_any}
use Rattle.std.proofs.lemmas.Bool.{and_parts, or_cases}
use Rattle.std.proofs.lemmas.List.Elements.{All-cons, All-append, All-filter, All-tail, All-nil}
use Rattle.cm_names.specs.declared.child.ChildName.{ChildName}
use Rattle.cm_names.specs.Moniker.{IsChildName}
use Rattle.cm_names.specs.Name.{IsName}
use Rattle.cm_names.specs.Path.{is_path}
use Rattle.cm_facts.proofs.Options.{IfSome_some}
use Rattle.cm_facts.proofs.Lists.{All_map, All_filter_map}
use Rattle.cm_decl.specs.Dynamic.{bad_give}
use Rattle.cm_decl.specs.Graph.{is_strong_edge, is_node, nodes, static_node, dynamic_node, sources_of, is_from_node}
use Rattle.cm_decl.specs.Cycle.{IsPickedCycle, NextInCore}
use Rattle.cm_decl.specs.Reach.{DependencyPath}
use Rattle.cm_decl.specs.Same.{same_node}
use Rattle.cm_decl.proofs.lemmas.Sameness.{never, same_node_exact}
use Rattle.cm_decl.specs.declared.decl.Decl.{Decl}
use Rattle.cm_decl.specs.declared.node.Node.{Node}
use Rattle.cm_decl.specs.declared.node.Node.TheVariants as node
use Rattle.cm_decl.specs.declared.node.DynChild.{DynChild}
use Rattle.cm_decl.specs.declared.rows.Collection.{Collection}
use Rattle.cm_decl.specs.declared.rows.Give.{Give}
use Rattle.cm_world.specs.declared.row.Row.{Row}
use Rattle.cm_world.specs.declared.action.ActKind.{ActKind}
use Rattle.cm_world.specs.declared.action.ActKind.TheVariants as kind
use Rattle.cm_world.specs.declared.action.Outcome.{Outcome}
use Rattle.cm_world.specs.declared.action.Work.{Work}
use Rattle.cm_world.specs.declared.frame.Builtin.{Builtin}
use Rattle.cm_world.specs.declared.report.Kid.{Kid}
use Rattle.cm_world.specs.declared.report.Lost.{Lost}
use Rattle.cm_world.specs.declared.route.Provider.{Provider}
use Rattle.cm_world.specs.declared.route.Provider.TheVariants as provider
use Rattle.cm_world.specs.declared.route.Route.{Route}
use Rattle.cm_world.specs.declared.route.Start.{Start}
use Rattle.cm_world.specs.declared.route.Start.TheVariants.{UseAt, ExposeAt}
use Rattle.cm_world.specs.declared.route.Walked.{Walked}
use Rattle.cm_world.specs.declared.route.Walked.TheVariants as walked
use Rattle.cm_world.specs.declared.event.Event.{Event}
use Rattle.cm_world.specs.declared.event.Event.TheVariants.{Find, Begin, End, Await, Create, Mark, Pick, Purge, Route as RouteOf, OpenUse, OpenExposed, Listing, Show, Survey, Exited, Tail, Reap}
use Rattle.cm_world.specs.declared.reply.Entry.{Entry}
use Rattle.cm_world.specs.declared.reply.Reply.{Reply}
use Rattle.cm_world.specs.declared.reply.Reply.TheVariants as reply
use Rattle.cm_world.specs.Rows.{row_of, decl_of, child_of, is_gone, is_closed, is_resolved, is_on, is_live, is_below, has_closing, has_parent, subtree, moniker_of}
use Rattle.cm_world.specs.World.{World, start, outcome_of}
use Rattle.cm_world.specs.Find.{found_from}
use Rattle.cm_world.specs.Work.{work_of}
use Rattle.cm_world.specs.Begin.{same_act, is_so, needs_decl, begin_idle, begin_at, begin_reply}
use Rattle.cm_world.specs.Create.{collection_of, refused_gives, refused_name, refused_by, refused_create, Creates, CreatesUnder, CreatesUnless, dynamic_name, dynamic_with, dynamic_children, dynamic_of, dynamic_by, is_child_there}
use Rattle.cm_world.specs.Marks.{is_dynamic, mark_reply, lost_of}
use Rattle.cm_world.specs.Reports.{look_at, kid_by, kid_of, has_collection, list_by, survey_row, exit_reply}
use Rattle.cm_world.specs.Openings.{unready, unopened, routed, opened, opened_at, WalksUnless}
use Rattle.cm_world.specs.Step.{IsPickReply, Allowed}
use Rattle.cm_world.specs.Legal.{Legal}
use Rattle.cm_world.specs.After.{after}
use Rattle.cm_reply.specs.LegibleInside.{IsLegibleReply, IsLegibleSurvey, IsLegibleRoute, IsOfName, IsOfNames}
use Rattle.cm_legible.specs.Tellable.{IsTellable, IsTellableRow, IsTellableWorld, IsTellableDecl, IsTellableKid, IsTellableUsage, IsNamedReply, RepliesAreNamed, RepliesAreTellable}
use Rattle.cm_legible.proofs.lemmas.Lists.{head, find-All, and_then}
use Rattle.cm_legible.proofs.lemmas.Stations.{moniker_told, decl_told, WalkedIsTold, use_named, expose_named, walked_told}
use Rattle.cm_legible.proofs.lemmas.Worlds.{after_tellable, start_tellable}

-- The monikers of the reply are of names.
abbrev Told : Reply → Type 0
Told r = IsNamedReply r

-- The reply, if there is one, has monikers of names.
abbrev OrTold : Option Reply → Type 0
OrTold o = IfSome o IsNamedReply

-- Either of two replies of names, as a test chooses, is of names.
either : (b : Bool) (x y : Reply) → Told x → Told y → Told (cond b x y)
either true x y h k = h
either false x y h k = k

-- Either of two replies of names or none, as a test chooses, is of names or none.
either_or : (b : Bool) (x y : Option Reply) → OrTold x → OrTold y → OrTold (cond b x y)
either_or true x y h k = h
either_or false x y h k = k

-- A reply that is there is of names, where what there is of it is.
said : (o : Option Reply) (r : Reply) → OrTold o → o ≡ Some r → Told r
said o r h e = IfSome_some IsNamedReply o r e h

-- A reply that is the same as one of names is of names.
is_told : (x r : Reply) → Told x → r ≡ x → Told r
is_told x r h e = subst IsNamedReply (sym e) h

-- ---- a find

-- What a find is answered, by whether the next child is there, is of names.
found_child : (rows : List Row) (prefix : List ChildName) (c : ChildName) (cs : List ChildName) (o : Option ℕ) → All IsChildName prefix → ((j : ℕ) → Told (found_from rows j (prefix ++ c ∷ []) cs)) → Told (elim o as (λ _. Reply) [ None ↦ reply.NotFound (record { parts = prefix }) | Some j ↦ found_from rows j (prefix ++ c ∷ []) cs ])
found_child rows prefix c cs None h more = h
found_child rows prefix c cs (Some j) h more = more j

-- What a find of proper names is answered is of names.
found_told : (rows : List Row) (i : ℕ) (prefix cs : List ChildName) → All IsChildName prefix → All IsChildName cs → Told (found_from rows i prefix cs)
found_told rows i prefix [] h k = tt
found_told rows i prefix (c ∷ cs) h k =
    either (is_resolved rows i) _ _
    (found_child rows prefix c cs (child_of rows i c) h (λ j. found_told rows j (prefix ++ c ∷ []) cs (All-append IsChildName prefix (c ∷ []) h (All-cons IsChildName c [] (head IsChildName c cs k) (All-nil IsChildName))) (All-tail IsChildName c cs k)))
    (either (is_closed rows i) (reply.Shut i) (reply.Need i) tt tt)

-- ---- a begin

-- The work of an action on a row has a moniker of names, where all rows can be told of.
work_named : (rows : List Row) (n : ℕ) (kind : ActKind) (r : Row) → All IsTellableRow rows → IsOfNames (work_of rows n kind r).moniker
work_named rows n kind.Resolve r h = moniker_told rows h r.inc
work_named rows n kind.Start r h = moniker_told rows h r.inc
work_named rows n kind.Stop r h = moniker_told rows h r.inc

-- What a begin at an idle row is answered is of names.
idle_told : (rows : List Row) (n : ℕ) (kind : ActKind) (r : Row) → All IsTellableRow rows → Told (begin_idle rows n kind r)
idle_told rows n kind r h =
    either (is_so kind r) _ _ tt (either (is_closed rows r.inc) (reply.Shut r.inc) _ tt (either (needs_decl kind r) (reply.Need r.inc) _ tt (work_named rows n kind r h)))

-- What a begin is answered, by whether an action is pending, is of names.
pending_told : (rows : List Row) (n : ℕ) (kind : ActKind) (r : Row) (o : Option (ActKind × ℕ)) → All IsTellableRow rows → OrTold (elim o as (λ _. Option Reply) [ Some p ↦ cond (same_act kind p.0) (Some (reply.Joined p.1)) None | None ↦ Some (begin_idle rows n kind r) ])
pending_told rows n kind r (Some p) h = either_or (same_act kind p.0) (Some (reply.Joined p.1)) None tt tt
pending_told rows n kind r None h = idle_told rows n kind r h

-- What a begin is answered, by whether the row is there, is of names.
begun_told : (rows : List Row) (n i : ℕ) (kind : ActKind) (o : Option Row) → All IsTellableRow rows → OrTold (elim o as (λ _. Option Reply) [ None ↦ Some (reply.Gone i) | Some r ↦ begin_at rows n kind r ])
begun_told rows n i kind None h = tt
begun_told rows n i kind (Some r) h = pending_told rows n kind r r.pending h

-- What a begin is answered is of names.
begin_told : (rows : List Row) (n i : ℕ) (kind : ActKind) → All IsTellableRow rows → OrTold (begin_reply rows n kind i)
begin_told rows n i kind h = either_or (is_gone rows i) (Some (reply.Gone i)) _ tt (begun_told rows n i kind (row_of rows i) h)

-- ---- a create

-- What is answered for a bad offer is of names.
bad_told : (o : Option (ℕ × ℕ)) → OrTold (option_map (λ bad. reply.BadOffer bad.0 bad.1) o)
bad_told None = tt
bad_told (Some bad) = tt

-- What a creation is answered whose offers are refused is of names.
gives_told : (rows : List Row) (p : ℕ) (d : Decl) (coll : Collection) (gives : List Give) → OrTold (refused_gives rows p d coll gives)
gives_told rows p d coll [] = tt
gives_told rows p d coll (g ∷ gs) =
    either_or coll.dynamic_offers _ (Some reply.OffersRefused) (bad_told (bad_give d (is_child_there rows p) coll.name (g ∷ gs))) tt

-- What a creation is answered whose name may be taken is of names.
name_told : (rows : List Row) (p : ℕ) (d : Decl) (coll : Collection) (gives : List Give) (o : Option ℕ) → OrTold (elim o as (λ _. Option Reply) [ Some i ↦ Some (reply.Exists i) | None ↦ refused_gives rows p d coll gives ])
name_told rows p d coll gives (Some i) = tt
name_told rows p d coll gives None = gives_told rows p d coll gives

-- What a creation is answered, by whether there is such a collection, is of names.
by_told : (rows : List Row) (p : ℕ) (d : Decl) (coll name : List ℕ) (gives : List Give) (o : Option Collection) → OrTold (elim o as (λ _. Option Reply) [ None ↦ Some reply.NoCollection | Some c ↦ refused_name rows p d c (dynamic_name coll name) gives ])
by_told rows p d coll name gives None = tt
by_told rows p d coll name gives (Some c) = name_told rows p d c gives (child_of rows p (dynamic_name coll name))

-- What a creation is answered, by whether its parent has a declaration, is of names.
under_told : (rows : List Row) (p : ℕ) (coll name : List ℕ) (gives : List Give) (o : Option Decl) → OrTold (elim o as (λ _. Option Reply) [ None ↦ Some (reply.Need p) | Some d ↦ refused_by rows p d coll name gives ])
under_told rows p coll name gives None = tt
under_told rows p coll name gives (Some d) = by_told rows p d coll name gives (collection_of d coll)

-- What a creation that is refused is answered is of names.
refused_told : (rows : List Row) (p : ℕ) (coll name : List ℕ) (gives : List Give) → OrTold (refused_create rows p coll name gives)
refused_told rows p coll name gives =
    either_or (is_gone rows p) (Some (reply.Gone p)) _ tt (either_or (is_closed rows p) (Some (reply.Closing p)) _ tt (under_told rows p coll name gives (decl_of rows p)))

-- the nodes of a cycle are nodes of the graph
nodes_told : (d : Decl) (dynamic : List DynChild) → IsTellableDecl d → All (λ (k : DynChild). IsChildName k.name) dynamic → All IsOfName (nodes d dynamic)
nodes_told d dynamic h k =
    All-cons IsOfName node.Own _ tt
    (All-append IsOfName (map static_node d.children) (map dynamic_node dynamic)
    (All_map IsTellableKid IsOfName static_node d.children (λ c j. (j.name, tt)) h.children)
    (All_map (λ (c : DynChild). IsChildName c.name) IsOfName dynamic_node dynamic (λ c j. j) k))

-- A node that is the same as one of nodes of names is of names.
node_told : (x : Node) (xs : List Node) → All IsOfName xs → IsTrue (list_any (λ y. same_node y x) xs) → IsOfName x
node_told x [] h k = never k
node_told x (y ∷ ys) h k = elim (or_cases (same_node y x) (list_any (λ z. same_node z x) ys) k) as (λ _. IsOfName x) [
  | inl here ↦ subst IsOfName (same_node_exact y x here) (head IsOfName y ys h)
  | inr later ↦ node_told x ys (All-tail IsOfName y ys h) later
]

-- both nodes of an edge are of the graph
module _ (d : Decl) (dynamic : List DynChild) (graph : All IsOfName (nodes d dynamic)) where
  -- The nodes at both ends of a strong edge are of names.
  edge_told : (x y : Node) → IsTrue (is_strong_edge d dynamic x y) → IsOfName x × IsOfName y
  edge_told x y h =
      let both = and_parts (list_any (is_from_node y) (sources_of d dynamic x) && is_node d dynamic x) (is_node d dynamic y) h in
      (node_told x (nodes d dynamic) graph (and_parts (list_any (is_from_node y) (sources_of d dynamic x)) (is_node d dynamic x) both.0).1, node_told y (nodes d dynamic) graph both.1)

  -- The nodes of a path of strong edges are of names.
  way_told : (x y : Node) (between : List Node) → DependencyPath (NextInCore (is_strong_edge d dynamic)) x between y → IsOfName x × All IsOfName between
  way_told x y [] h = ((edge_told x y h.0.1).0, All-nil IsOfName)
  way_told x y (z ∷ zs) h =
      let more : IsOfName z × All IsOfName zs = way_told z y zs h.1 in
      ((edge_told x z h.0.0.1).0, All-cons IsOfName z zs more.0 more.1)

  -- The nodes of the cycle that is picked are of names.
  cycle_told : (cycle : List Node) → IsPickedCycle (is_strong_edge d dynamic) cycle → All IsOfName cycle
  cycle_told cycle h =
      let way : IsOfName h.head × All IsOfName h.others = way_told h.head h.head h.others h.loop in
      subst (All IsOfName) (sym h.whole)
      (All-cons IsOfName h.head (h.others ++ h.head ∷ []) way.0 (All-append IsOfName h.others (h.head ∷ []) way.1 (All-cons IsOfName h.head [] way.0 (All-nil IsOfName))))

-- What there is of a row's dynamic child has a proper name, where the row's name is.
dynamic_if : (b : Bool) (r : Row) (c : ChildName) → IsChildName c → IfSome (cond b (Some (record { name = c; gives = r.gives })) None) (λ (k : DynChild). IsChildName k.name)
dynamic_if true r c h = h
dynamic_if false r c h = tt

-- The dynamic children of a row, with one more of a proper name, have proper names.
dynamic_told : (rows : List Row) (p : ℕ) (c : ChildName) (gives : List Give) → All IsTellableRow rows → IsChildName c → All (λ (k : DynChild). IsChildName k.name) (dynamic_with rows p c gives)
dynamic_told rows p c gives h k =
    All-append (λ (x : DynChild). IsChildName x.name) (dynamic_children rows p) _
    (All_filter_map IsTellableRow (λ (x : DynChild). IsChildName x.name) (dynamic_of p) rows
    (λ r j. and_then IsChildName (λ (x : DynChild). IsChildName x.name) (dynamic_by p r) r.name j.name (λ x i. dynamic_if (has_parent p r && is_some x.coll && not r.doomed) r x i)) h)
    (All-cons (λ (x : DynChild). IsChildName x.name) _ [] k (All-nil (λ (x : DynChild). IsChildName x.name)))

-- What a creation that may close a cycle is answered is of names, where the graph's nodes are.
creates_told : (limit : ℕ) (rows : List Row) (next : ℕ) (d : Decl) (dynamic : List DynChild) (r : Reply) → All IsOfName (nodes d dynamic) → Creates limit rows next d dynamic r → Told r
creates_told limit rows next d dynamic (reply.Cycle ns) graph it = cycle_told d dynamic graph ns it
creates_told limit rows next d dynamic reply.Full graph it = tt
creates_told limit rows next d dynamic (reply.Created i) graph it = tt
creates_told limit rows next d dynamic _ graph it = absurd it

-- What a creation below a row that may have no declaration is answered is of names.
under_by : (limit : ℕ) (rows : List Row) (next : ℕ) (o : Option Decl) (dynamic : List DynChild) (r : Reply) → IfSome o IsTellableDecl → All (λ (k : DynChild). IsChildName k.name) dynamic → CreatesUnder limit rows next o dynamic r → Told r
under_by limit rows next None dynamic r h k it = absurd it
under_by limit rows next (Some d) dynamic r h k it = creates_told limit rows next d dynamic r (nodes_told d dynamic h k) it

-- What a creation that may be refused is answered is of names.
create_told : (limit : ℕ) (rows : List Row) (next p : ℕ) (c : ChildName) (gives : List Give) (o : Option Reply) (r : Reply) → All IsTellableRow rows → IsChildName c → OrTold o → CreatesUnless limit rows next p c gives o r → Told r
create_told limit rows next p c gives (Some x) r h k j it = is_told x r j it
create_told limit rows next p c gives None r h k j it =
    under_by limit rows next (decl_of rows p) (dynamic_with rows p c gives) r (decl_told rows h p) (dynamic_told rows p c gives h k) it

-- ---- marks and picks

-- What a mark to be destroyed is answered, by whether the row is there, is of names.
doomed_told : (rows : List Row) (i : ℕ) (o : Option Row) → Told (elim o as (λ _. Reply) [ None ↦ reply.Gone i | Some r ↦ cond r.doomed reply.Already (cond (is_gone rows i) (reply.Gone i) (cond (is_dynamic r) reply.Marked reply.NotDynamic)) ])
doomed_told rows i None = tt
doomed_told rows i (Some r) = either r.doomed reply.Already _ tt (either (is_gone rows i) (reply.Gone i) _ tt (either (is_dynamic r) reply.Marked reply.NotDynamic tt tt))

-- What a mark is answered is of names.
mark_told : (rows : List Row) (doom : Bool) (i : ℕ) → Told (mark_reply rows doom i)
mark_told rows doom i =
    either doom _ _ (doomed_told rows i (row_of rows i)) (either (is_gone rows i) (reply.Gone i) _ tt (either (has_closing rows i) reply.Already reply.Marked tt tt))

-- What a pick is answered is of names.
pick_told : (rows : List Row) (n t : ℕ) (r : Reply) → All IsTellableRow rows → IsPickReply rows n t r → Told r
pick_told rows n t reply.Done h it = tt
pick_told rows n t (reply.Stopping work) h it =
    subst (λ (w : Work). IsOfNames w.moniker) (sym it.same) (work_named rows n kind.Stop it.row h)
pick_told rows n t (reply.ShutDown i) h it = tt
pick_told rows n t _ h it = absurd it

-- ---- removals

-- The instances that are lost with a purge have monikers of names.
purged_told : (rows : List Row) (i : ℕ) → All IsTellableRow rows → All (λ (l : Lost). IsOfNames l.moniker) (map (lost_of rows) (subtree rows i))
purged_told rows i h =
    All_map IsTellableRow (λ (l : Lost). IsOfNames l.moniker) (lost_of rows) (subtree rows i) (λ r k. moniker_told rows h r.inc)
    (All-filter (λ r. is_below rows i r.inc) IsTellableRow rows h)

-- ---- routes and openings

-- What refuses a reply that needs the row's declaration is of names.
unready_told : (rows : List Row) (i : ℕ) → OrTold (unready rows i)
unready_told rows i =
    either_or (is_gone rows i) (Some (reply.Gone i)) _ tt (either_or (is_resolved rows i) None _ tt (either_or (is_closed rows i) (Some (reply.Shut i)) (Some (reply.Need i)) tt tt))

-- What refuses an opening by a use of a row is of names.
unopened_told : (rows : List Row) (i : ℕ) → OrTold (unopened rows i)
unopened_told rows i = either_or (is_gone rows i) (Some (reply.Gone i)) _ tt (either_or (is_on rows i) None (Some reply.ClientOff) tt tt)

-- What a route is answered, for a walk that can be told of, is of names.
routed_told : (rows : List Row) (v : Walked) → WalkedIsTold v → Told (routed rows v)
routed_told rows (walked.Given route) h = h
routed_told rows (walked.Failed hop why) h = h
routed_told rows (walked.Need j) h = either (is_closed rows j) (reply.SourceShut j) (reply.Need j) tt tt
routed_told rows (walked.Void hop) h = h
routed_told rows walked.NoSuchUse h = tt

-- What an opening at a route's provider is answered is of names, where the route is legible.
opened_at_told : (rows : List Row) (route : Route) (p : Provider) → IsLegibleRoute route → Told (opened_at rows route p)
opened_at_told rows route (provider.Instance s m) h = either _ (reply.SourceShut s) _ tt (either (is_on rows s) (reply.Opened route) (reply.NeedStart s) h tt)
opened_at_told rows route provider.Framework h = h
opened_at_told rows route provider.Builtin h = h

-- What an opening is answered, for a walk that can be told of, is of names.
opened_told : (rows : List Row) (v : Walked) → WalkedIsTold v → Told (opened rows v)
opened_told rows (walked.Given route) h = opened_at_told rows route route.provider h
opened_told rows (walked.Failed hop why) h = h
opened_told rows (walked.Need j) h = routed_told rows (walked.Need j) tt
opened_told rows (walked.Void hop) h = h
opened_told rows walked.NoSuchUse h = tt

-- What a walk, unless refused, is answered is of names, where what is made of walks is.
walks_told : (rows : List Row) (builtins : List Builtin) (begin : Start) (make : Walked → Reply) (o : Option Reply) (r : Reply) → OrTold o → ((v : Walked) → Rattle.cm_world.specs.Route.IsWalked rows builtins begin v → Told (make v)) → WalksUnless rows builtins begin make o r → Told r
walks_told rows builtins begin make (Some x) r h k it = is_told x r h it
walks_told rows builtins begin make None r h k it = is_told (make it.0) r (k it.0 it.1) it.2

-- ---- reports

-- What there is of a listed child has a proper name, where the row's name is.
kid_if : (b : Bool) (r : Row) (c : ChildName) → IsChildName c → IfSome (cond b (Some (record { name = c.name; inc = r.inc })) None) (λ (k : Kid). IsName k.name)
kid_if true r c h = h.0
kid_if false r c h = tt

-- The children in a collection of a row have proper names.
kids_told : (rows : List Row) (i : ℕ) (coll : List ℕ) → All IsTellableRow rows → All (λ (k : Kid). IsName k.name) (filter_map (kid_of i coll) rows)
kids_told rows i coll h =
    All_filter_map IsTellableRow (λ (k : Kid). IsName k.name) (kid_of i coll) rows
    (λ r j. and_then IsChildName (λ (k : Kid). IsName k.name) (kid_by i coll r) r.name j.name (λ c k. kid_if (has_parent i r && option_eq bytes_eq c.coll (Some coll) && not r.doomed) r c k)) h

-- What a listing, unless refused, is answered is of names.
listed_told : (rows : List Row) (i : ℕ) (coll : List ℕ) (o : Option Reply) → All IsTellableRow rows → OrTold o → Told (elim o as (λ _. Reply) [ Some refusal ↦ refusal | None ↦ list_by rows i coll ])
listed_told rows i coll (Some x) h k = k
listed_told rows i coll None h k = either (has_collection rows i coll) (reply.Listed (filter_map (kid_of i coll) rows)) reply.NoCollection (kids_told rows i coll h) tt

-- What a request to show a row is answered is of names.
show_told : (rows : List Row) (i : ℕ) (o : Option Row) → IfSome o IsTellableRow → Told (elim o as (λ _. Reply) [ None ↦ reply.Gone i | Some r ↦ reply.Shown (look_at r) ])
show_told rows i None h = tt
show_told rows i (Some r) h = h.url

-- The paths that a declaration that can be told of uses are proper paths.
used_paths : (o : Option Decl) → IfSome o IsTellableDecl → All (λ p. IsTrue (is_path p)) (elim o as (λ _. List (List ℕ)) [ None ↦ [] | Some d ↦ map (λ u. u.path) d.uses ])
used_paths None h = All-nil (λ p. IsTrue (is_path p))
used_paths (Some d) h = All_map IsTellableUsage (λ p. IsTrue (is_path p)) (λ u. u.path) d.uses (λ u k. k.path) h.uses

-- The rows of a survey are legible, where all rows can be told of.
survey_told : (rows : List Row) (i : ℕ) → All IsTellableRow rows → All IsLegibleSurvey (map (survey_row rows) (filter (λ r. not (is_gone rows r.inc)) (subtree rows i)))
survey_told rows i h =
    All_map IsTellableRow IsLegibleSurvey (survey_row rows) (filter (λ r. not (is_gone rows r.inc)) (subtree rows i))
    (λ r k. record { moniker = moniker_told rows h r.inc; paths = used_paths r.decl k.decl })
    (All-filter (λ r. not (is_gone rows r.inc)) IsTellableRow (subtree rows i) (All-filter (λ r. is_below rows i r.inc) IsTellableRow rows h))

-- What the exit of a row is answered, by whether the row is there, is of names.
exit_told : (rows : List Row) (i : ℕ) (o : Option Row) → All IsTellableRow rows → OrTold (elim o as (λ _. Option Reply) [ None ↦ Some (reply.Gone i) | Some r ↦ cond (is_some r.pending) None (cond r.on (Some (reply.Left (moniker_of rows i))) (Some reply.Already)) ])
exit_told rows i None h = tt
exit_told rows i (Some r) h = either_or (is_some r.pending) None _ tt (either_or r.on (Some (reply.Left (moniker_of rows i))) (Some reply.Already) (moniker_told rows h i) tt)

-- What a wait is answered, by whether there is an outcome, is of names.
outcome_told : (o : Option Outcome) → OrTold (option_map reply.Ended o)
outcome_told None = tt
outcome_told (Some x) = tt

-- ---- all of them

-- In a world that can be told of, the reply to an event that can be has proper names and monikers.
pub reply_told : (w : World) (c : ℕ) (e : Event) (r : Reply) → IsTellableWorld w → IsTellable e → Allowed w c e r → Told r
reply_told w c (Find m) r h k it = is_told _ r (found_told w.rows 0 [] m.parts (All-nil IsChildName) k) it
reply_told w c (Begin kind i) r h k it = said (begin_reply w.rows w.next_action kind i) r (begin_told w.rows w.next_action i kind h.rows) it
reply_told w c (End a f) r h k it = is_told _ r tt it
reply_told w c (Await a) r h k it = said (option_map reply.Ended (outcome_of w.acts a)) r (outcome_told (outcome_of w.acts a)) it
reply_told w c (Create p child) r h k it =
    create_told w.frame.limits.rows w.rows w.next_inc p (dynamic_name child.coll child.name) child.gives (refused_create w.rows p child.coll child.name child.gives) r h.rows (k.1, k.0) (refused_told w.rows p child.coll child.name child.gives) it
reply_told w c (Mark doom i) r h k it = is_told _ r (mark_told w.rows doom i) it
reply_told w c (Pick t) r h k it = pick_told w.rows w.next_action t r h.rows it
reply_told w c (Purge i) r h k it = is_told _ r (either (is_live w.rows i) (reply.Purged (map (lost_of w.rows) (subtree w.rows i))) reply.PurgedBefore (purged_told w.rows i h.rows) tt) it
reply_told w c (RouteOf i path) r h k it =
    walks_told w.rows w.frame.builtins (UseAt i path) (routed w.rows) (unready w.rows i) r (unready_told w.rows i) (λ v j. routed_told w.rows v (walked_told w.rows w.frame.builtins h.rows h.builtins (UseAt i path) v (use_named w.rows w.frame.builtins h.rows h.builtins i path) j)) it
reply_told w c (OpenUse i path) r h k it =
    walks_told w.rows w.frame.builtins (UseAt i path) (opened w.rows) (unopened w.rows i) r (unopened_told w.rows i) (λ v j. opened_told w.rows v (walked_told w.rows w.frame.builtins h.rows h.builtins (UseAt i path) v (use_named w.rows w.frame.builtins h.rows h.builtins i path) j)) it
reply_told w c (OpenExposed i name) r h k it =
    walks_told w.rows w.frame.builtins (ExposeAt i name) (opened w.rows) (unready w.rows i) r (unready_told w.rows i) (λ v j. opened_told w.rows v (walked_told w.rows w.frame.builtins h.rows h.builtins (ExposeAt i name) v (expose_named w.rows w.frame.builtins h.rows h.builtins i name) j)) it
reply_told w c (Listing i coll) r h k it = is_told _ r (listed_told w.rows i coll (unready w.rows i) h.rows (unready_told w.rows i)) it
reply_told w c (Show i) r h k it = is_told _ r (either (is_gone w.rows i) (reply.Gone i) _ tt (show_told w.rows i (row_of w.rows i) (find-All IsTellableRow (λ x. x.inc == i) w.rows h.rows))) it
reply_told w c (Survey i) r h k it = is_told _ r (either (is_gone w.rows i) (reply.Gone i) _ tt (survey_told w.rows i h.rows)) it
reply_told w c (Exited i) r h k it = said (exit_reply w.rows i) r (exit_told w.rows i (row_of w.rows i) h.rows) it
reply_told w c (Tail i from) r h k it = is_told _ r (either (is_gone w.rows i) (reply.Gone i) _ tt tt) it
reply_told w c (Reap i) r h k it = is_told _ r tt it

-- In a legal history of events that can be told of, all replies have monikers of names.
replies_told : (w : World) (es : List Entry) → IsTellableWorld w → Legal w es → All (λ (e : Entry). IsTellable e.event) es → All (λ (e : Entry). IsNamedReply e.reply) es
replies_told w [] h legal k = All-nil (λ (e : Entry). IsNamedReply e.reply)
replies_told w (e ∷ es) h legal k =
    let here : IsTellable e.event = head (λ (x : Entry). IsTellable x.event) e es k in
    All-cons (λ (x : Entry). IsNamedReply x.reply) e es (reply_told w e.caller e.event e.reply h here legal.0.allowed)
    (replies_told (after w e) es (after_tellable w e here h) legal.1 (All-tail (λ (x : Entry). IsTellable x.event) e es k))

-- Where all events of a legal history can be told, the monikers of its replies are of proper names.
pub replies_are_named : RepliesAreNamed
replies_are_named f es h legal k = replies_told (start f) es (start_tellable f h) legal k

-- what is told of is a part of that
pub legible_reply : (r : Reply) → IsNamedReply r → IsLegibleReply r
legible_reply (reply.Begun work) h = tt
legible_reply (reply.Stopping work) h = tt
legible_reply (reply.Left m) h = tt
legible_reply (reply.Purged lost) h = tt
legible_reply r h = h

-- Where all events of a legal history can be told, all its replies can.
pub replies_are_tellable : RepliesAreTellable
replies_are_tellable f es h legal k = λ i x lt. legible_reply _ (replies_are_named f es h legal k i x lt)
