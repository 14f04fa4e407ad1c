-- Inside.
-- Realms that worked examples of a shutdown speak of.
use Rattle.std.specs.Prelude.{ℕ, List, [], ◌∷◌, Bool, true, false, not, Option, Some, None}
use Rattle.cm_names.specs.declared.child.ChildName.{ChildName}
use Rattle.cm_names.specs.declared.moniker.Moniker.{Moniker}
use Rattle.cm_names.specs.declared.dependency.Dependency.TheVariants.{Strong, Weak}
use Rattle.cm_decl.specs.declared.decl.Decl.{Decl}
use Rattle.cm_decl.specs.declared.rows.Durability.TheVariants.{Transient}
use Rattle.cm_decl.specs.Graph.{static_name}
use Rattle.cm_decl.specs.Examples.{no_decl, child, from_child, offer, use_of}
use Rattle.cm_world.specs.declared.row.Row.{Row}
use Rattle.cm_world.specs.declared.action.ActKind.TheVariants.{Resolve, Start}
use Rattle.cm_world.specs.declared.action.Outcome.TheVariants as outcome
use Rattle.cm_world.specs.declared.action.Finish.TheVariants.{Resolved, Other}
use Rattle.cm_world.specs.declared.action.Work.{Work}
use Rattle.cm_world.specs.declared.event.Event.TheVariants.{Begin, End, Mark, Pick, Purge, Create}
use Rattle.cm_world.specs.declared.reply.Reply.TheVariants as reply
use Rattle.cm_world.specs.declared.reply.Entry.{Entry}
use Rattle.cm_world.specs.Create.{child_with}
use Rattle.cm_world.specs.Examples.{c, l, s, x, s_path, entry, entry_of, at_root, root_url, resolving}
use Rattle.cm_world.specs.RouteExamples.{resolved_row}

-- ---- a root with the collection k, and its dynamic child x

-- the name `k`, of a collection
abbrev pub k : List ℕ
k = 107 ∷ []

-- a root with the collection k
abbrev pub k_decl : Decl
k_decl = record no_decl {
  collections =
      record { name = k; durability = Transient; dynamic_offers = false; environment = None } ∷ [];
}

-- the name of its child x
abbrev pub x_name : ChildName
x_name = record { coll = Some k; name = x }

-- the moniker of the child x in k
abbrev pub at_x : Moniker
at_x = record { parts = x_name ∷ [] }

-- a start or a stop of the child, whose absolute URL is x
abbrev pub working : ℕ → Work
working action = resolving action 1 at_x [] x

-- the child is created and resolved, and its start begins; then it is doomed
abbrev pub doomed_entries : List Entry
doomed_entries =
    entry (Begin Resolve 0) (reply.Begun (resolving 1 0 at_root [] (114 ∷ [])))
    ∷ entry (End 1 (Resolved root_url k_decl)) (reply.Ended outcome.Resolved)
    ∷ entry (Create 0 (child_with k x (35 ∷ x) [])) (reply.Created 1)
    ∷ entry (Begin Resolve 1) (reply.Begun (resolving 2 1 at_x root_url (35 ∷ x)))
    ∷ entry (End 2 (Resolved x no_decl)) (reply.Ended outcome.Resolved)
    ∷ entry (Begin Start 1) (reply.Begun (working 3))
    ∷ entry_of 1 (Mark true 1) reply.Marked
    ∷ []

-- the start ends, and another caller stops, shuts and purges it
abbrev pub purged_entries : List Entry
purged_entries =
    entry (End 3 (Other outcome.Started)) (reply.Ended outcome.Started)
    ∷ entry_of 1 (Pick 1) (reply.Stopping (working 4))
    ∷ entry_of 1 (End 4 (Other outcome.Stopped)) (reply.Ended outcome.Stopped)
    ∷ entry_of 1 (Pick 1) (reply.ShutDown 1)
    ∷ entry_of 1 (Pick 1) reply.Done
    ∷ entry_of 1 (Purge 1) (reply.Purged (record { inc = 1; moniker = at_x } ∷ []))
    ∷ entry (Begin Start 1) (reply.Gone 1)
    ∷ []

-- ---- children provider 1, client 2, mid 3 of a closing root, and leaf 4 of mid: the client depends
-- on mid, mid on the provider and on its leaf; the provider is weakly offered something of the client

-- the name `v`, of the provider
abbrev pub v : List ℕ
v = 118 ∷ []

-- the name `m`, of the instance in the middle
abbrev pub m : List ℕ
m = 109 ∷ []

-- the root of provider, client and mid, with the offers between them
abbrev pub chain_decl : Decl
chain_decl = record no_decl {
  children = child v ∷ child c ∷ child m ∷ [];
  offers = offer s m c Strong ∷ offer x v m Strong ∷ offer k c v Weak ∷ [];
}

-- the middle instance, which uses s of its leaf
abbrev pub mid_decl : Decl
mid_decl = record no_decl { children = child l ∷ []; uses = use_of s (from_child l) s_path ∷ [] }

-- a row that is resolved and on
abbrev pub running : ℕ → Option ℕ → Option ChildName → Decl → Row
running inc parent name declaration = record (resolved_row inc parent name declaration) { on = true }

-- the row as it is, or shut and off
abbrev pub shut_if : Bool → Row → Row
shut_if shut r = record r { on = not shut; shut = shut }

-- the five rows; for the client, the middle one and the leaf it is said whether they are shut
abbrev pub chain_rows : Bool → Bool → Bool → List Row
chain_rows client mid leaf =
    record (running 0 None None chain_decl) { closing = true }
    ∷ running 1 (Some 0) (Some (static_name v)) no_decl
    ∷ shut_if client (running 2 (Some 0) (Some (static_name c)) no_decl)
    ∷ shut_if mid (running 3 (Some 0) (Some (static_name m)) mid_decl)
    ∷ shut_if leaf (running 4 (Some 3) (Some (static_name l)) no_decl)
    ∷ []
