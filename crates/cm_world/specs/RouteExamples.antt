-- Inside.
-- Rows that worked examples of routes speak of: of directories, of the void, and of a tree without room.
use Rattle.std.specs.Prelude.{ℕ, List, [], ◌∷◌, true, Option, Some, None}
use Rattle.cm_names.specs.declared.child.ChildName.{ChildName}
use Rattle.cm_names.specs.declared.moniker.Moniker.{Moniker}
use Rattle.cm_names.specs.declared.dependency.Dependency.TheVariants.{Strong}
use Rattle.cm_names.specs.declared.availability.Availability.{Availability}
use Rattle.cm_names.specs.declared.availability.Availability.TheVariants.{Required, Optional}
use Rattle.cm_names.specs.Rights.{RightSet, reading, writing, union}
use Rattle.cm_decl.specs.declared.decl.Decl.{Decl}
use Rattle.cm_decl.specs.declared.rows.Give.{Give}
use Rattle.cm_decl.specs.declared.kind.Kind.TheVariants.{Directory, Protocol}
use Rattle.cm_decl.specs.declared.origin.Origin.{Origin}
use Rattle.cm_decl.specs.declared.origin.Origin.TheVariants as origin
use Rattle.cm_decl.specs.Graph.{static_name}
use Rattle.cm_decl.specs.Examples.{no_decl, child, give, from_child, use_of}
use Rattle.cm_world.specs.declared.row.Row.{Row}
use Rattle.cm_world.specs.declared.frame.Frame.{Frame}
use Rattle.cm_world.specs.declared.action.ActKind.TheVariants.{Resolve}
use Rattle.cm_world.specs.declared.action.Outcome.TheVariants as outcome
use Rattle.cm_world.specs.declared.action.Finish.TheVariants.{Resolved}
use Rattle.cm_world.specs.declared.route.Hop.{Hop}
use Rattle.cm_world.specs.declared.route.StepKind.{StepKind}
use Rattle.cm_world.specs.declared.route.StepKind.TheVariants.{UseHop, OfferHop, ExposeHop, CapabilityHop}
use Rattle.cm_world.specs.declared.route.Provider.TheVariants as provider
use Rattle.cm_world.specs.declared.route.Route.{Route}
use Rattle.cm_world.specs.declared.route.Walked.{Walked}
use Rattle.cm_world.specs.declared.route.Walked.TheVariants as walked
use Rattle.cm_world.specs.declared.route.Why.TheVariants as why
use Rattle.cm_world.specs.declared.event.Event.TheVariants.{Find, Begin, End}
use Rattle.cm_world.specs.declared.reply.Reply.TheVariants as reply
use Rattle.cm_world.specs.declared.reply.Entry.{Entry}
use Rattle.cm_world.specs.World.{root_row}
use Rattle.cm_world.specs.Examples.{c, l, s_path, s, entry, at_root, at_child, root_url, resolving, offer_hop}

-- ---- a directory: the store l has /d, the root offers it to c, the client c uses it at /i

-- the name `d`, of the directory
abbrev pub d : List ℕ
d = 100 ∷ []

-- the path /d, at which the store has it
abbrev pub d_path : List ℕ
d_path = 47 ∷ d

-- the path /i, at which the client uses it
abbrev pub i_path : List ℕ
i_path = 47 ∷ 105 ∷ []

-- the rights `rw*`
abbrev pub reading_writing : RightSet
reading_writing = union reading writing

-- an offer or expose of the directory, with these rights and this subdirectory
abbrev pub giving : Origin → Option RightSet → Option (List ℕ) → Give
giving from rights subdir = record {
  kind = Directory;
  source_name = d;
  from = from;
  target_name = d;
  rights = rights;
  subdir = subdir;
  dependency = Strong;
  availability = Required;
}

-- the root, which offers the directory of the store to the client
abbrev pub offering_decl : Option RightSet → Option (List ℕ) → Decl
offering_decl rights subdir = record no_decl {
  children = child l ∷ child c ∷ [];
  offers = record { to = c; give = giving (from_child l) rights subdir } ∷ [];
}

-- the store, which provides the directory with `rw*` and exposes it
abbrev pub storing_decl : Option RightSet → Option (List ℕ) → Decl
storing_decl rights subdir = record no_decl {
  capabilities = record { kind = Directory; name = d; path = d_path; rights = Some reading_writing } ∷ [];
  exposes = giving origin.Own rights subdir ∷ [];
}

-- the client, which uses the directory with these rights
abbrev pub using_decl : RightSet → Option (List ℕ) → Decl
using_decl rights subdir = record no_decl {
  uses = record {
    kind = Directory;
    name = d;
    from = origin.Parent;
    path = i_path;
    rights = Some rights;
    subdir = subdir;
    dependency = Strong;
    availability = Required;
  } ∷ [];
}

-- a row that is resolved to this declaration, and off
abbrev pub resolved_row : ℕ → Option ℕ → Option ChildName → Decl → Row
resolved_row inc parent name declaration = record (root_row []) {
  inc = inc;
  parent = parent;
  name = name;
  absolute = Some [];
  decl = Some declaration;
}

-- the root, the store and the client, resolved to these declarations
abbrev pub three_rows : Decl → Decl → Decl → List Row
three_rows root store client =
    resolved_row 0 None None root
    ∷ resolved_row 1 (Some 0) (Some (static_name l)) store
    ∷ resolved_row 2 (Some 0) (Some (static_name c)) client
    ∷ []

-- a hop of the directory's route
abbrev pub directory_hop : StepKind → ℕ → Moniker → Option RightSet → Option Availability → Hop
directory_hop step inc moniker rights availability = record {
  step = step;
  inc = inc;
  moniker = moniker;
  kind = Directory;
  name = d;
  rights = rights;
  availability = availability;
  strong = true;
}

-- subdirectories a on the expose, b/c on the offer, d on the use; r* on the offer and the use
abbrev pub subdir_rows : List Row
subdir_rows =
    three_rows
    (offering_decl (Some reading) (Some (98 ∷ 47 ∷ 99 ∷ [])))
    (storing_decl None (Some (97 ∷ [])))
    (using_decl reading (Some d))

-- the route through them, which leads to /d/a/b/c/d
abbrev pub subdir_route : Route
subdir_route = record {
  hops =
      directory_hop UseHop 2 (at_child c) (Some reading) (Some Required)
      ∷ directory_hop OfferHop 0 at_root (Some reading) (Some Required)
      ∷ directory_hop ExposeHop 1 (at_child l) None (Some Required)
      ∷ directory_hop CapabilityHop 1 (at_child l) (Some reading_writing) None
      ∷ [];
  path = 47 ∷ 100 ∷ 47 ∷ 97 ∷ 47 ∷ 98 ∷ 47 ∷ 99 ∷ 47 ∷ 100 ∷ [];
  rights = Some reading;
  provider = provider.Instance 1 (at_child l);
}

-- the use asks for rw*, the offer states no rights, the expose r*
abbrev pub weak_rows : List Row
weak_rows =
    three_rows (offering_decl None None) (storing_decl (Some reading) None) (using_decl reading_writing None)

-- the walk fails at the expose, which has fewer rights than the use asks for
abbrev pub weak_walk : Walked
weak_walk =
    walked.Failed
    (directory_hop ExposeHop 1 (at_child l) (Some reading) (Some Required))
    (why.RightsTooWeak reading_writing reading)

-- ---- a client 1 that uses s, which the root offers it from void

-- a root that offers s to its child from the void, optionally
abbrev pub void_decl : Decl
void_decl = record no_decl {
  children = child c ∷ [];
  offers = record { to = c; give = give s origin.Void Strong Optional } ∷ [];
}

-- a client that uses s so
abbrev pub asking_decl : Availability → Decl
asking_decl used =
    record no_decl { uses = record (use_of s origin.Parent s_path) { availability = used } ∷ [] }

-- a root that offers s from the void, and a client that uses it so
abbrev pub void_rows : Availability → List Row
void_rows used =
    resolved_row 0 None None void_decl
    ∷ resolved_row 1 (Some 0) (Some (static_name c)) (asking_decl used)
    ∷ []

-- the hop at which the void is told
abbrev pub void_hop : Hop
void_hop = record offer_hop { availability = Some Optional }

-- the root and the client of `void_rows`, where the offer has an availability of its own
abbrev pub voided_rows : Availability → Availability → List Row
voided_rows used given =
    resolved_row 0 None None
    (record void_decl { offers = record { to = c; give = give s origin.Void Strong given } ∷ [] })
    ∷ resolved_row 1 (Some 0) (Some (static_name c)) (asking_decl used)
    ∷ []

-- ---- an offer from l to c, whose expose is optional

-- a client that uses so what the root offers it so from l
abbrev pub passing_rows : Availability → Availability → List Row
passing_rows used given =
    three_rows
    (record no_decl {
      children = child l ∷ child c ∷ [];
      offers = record { to = c; give = give s (from_child l) Strong given } ∷ [];
    })
    (record no_decl {
      capabilities = record { kind = Protocol; name = s; path = s_path; rights = None } ∷ [];
      exposes = give s origin.Own Strong Optional ∷ [];
    })
    (asking_decl used)

-- the expose is where it fails: what stands at the offer is what the use states
abbrev pub passed_walk : Walked
passed_walk =
    walked.Failed
    (record offer_hop { step = ExposeHop; inc = 1; moniker = at_child l; availability = Some Optional })
    (why.AvailabilityTooWeak Required Optional)

-- ---- room for one row: the root's one child doesn't fit

-- a tree with room for one row and three entries
abbrev pub small_frame : Frame
small_frame = record { root = 114 ∷ []; builtins = []; limits = record { rows = 1; entries = 3 } }

-- a root with one child
abbrev pub one_child : Decl
one_child = record no_decl { children = child c ∷ [] }

-- the root is found and resolved, but its child doesn't fit
abbrev pub full_entries : List Entry
full_entries =
    entry (Find at_root) (reply.Found 0)
    ∷ entry (Begin Resolve 0) (reply.Begun (resolving 1 0 at_root [] (114 ∷ [])))
    ∷ entry (End 1 (Resolved root_url one_child)) (reply.Ended outcome.Full)
    ∷ []
