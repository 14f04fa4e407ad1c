-- Inside.
-- Short realms that worked examples speak of: a route that is found, one that isn't, and a
-- tree without room. A name of one letter is written by its byte.
use Rattle.std.specs.Prelude.{ℕ, List, [], ◌∷◌, ◌++◌, true, false, Some, None}
use Rattle.cm_names.specs.declared.moniker.Moniker.{Moniker}
use Rattle.cm_names.specs.declared.dependency.Dependency.TheVariants.{Strong}
use Rattle.cm_names.specs.declared.availability.Availability.TheVariants.{Required}
use Rattle.cm_decl.specs.declared.decl.Decl.{Decl}
use Rattle.cm_decl.specs.declared.kind.Kind.TheVariants.{Protocol}
use Rattle.cm_decl.specs.declared.origin.Origin.TheVariants as origin
use Rattle.cm_decl.specs.Graph.{static_name}
use Rattle.cm_decl.specs.Examples.{no_decl, child, give, offer, use_of}
use Rattle.cm_world.specs.declared.frame.Frame.{Frame}
use Rattle.cm_world.specs.declared.action.ActKind.TheVariants.{Resolve}
use Rattle.cm_world.specs.declared.action.Outcome.TheVariants as outcome
use Rattle.cm_world.specs.declared.action.Finish.TheVariants.{Resolved}
use Rattle.cm_world.specs.declared.action.Work.{Work}
use Rattle.cm_world.specs.declared.route.Hop.{Hop}
use Rattle.cm_world.specs.declared.route.StepKind.TheVariants.{UseHop, OfferHop, ExposeHop, CapabilityHop}
use Rattle.cm_world.specs.declared.route.Provider.TheVariants as provider
use Rattle.cm_world.specs.declared.route.Route.{Route as WholeRoute}
use Rattle.cm_world.specs.declared.route.Why.TheVariants as why
use Rattle.cm_world.specs.declared.report.Look.{Look}
use Rattle.cm_world.specs.declared.report.SurveyRow.{SurveyRow}
use Rattle.cm_world.specs.declared.event.Event.{Event}
use Rattle.cm_world.specs.declared.event.Event.TheVariants.{Find, Begin, End, Route}
use Rattle.cm_world.specs.declared.reply.Reply.{Reply}
use Rattle.cm_world.specs.declared.reply.Reply.TheVariants as reply
use Rattle.cm_world.specs.declared.reply.Entry.{Entry}

-- the name `c`, of the client
abbrev pub c : List ℕ
c = 99 ∷ []

-- the name `l`, of the logger
abbrev pub l : List ℕ
l = 108 ∷ []

-- the name `s`, of the service that the logger provides
abbrev pub s : List ℕ
s = 115 ∷ []

-- the name `x`, which nothing exposes
abbrev pub x : List ℕ
x = 120 ∷ []

-- the path /s
abbrev pub s_path : List ℕ
s_path = 47 ∷ s

-- ---- a root, a logger l that exposes s, and a client c that uses it by an offer of the root

-- the root: it has both children, and offers s of the logger to the client
abbrev pub root_decl : Decl
root_decl = record no_decl { children = child l ∷ child c ∷ []; offers = offer s l c Strong ∷ [] }

-- the logger: it provides s at /s, and exposes it
abbrev pub logger_decl : Decl
logger_decl = record no_decl {
  runner = Some (101 ∷ []);
  capabilities = record { kind = Protocol; name = s; path = s_path; rights = None } ∷ [];
  exposes = give s origin.Own Strong Required ∷ [];
}

-- the client: it uses s from its parent
abbrev pub client_decl : Decl
client_decl = record no_decl { runner = Some (101 ∷ []); uses = use_of s origin.Parent s_path ∷ [] }

-- the root without its offer to the client
abbrev pub no_offer_decl : Decl
no_offer_decl = record root_decl { offers = [] }

-- the logger without its expose of s
abbrev pub no_expose_decl : Decl
no_expose_decl = record logger_decl { exposes = [] }

-- a tree whose root has the URL `r`, without builtins, with the largest limits
abbrev pub frame : Frame
frame = record { root = 114 ∷ []; builtins = []; limits = record { rows = 65536; entries = 4194304 } }

-- an entry of this caller
abbrev pub entry_of : ℕ → Event → Reply → Entry
entry_of caller event reply = record { caller = caller; event = event; reply = reply }

-- an entry of caller 0
abbrev pub entry : Event → Reply → Entry
entry event reply = entry_of 0 event reply

-- the moniker of the root
abbrev pub at_root : Moniker
at_root = record { parts = [] }

-- the moniker of a declared child of the root
abbrev pub at_child : List ℕ → Moniker
at_child name = record { parts = static_name name ∷ [] }

-- the absolute URL of the root
abbrev pub root_url : List ℕ
root_url = 82 ∷ []

-- the work of a resolve at this row, by the URL of its parent and its own
abbrev pub resolving : ℕ → ℕ → Moniker → List ℕ → List ℕ → Work
resolving action inc moniker base url = record {
  action = action;
  inc = inc;
  moniker = moniker;
  base = base;
  url = url;
  runner = None;
  eager = [];
}

-- the use of s at this row, a strong hop that wants it required; the other hops of the route are made
-- of it
abbrev pub hop : ℕ → Moniker → Hop
hop inc moniker = record {
  step = UseHop;
  inc = inc;
  moniker = moniker;
  kind = Protocol;
  name = s;
  rights = None;
  availability = Some Required;
  strong = true;
}

-- the first hop of the route: the client's use
abbrev pub use_hop : Hop
use_hop = hop 2 (at_child c)

-- the second: the root's offer
abbrev pub offer_hop : Hop
offer_hop = record (hop 0 at_root) { step = OfferHop }

-- the third: the logger's expose
abbrev pub expose_hop : Hop
expose_hop = record (hop 1 (at_child l)) { step = ExposeHop }

-- the last: the logger's capability
abbrev pub capability_hop : Hop
capability_hop = record (hop 1 (at_child l)) { step = CapabilityHop; availability = None }

-- the hop that is told as missing where the root has no offer
abbrev pub no_offer_hop : Hop
no_offer_hop = record offer_hop { availability = None }

-- the hop that is told as missing where the logger has no expose
abbrev pub no_expose_hop : Hop
no_expose_hop = record expose_hop { availability = None }

-- the route from the client's use to the logger's capability
abbrev pub whole_route : WholeRoute
whole_route = record {
  hops = use_hop ∷ offer_hop ∷ expose_hop ∷ capability_hop ∷ [];
  path = s_path;
  rights = None;
  provider = provider.Instance 1 (at_child l);
}

-- the client is found and a route of it is asked for, for which the root and the client are resolved
abbrev pub first_entries : Decl → List Entry
first_entries root =
    entry (Find (at_child c)) (reply.Need 0)
    ∷ entry (Begin Resolve 0) (reply.Begun (resolving 1 0 at_root [] (114 ∷ [])))
    ∷ entry (End 1 (Resolved root_url root)) (reply.Ended outcome.Resolved)
    ∷ entry (Find (at_child c)) (reply.Found 2)
    ∷ entry (Route 2 s_path) (reply.Need 2)
    ∷ entry (Begin Resolve 2) (reply.Begun (resolving 2 2 (at_child c) root_url (35 ∷ c)))
    ∷ entry (End 2 (Resolved (67 ∷ []) client_decl)) (reply.Ended outcome.Resolved)
    ∷ []

-- then the logger is resolved, with this declaration
abbrev pub second_entries : Decl → List Entry
second_entries logger =
    entry (Route 2 s_path) (reply.Need 1)
    ∷ entry (Begin Resolve 1) (reply.Begun (resolving 3 1 (at_child l) root_url (35 ∷ l)))
    ∷ entry (End 3 (Resolved (76 ∷ []) logger)) (reply.Ended outcome.Resolved)
    ∷ []

-- all three are resolved and off
abbrev pub resolving_entries : List Entry
resolving_entries = first_entries root_decl ++ second_entries logger_decl

-- the history of a route that is given: all three are resolved on the way
abbrev pub route_entries : List Entry
route_entries = resolving_entries ++ entry (Route 2 s_path) (reply.Given whole_route) ∷ []

-- without the root's offer the route fails at the root
abbrev pub unoffered_entries : List Entry
unoffered_entries =
    first_entries no_offer_decl ++ entry (Route 2 s_path) (reply.Failed no_offer_hop why.NoOffer) ∷ []

-- without the logger's expose it fails at the logger
abbrev pub unexposed_entries : List Entry
unexposed_entries =
    (first_entries root_decl ++ second_entries no_expose_decl)
    ++ entry (Route 2 s_path) (reply.Failed no_expose_hop why.NoExpose) ∷ []

-- ---- how the instances are then

-- the logger as `show` tells it then: resolved and off
abbrev pub logger_look : Look
logger_look = record {
  inc = 1;
  url = 35 ∷ l;
  resolved = true;
  on = false;
  closing = false;
  shut = false;
  pending = None;
}

-- the client as `survey` tells it, with the one path that it uses
abbrev pub client_survey : SurveyRow
client_survey =
    record { inc = 2; moniker = at_child c; resolved = true; on = false; shut = false; paths = s_path ∷ [] }

-- the hop that is told as missing where x is opened at the logger
abbrev pub x_expose_hop : Hop
x_expose_hop = record no_expose_hop { name = x }

-- what opening x, which the logger doesn't expose, is answered
abbrev pub x_unexposed : Reply
x_unexposed = reply.Failed x_expose_hop why.NoExpose

-- the reply to a survey of the client
abbrev pub client_surveyed : Reply
client_surveyed = reply.Surveyed (client_survey ∷ [])
