-- Inside.
-- Texts that are written out: a journal's entries and header, and answers to commands.
use Rattle.std.specs.Prelude.{◌≡◌, ℕ, List, [], ◌∷◌, ◌++◌, codes, true, false, flat_map, Some, None, Ok, Err}
use Rattle.cm_names.specs.Rights.{reading}
use Rattle.cm_names.specs.declared.moniker.Moniker.{Moniker}
use Rattle.cm_decl.specs.declared.decl.Decl.{Decl}
use Rattle.cm_decl.specs.declared.kind.Kind.TheVariants.{Protocol, Directory}
use Rattle.cm_decl.specs.Graph.{static_name}
use Rattle.cm_read.specs.Writing.{decl_text}
use Rattle.cm_world.specs.declared.action.ActKind.TheVariants.{Resolve, Stop}
use Rattle.cm_world.specs.declared.action.Finish.TheVariants.{Resolved}
use Rattle.cm_world.specs.declared.action.Outcome.TheVariants as outcome
use Rattle.cm_world.specs.declared.answer.Answer.TheVariants as answer
use Rattle.cm_world.specs.declared.answer.Refusal.TheVariants as refusal
use Rattle.cm_world.specs.declared.event.Event.{Event}
use Rattle.cm_world.specs.declared.event.Event.TheVariants.{Find, Begin, End, Route}
use Rattle.cm_world.specs.declared.event.Target.TheVariants.{Named, Inc}
use Rattle.cm_world.specs.declared.frame.Frame.{Frame}
use Rattle.cm_world.specs.declared.happening.HappenKind.TheVariants as happen
use Rattle.cm_world.specs.declared.reply.Entry.{Entry}
use Rattle.cm_world.specs.declared.reply.Reply.{Reply}
use Rattle.cm_world.specs.declared.reply.Reply.TheVariants as reply
use Rattle.cm_world.specs.declared.route.Hop.{Hop}
use Rattle.cm_world.specs.declared.route.Provider.TheVariants as provider
use Rattle.cm_world.specs.declared.route.Route.{Route as WholeRoute}
use Rattle.cm_world.specs.declared.route.StepKind.{StepKind}
use Rattle.cm_world.specs.declared.route.StepKind.TheVariants.{UseHop, OfferHop, ExposeHop, CapabilityHop}
use Rattle.cm_world.specs.declared.route.Why.TheVariants.{NoExpose}
use Rattle.cm_command.specs.declared.command.Command.{Command}
use Rattle.cm_command.specs.declared.command.Command.TheVariants as command
use Rattle.cm_reply.specs.Lists.{TextBytes}
use Rattle.cm_reply.specs.Answers.{reply_text}
use Rattle.cm_reply.specs.Journal.{entries_text, header_text, line}

-- ---- values

-- the moniker of the root
abbrev pub root : Moniker
root = record { parts = [] }

-- the moniker of a child that the root declares
abbrev pub child : TextBytes → Moniker
child name = record { parts = static_name name ∷ [] }

-- the moniker of the instance that provides
abbrev pub logger : Moniker
logger = child (codes "logger")

-- the moniker of the instance that uses
abbrev pub client : Moniker
client = child (codes "client")

-- the moniker of an instance with a collection
abbrev pub session : Moniker
session = record { parts = static_name (codes "core") ∷ static_name (codes "session") ∷ [] }

-- the moniker of a child in that collection
abbrev pub element : Moniker
element = record {
  parts =
      static_name (codes "core") ∷ static_name (codes "session")
      ∷ record { coll = Some (codes "elements"); name = codes "e1" } ∷ [];
}

-- the path at which the client uses the protocol
abbrev pub log_sink : TextBytes
log_sink = codes "/svc/fuchsia.logger.LogSink"

-- a hop of the route; only its step and its instance's moniker are ever written
abbrev pub hop : StepKind → ℕ → Moniker → Hop
hop step inc moniker = record {
  step = step;
  inc = inc;
  moniker = moniker;
  kind = Protocol;
  name = codes "fuchsia.logger.LogSink";
  rights = None;
  availability = None;
  strong = true;
}

-- from a client through an offer of the root to what the logger exposes
abbrev pub route : WholeRoute
route = record {
  hops = hop UseHop 2 client ∷ hop OfferHop 0 root ∷ hop ExposeHop 1 logger ∷ hop CapabilityHop 1 logger ∷ [];
  path = log_sink;
  rights = None;
  provider = provider.Instance 1 logger;
}

-- to a directory that an instance exposes
abbrev pub directory : WholeRoute
directory = record {
  hops = hop ExposeHop 1 logger ∷ hop CapabilityHop 1 logger ∷ [];
  path = codes "/data/logs";
  rights = Some reading;
  provider = provider.Instance 1 logger;
}

-- ---- the entries that find that route in a new realm

-- an entry of the first caller
abbrev pub entry : Event → Reply → Entry
entry event reply = record { caller = 0; event = event; reply = reply }

-- the reply to a begun action; of its work only the number is ever written
abbrev pub begun : ℕ → Reply
begun action = reply.Begun (record {
  action = action;
  inc = 0;
  moniker = root;
  base = [];
  url = [];
  runner = None;
  eager = [];
})

-- the entry by which an action ends in a declaration
abbrev pub resolved : ℕ → TextBytes → Decl → Entry
resolved action url decl = entry (End action (Resolved url decl)) (reply.Ended outcome.Resolved)

-- the entries that find the route in a new realm, for which the root, the client and the logger are
-- resolved
abbrev pub route_entries : Decl → Decl → Decl → List Entry
route_entries at_root at_client at_logger =
    entry (Find client) (reply.Need 0)
    ∷ entry (Begin Resolve 0) (begun 1)
    ∷ resolved 1 (codes "fuchsia-pkg://t/a#meta/root.cm") at_root
    ∷ entry (Find client) (reply.Found 2)
    ∷ entry (Route 2 log_sink) (reply.Need 2)
    ∷ entry (Begin Resolve 2) (begun 2)
    ∷ resolved 2 (codes "fuchsia-pkg://t/a#meta/client.cm") at_client
    ∷ entry (Route 2 log_sink) (reply.Need 1)
    ∷ entry (Begin Resolve 1) (begun 3)
    ∷ resolved 3 (codes "fuchsia-pkg://t/a#meta/logger.cm") at_logger
    ∷ entry (Route 2 log_sink) (reply.Given route)
    ∷ []

-- the journal's lines of these entries, where the declarations have these texts
abbrev pub route_lines : TextBytes → TextBytes → TextBytes → List TextBytes
route_lines at_root at_client at_logger =
    codes "1 0 find client => need 0"
    ∷ codes "2 0 begin resolve 0 => begun 1"
    ∷ (codes "3 0 end 1 resolved fuchsia-pkg://t/a#meta/root.cm " ++ (at_root ++ codes " => ended resolved"))
    ∷ codes "4 0 find client => found 2"
    ∷ codes "5 0 route 2 /svc/fuchsia.logger.LogSink => need 2"
    ∷ codes "6 0 begin resolve 2 => begun 2"
    ∷ (codes "7 0 end 2 resolved fuchsia-pkg://t/a#meta/client.cm "
    ++ (at_client ++ codes " => ended resolved"))
    ∷ codes "8 0 route 2 /svc/fuchsia.logger.LogSink => need 1"
    ∷ codes "9 0 begin resolve 1 => begun 3"
    ∷ (codes "10 0 end 3 resolved fuchsia-pkg://t/a#meta/logger.cm "
    ++ (at_logger ++ codes " => ended resolved"))
    ∷ (codes "11 0 route 2 /svc/fuchsia.logger.LogSink => given /svc/fuchsia.logger.LogSink"
    ++ codes " at logger incarnation 1 through use client, offer ., expose logger, capability logger")
    ∷ []

-- ---- what is written of them

-- the entries are written as these lines, whatever the declarations are
abbrev pub PrintsEntries : Type 0
PrintsEntries =
    (at_root at_client at_logger : Decl)
    → entries_text 1 (route_entries at_root at_client at_logger)
    ≡ flat_map line (route_lines (decl_text at_root) (decl_text at_client) (decl_text at_logger))

-- what a realm with two builtins was made with
abbrev pub frame : Frame
frame = record {
  root = codes "fuchsia-boot:///#meta/root.cm";
  builtins =
      record { kind = Protocol; name = codes "p"; path = codes "/svc/p"; rights = None }
      ∷ record { kind = Directory; name = codes "d"; path = codes "/d"; rights = Some reading } ∷ [];
  limits = record { rows = 65536; entries = 4194304 };
}

-- the lines of that realm's journal before the entries
abbrev pub header_lines : List TextBytes
header_lines =
    codes "journal"
    ∷ codes "builtin protocol p"
    ∷ codes "builtin directory d /d connect,enumerate,get_attributes,read_bytes,traverse"
    ∷ codes "root fuchsia-boot:///#meta/root.cm"
    ∷ []

-- the header is written as these lines
abbrev pub PrintsHeader : Type 0
PrintsHeader = header_text frame ≡ flat_map line header_lines

-- how a route of four hops is written
abbrev pub PrintsRoute : Type 0
PrintsRoute =
    reply_text (command.RouteOf (Named client) log_sink) (Ok (answer.Routed route))
    ≡ codes "route /svc/fuchsia.logger.LogSink at logger incarnation 1"
    ++ codes " through use client, offer ., expose logger, capability logger"

-- how it is written that a directory was opened with rights
abbrev pub PrintsDirectory : Type 0
PrintsDirectory =
    reply_text (command.OpenExposed (Named logger) (codes "logs")) (Ok (answer.Opened directory)) ≡ codes
    "opened /data/logs at logger incarnation 1 rights connect,enumerate,get_attributes,read_bytes,traverse"

-- how a stop by force is written
abbrev pub PrintsForced : Type 0
PrintsForced =
    reply_text (command.Stop (Named root)) (Ok (answer.Stopped (Some 7) true))
    ≡ codes "stopped . by-force action 7"

-- how it is written that a child was created
abbrev pub PrintsCreated : Type 0
PrintsCreated =
    reply_text (command.Create (Named session) (codes "elements") (codes "e1") (codes "#meta/element.cm") [])
    (Ok (answer.Created 5)) ≡ codes "created core/session elements:e1 incarnation 5"

-- how the children of a collection are written, each on a line of its own
abbrev pub PrintsChildren : Type 0
PrintsChildren =
    reply_text (command.ListChildren (Named session) (codes "elements"))
    (Ok (answer.Children (record { name = codes "e1"; inc = 5 } ∷ [])))
    ≡ codes "children core/session elements 1\n  e1 incarnation 5"

-- how an instance is shown that is named by its incarnation and is about to stop
abbrev pub PrintsLook : Type 0
PrintsLook =
    reply_text (command.Show (Inc 5))
    (Ok (answer.Shown (record {
      inc = 5;
      url = codes "#meta/e.cm";
      resolved = true;
      on = true;
      closing = true;
      shut = false;
      pending = Some Stop;
    })))
    ≡ codes "shown @5 incarnation 5 url #meta/e.cm resolved on closing pending stop"

-- how an instance that is shut stands in a survey
abbrev pub PrintsSurvey : Type 0
PrintsSurvey =
    reply_text (command.Survey (Named session))
    (Ok (answer.Surveyed (record {
      inc = 5;
      moniker = element;
      resolved = false;
      on = false;
      shut = true;
      paths = [];
    } ∷ [])))
    ≡ codes "survey core/session 1\n  core/session/elements:e1 incarnation 5 unresolved off shut"

-- how `doctor` writes a use that is left out on purpose, and an instance that isn't resolved
abbrev pub PrintsDoctor : Type 0
PrintsDoctor =
    reply_text (command.Doctor (Named root))
    (Ok (answer.Doctored (record {
      moniker = client;
      path = Some log_sink;
      result = Err (refusal.VoidSource (hop OfferHop 0 root));
    } ∷ record { moniker = element; path = None; result = Err refusal.NoSuchUse } ∷ [])))
    ≡ codes "doctor . 2\n  client /svc/fuchsia.logger.LogSink refused 88 void at offer .\n"
    ++ codes "  core/session/elements:e1 unresolved"

-- how `events` writes what happened, one thing of each kind
abbrev pub PrintsStream : Type 0
PrintsStream =
    reply_text (command.Events (Named root) 3)
    (Ok (answer.Streamed 19 (
    record { number = 4; kind = happen.Resolved; moniker = root; inc = 0 }
    ∷ record { number = 10; kind = happen.Started; moniker = element; inc = 5 }
    ∷ record { number = 14; kind = happen.Stopped; moniker = element; inc = 5 }
    ∷ record { number = 18; kind = happen.Destroyed; moniker = element; inc = 5 } ∷ [])))
    ≡ codes "events . 4 next 19\n  4 resolved . incarnation 0\n"
    ++ codes "  10 started core/session/elements:e1 incarnation 5\n"
    ++ codes "  14 stopped core/session/elements:e1 incarnation 5\n"
    ++ codes "  18 destroyed core/session/elements:e1 incarnation 5"

-- a refusal is written alike for each command
abbrev pub PrintsFailure : Type 0
PrintsFailure =
    (c : Command) → reply_text c (Err (refusal.NoRoute (hop ExposeHop 1 logger) NoExpose))
    ≡ codes "refused 87 no-expose at expose logger"
