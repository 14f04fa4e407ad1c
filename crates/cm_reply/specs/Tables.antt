-- Inside.
-- Tables of texts: each refusal, reason, outcome, event and reply at least once, and the short answers.
use Rattle.std.specs.Prelude.{◌≡◌, ℕ, List, [], ◌∷◌, ◌++◌, codes, map, true, false, Some, None, Ok}
use Rattle.cm_names.specs.Rights.{no_rights, reading}
use Rattle.cm_names.specs.declared.availability.Availability.TheVariants.{Required, Optional}
use Rattle.cm_names.specs.declared.dependency.Dependency.TheVariants.{Weak}
use Rattle.cm_decl.specs.declared.kind.Kind.TheVariants.{Directory}
use Rattle.cm_decl.specs.declared.node.Node.{Node}
use Rattle.cm_decl.specs.declared.node.Node.TheVariants as node
use Rattle.cm_decl.specs.declared.origin.Origin.TheVariants as origin
use Rattle.cm_decl.specs.declared.rows.Give.{Give}
use Rattle.cm_decl.specs.declared.section.Section.TheVariants.{Offers}
use Rattle.cm_world.specs.declared.action.ActKind.TheVariants.{Resolve, Start, Stop}
use Rattle.cm_world.specs.declared.action.Finish.TheVariants.{Other}
use Rattle.cm_world.specs.declared.action.Outcome.{Outcome}
use Rattle.cm_world.specs.declared.action.Outcome.TheVariants as outcome
use Rattle.cm_world.specs.declared.action.Work.{Work}
use Rattle.cm_world.specs.declared.answer.Answer.TheVariants as answer
use Rattle.cm_world.specs.declared.answer.Refusal.{Refusal}
use Rattle.cm_world.specs.declared.answer.Refusal.TheVariants as refusal
use Rattle.cm_world.specs.declared.event.Event.{Event}
use Rattle.cm_world.specs.declared.event.Event.TheVariants as event
use Rattle.cm_world.specs.declared.event.Target.TheVariants.{Named, Inc}
use Rattle.cm_world.specs.declared.reply.Reply.{Reply}
use Rattle.cm_world.specs.declared.reply.Reply.TheVariants as reply
use Rattle.cm_world.specs.declared.report.Look.{Look}
use Rattle.cm_world.specs.declared.report.SurveyRow.{SurveyRow}
use Rattle.cm_world.specs.declared.route.StepKind.TheVariants.{UseHop, OfferHop, ExposeHop, FrameworkHop}
use Rattle.cm_world.specs.declared.route.StepKind.TheVariants.{BuiltinHop}
use Rattle.cm_world.specs.declared.route.Provider.TheVariants as provider
use Rattle.cm_world.specs.declared.route.Route.{Route as WholeRoute}
use Rattle.cm_world.specs.declared.route.Why.{Why}
use Rattle.cm_world.specs.declared.route.Why.TheVariants as why
use Rattle.cm_world.specs.Create.{child_with}
use Rattle.cm_command.specs.declared.command.Command.TheVariants as command
use Rattle.cm_reply.specs.Lists.{TextBytes}
use Rattle.cm_reply.specs.Routes.{why_word}
use Rattle.cm_reply.specs.States.{outcome_text}
use Rattle.cm_reply.specs.Refusals.{refusal_text}
use Rattle.cm_reply.specs.Answers.{reply_text}
use Rattle.cm_reply.specs.Events.{event_text}
use Rattle.cm_reply.specs.Replies.{replied_text}
use Rattle.cm_reply.specs.Examples.{child, element, log_sink, hop}

-- ---- values

-- the name `core`, of an instance in the examples
abbrev pub core : List ℕ
core = codes "core"

-- a cycle through a child in a collection
abbrev pub ring : List Node
ring = node.Own ∷ node.Child (record { coll = Some (codes "k"); name = codes "a" }) ∷ node.Own ∷ []

-- an offer in which nothing is the default
abbrev pub give : Give
give = record {
  kind = Directory;
  source_name = codes "d";
  from = origin.Child (record { coll = None; name = core });
  target_name = codes "logs";
  rights = Some reading;
  subdir = Some (codes "a/b");
  dependency = Weak;
  availability = Optional;
}

-- an action's work at core; of it only two numbers are ever written
abbrev pub work : Work
work = record { action = 9; inc = 5; moniker = child core; base = []; url = []; runner = None; eager = [] }

-- an instance that is shut while it resolves
abbrev pub look : Look
look = record {
  inc = 5;
  url = [];
  resolved = false;
  on = false;
  closing = true;
  shut = true;
  pending = Some Resolve;
}

-- an instance that runs; its paths aren't written
abbrev pub survey_row : SurveyRow
survey_row =
    record { inc = 5; moniker = element; resolved = true; on = true; shut = false; paths = log_sink ∷ [] }

-- a route to what the framework provides
abbrev pub framework_route : WholeRoute
framework_route = record {
  hops = hop UseHop 5 (child core) ∷ hop FrameworkHop 5 (child core) ∷ [];
  path = codes "/svc/r";
  rights = None;
  provider = provider.Framework;
}

-- a route from the root to a builtin directory
abbrev pub builtin_route : WholeRoute
builtin_route = record {
  hops = hop UseHop 0 (record { parts = [] }) ∷ hop BuiltinHop 0 (record { parts = [] }) ∷ [];
  path = codes "/d/a";
  rights = Some reading;
  provider = provider.Builtin;
}

-- ---- the tables

-- each refusal once
abbrev pub refusals : List Refusal
refusals =
    refusal.CollectionNotFound
    ∷ refusal.AlreadyExists 5
    ∷ refusal.DynamicOffersRefused
    ∷ refusal.BadOffer 1 54
    ∷ refusal.OfferCycle ring
    ∷ refusal.ParentClosing 5
    ∷ refusal.Full
    ∷ refusal.NotDynamic
    ∷ refusal.HistoryFull
    ∷ refusal.NotFound (child core)
    ∷ refusal.Gone 5
    ∷ refusal.Shut 5
    ∷ refusal.CannotResolve 3 (outcome.Invalid (record { number = 51; section = Offers; index = 2 }))
    ∷ refusal.CannotStart 3 outcome.Declined
    ∷ refusal.ClientOff
    ∷ refusal.NoSuchUse
    ∷ refusal.NoRoute (hop ExposeHop 5 element) why.NoExpose
    ∷ refusal.VoidSource (hop OfferHop 5 (child core))
    ∷ refusal.SourceShut 5
    ∷ refusal.Memory
    ∷ []

-- how they are written, in the same order
abbrev pub refusal_texts : List TextBytes
refusal_texts =
    codes "refused 60 collection-not-found"
    ∷ codes "refused 61 already-exists incarnation 5"
    ∷ codes "refused 62 dynamic-offers-refused"
    ∷ codes "refused 63 bad-offer 1 54"
    ∷ codes "refused 64 offer-cycle self k:a self"
    ∷ codes "refused 65 parent-closing incarnation 5"
    ∷ codes "refused 67 full"
    ∷ codes "refused 68 not-dynamic"
    ∷ codes "refused 69 history-full"
    ∷ codes "refused 80 not-found in core"
    ∷ codes "refused 81 gone incarnation 5"
    ∷ codes "refused 82 shut incarnation 5"
    ∷ codes "refused 83 cannot-resolve action 3 invalid 51 offer 2"
    ∷ codes "refused 84 cannot-start action 3 declined"
    ∷ codes "refused 85 client-off"
    ∷ codes "refused 86 no-such-use"
    ∷ codes "refused 87 no-expose at expose core/session/elements:e1"
    ∷ codes "refused 88 void at offer core"
    ∷ codes "refused 89 source-shut incarnation 5"
    ∷ codes "refused want-of-memory"
    ∷ []

-- each refusal is written as the text at its place
abbrev pub PrintsRefusals : Type 0
PrintsRefusals = map refusal_text refusals ≡ refusal_texts

-- each reason why there is no route, once
abbrev pub reasons : List Why
reasons =
    why.NoOffer
    ∷ why.NoExpose
    ∷ why.NoInstance
    ∷ why.NoBuiltin
    ∷ why.AvailabilityTooWeak Required Optional
    ∷ why.RightsTooWeak reading no_rights
    ∷ []

-- how they are written, in the same order
abbrev pub reason_words : List TextBytes
reason_words =
    codes "no-offer"
    ∷ codes "no-expose"
    ∷ codes "no-instance"
    ∷ codes "no-builtin"
    ∷ codes "availability-too-weak"
    ∷ codes "rights-too-weak"
    ∷ []

-- each reason is written as the word at its place
abbrev pub PrintsReasons : Type 0
PrintsReasons = map why_word reasons ≡ reason_words

-- each outcome of an action, once
abbrev pub outcomes : List Outcome
outcomes =
    outcome.Resolved
    ∷ outcome.Started
    ∷ outcome.Stopped
    ∷ outcome.Killed
    ∷ outcome.Absent
    ∷ outcome.BadUrl
    ∷ outcome.Invalid (record { number = 58; section = Offers; index = 0 })
    ∷ outcome.Declined
    ∷ outcome.GateFailed
    ∷ outcome.Full
    ∷ outcome.NoMemory
    ∷ []

-- how they are written, in the same order
abbrev pub outcome_texts : List TextBytes
outcome_texts =
    codes "resolved"
    ∷ codes "started"
    ∷ codes "stopped"
    ∷ codes "killed"
    ∷ codes "absent"
    ∷ codes "bad-url"
    ∷ codes "invalid 58 offer 0"
    ∷ codes "declined"
    ∷ codes "gate-failed"
    ∷ codes "full"
    ∷ codes "no-memory"
    ∷ []

-- each outcome is written as the text at its place
abbrev pub PrintsOutcomes : Type 0
PrintsOutcomes = map outcome_text outcomes ≡ outcome_texts

-- each kind of event, at least once
abbrev pub events : List Event
events =
    event.Find element
    ∷ event.Begin Resolve 5
    ∷ event.Begin Start 5
    ∷ event.Begin Stop 5
    ∷ event.End 9 (Other outcome.Killed)
    ∷ event.Await 9
    ∷ event.Create 2 (child_with (codes "k") (codes "a") (codes "#meta/a.cm") (give ∷ []))
    ∷ event.Mark true 5
    ∷ event.Mark false 5
    ∷ event.Pick 5
    ∷ event.Purge 5
    ∷ event.Route 5 (codes "/svc/p")
    ∷ event.OpenUse 5 (codes "/svc/p")
    ∷ event.OpenExposed 5 (codes "p")
    ∷ event.Listing 5 (codes "k")
    ∷ event.Show 5
    ∷ event.Survey 5
    ∷ event.Exited 5
    ∷ event.Tail 5 12
    ∷ event.Reap 5
    ∷ []

-- how they are written, in the same order
abbrev pub event_texts : List TextBytes
event_texts =
    codes "find core/session/elements:e1"
    ∷ codes "begin resolve 5"
    ∷ codes "begin start 5"
    ∷ codes "begin stop 5"
    ∷ codes "end 9 killed"
    ∷ codes "await 9"
    ∷ (codes "create 2 k a #meta/a.cm + directory d #core as=logs"
    ++ codes " rights=connect,enumerate,get_attributes,read_bytes,traverse subdir=a/b weak optional")
    ∷ codes "mark doomed 5"
    ∷ codes "mark closing 5"
    ∷ codes "pick 5"
    ∷ codes "purge 5"
    ∷ codes "route 5 /svc/p"
    ∷ codes "open 5 /svc/p"
    ∷ codes "open-exposed 5 p"
    ∷ codes "list 5 k"
    ∷ codes "show 5"
    ∷ codes "survey 5"
    ∷ codes "exited 5"
    ∷ codes "tail 5 12"
    ∷ codes "reap 5"
    ∷ []

-- each event is written as the text at its place
abbrev pub PrintsEvents : Type 0
PrintsEvents = map event_text events ≡ event_texts

-- each kind of reply, at least once
abbrev pub replies : List Reply
replies =
    reply.Found 2
    ∷ reply.Need 0
    ∷ reply.Shut 2
    ∷ reply.Gone 2
    ∷ reply.NotFound (child core)
    ∷ reply.Begun work
    ∷ reply.Joined 9
    ∷ reply.Already
    ∷ reply.Ended outcome.Absent
    ∷ reply.Created 5
    ∷ reply.Closing 2
    ∷ reply.NoCollection
    ∷ reply.Exists 5
    ∷ reply.OffersRefused
    ∷ reply.BadOffer 1 54
    ∷ reply.Cycle ring
    ∷ reply.Full
    ∷ reply.Marked
    ∷ reply.NotDynamic
    ∷ reply.Done
    ∷ reply.Stopping work
    ∷ reply.ShutDown 5
    ∷ reply.Purged (record { inc = 5; moniker = element } ∷ record { inc = 7; moniker = child core } ∷ [])
    ∷ reply.PurgedBefore
    ∷ reply.NoSuchUse
    ∷ reply.ClientOff
    ∷ reply.SourceShut 5
    ∷ reply.NeedStart 5
    ∷ reply.Failed (hop OfferHop 0 (child core)) why.NoOffer
    ∷ reply.Void (hop OfferHop 0 (child core))
    ∷ reply.Given framework_route
    ∷ reply.Opened builtin_route
    ∷ reply.Listed (record { name = codes "a"; inc = 5 } ∷ record { name = codes "b"; inc = 7 } ∷ [])
    ∷ reply.Shown look
    ∷ reply.Surveyed (survey_row ∷ [])
    ∷ reply.Left (child core)
    ∷ reply.Tailed 12
    ∷ reply.Reaping (5 ∷ 7 ∷ [])
    ∷ reply.Reaping []
    ∷ []

-- how they are written, in the same order
abbrev pub reply_texts : List TextBytes
reply_texts =
    codes "found 2"
    ∷ codes "need 0"
    ∷ codes "shut 2"
    ∷ codes "gone 2"
    ∷ codes "not-found core"
    ∷ codes "begun 9"
    ∷ codes "joined 9"
    ∷ codes "already"
    ∷ codes "ended absent"
    ∷ codes "created 5"
    ∷ codes "closing 2"
    ∷ codes "no-collection"
    ∷ codes "exists 5"
    ∷ codes "offers-refused"
    ∷ codes "bad-offer 1 54"
    ∷ codes "cycle self k:a self"
    ∷ codes "full"
    ∷ codes "marked"
    ∷ codes "not-dynamic"
    ∷ codes "done"
    ∷ codes "stopping 5 9"
    ∷ codes "shutdown 5"
    ∷ codes "purged 2"
    ∷ codes "purged-before"
    ∷ codes "no-such-use"
    ∷ codes "client-off"
    ∷ codes "source-shut 5"
    ∷ codes "need-start 5"
    ∷ codes "failed no-offer at offer core"
    ∷ codes "void at offer core"
    ∷ codes "given /svc/r at framework through use core, framework core"
    ∷ (codes "opened /d/a at builtin rights connect,enumerate,get_attributes,read_bytes,traverse"
    ++ codes " through use ., builtin .")
    ∷ codes "listed 2 [a incarnation 5] [b incarnation 7]"
    ∷ codes "shown unresolved off closing shut pending resolve"
    ∷ codes "surveyed 1 [core/session/elements:e1 incarnation 5 resolved on]"
    ∷ codes "left"
    ∷ codes "tailed 12"
    ∷ codes "reaping 5 7"
    ∷ codes "reaping"
    ∷ []

-- each reply is written as the text at its place
abbrev pub PrintsReplies : Type 0
PrintsReplies = map replied_text replies ≡ reply_texts

-- ---- short answers

-- answers that have one line, as they are written
abbrev pub answers : List TextBytes
answers =
    reply_text (command.Resolve (Named (child core))) (Ok (answer.Resolved (Some 4)))
    ∷ reply_text (command.Resolve (Inc 5)) (Ok (answer.Resolved None))
    ∷ reply_text (command.Start (Named element)) (Ok (answer.Started (Some 4)))
    ∷ reply_text (command.Start (Named (child core))) (Ok (answer.Started None))
    ∷ reply_text (command.Stop (Named (child core))) (Ok (answer.Stopped (Some 4) false))
    ∷ reply_text (command.Stop (Named (child core))) (Ok (answer.Stopped None false))
    ∷ reply_text (command.Shutdown (Named (child core))) (Ok answer.Shut)
    ∷ reply_text (command.Destroy (Inc 5)) (Ok answer.Destroyed)
    ∷ reply_text (command.Exited (Inc 5)) (Ok (answer.Left true))
    ∷ reply_text (command.Exited (Inc 5)) (Ok (answer.Left false))
    ∷ reply_text (command.Events (Inc 5) 9) (Ok (answer.Streamed 8 []))
    ∷ []

-- the lines that these should be, in the same order
abbrev pub answer_texts : List TextBytes
answer_texts =
    codes "resolved core action 4"
    ∷ codes "resolved @5 already"
    ∷ codes "started core/session/elements:e1 action 4"
    ∷ codes "started core already"
    ∷ codes "stopped core action 4"
    ∷ codes "stopped core already"
    ∷ codes "shut core"
    ∷ codes "destroyed @5"
    ∷ codes "exited @5"
    ∷ codes "exited @5 already"
    ∷ codes "events @5 0 next 8"
    ∷ []

-- each answer is written as the text at its place
abbrev pub PrintsShortAnswers : Type 0
PrintsShortAnswers = answers ≡ answer_texts
