-- Promised.
-- What the replies to events, and the ends of actions, mean for the call that made them.
use Rattle.std.specs.Prelude.{ℕ, Bool, true, false, Option, Some, None, Result, Ok, Err}
use Rattle.cm_world.specs.declared.action.ActKind.{ActKind}
use Rattle.cm_world.specs.declared.action.ActKind.TheVariants as kind
use Rattle.cm_world.specs.declared.action.Outcome.{Outcome}
use Rattle.cm_world.specs.declared.action.Outcome.TheVariants as outcome
use Rattle.cm_world.specs.declared.reply.Reply.{Reply}
use Rattle.cm_world.specs.declared.reply.Reply.TheVariants as reply
use Rattle.cm_answers.specs.declared.acted.ActionResult.{ActionResult}
use Rattle.cm_answers.specs.declared.acted.ActionResult.TheVariants as acted
use Rattle.cm_world.specs.declared.answer.Answer.{Answer}
use Rattle.cm_world.specs.declared.answer.Answer.TheVariants as answer
use Rattle.cm_world.specs.declared.answer.Refusal.{Refusal}
use Rattle.cm_world.specs.declared.answer.Refusal.TheVariants as refusal

-- the refusal of a call whose action ended so; none where the action went well
abbrev pub failure : ActKind → ℕ → Outcome → Option Refusal
failure k a outcome.Resolved = None
failure k a outcome.Started = None
failure k a outcome.Stopped = None
failure k a outcome.Killed = None
failure k a outcome.NoMemory = Some refusal.Memory
failure kind.Resolve a o = Some (refusal.CannotResolve a o)
failure _ a o = Some (refusal.CannotStart a o)

-- the refusal that ends a call which needed this action, by what came of it; none where the call goes
-- on
abbrev pub ends_call : Result ActionResult Refusal → Option Refusal
ends_call (Ok (acted.Ended k a o)) = failure k a o
ends_call (Ok (acted.Quiet r)) = None
ends_call (Err x) = Some x

-- the refusal that ends a call which starts a child besides: only lack of memory and a refused turn
-- end it
abbrev pub ends_eager : Result ActionResult Refusal → Option Refusal
ends_eager (Ok (acted.Ended k a outcome.NoMemory)) = Some refusal.Memory
ends_eager (Ok _) = None
ends_eager (Err x) = Some x

-- the refusal that a reply stands for; the last line is for replies that refuse nothing
abbrev pub refusal_of : Reply → Refusal
refusal_of reply.NoCollection = refusal.CollectionNotFound
refusal_of (reply.Exists i) = refusal.AlreadyExists i
refusal_of reply.OffersRefused = refusal.DynamicOffersRefused
refusal_of (reply.BadOffer i n) = refusal.BadOffer i n
refusal_of (reply.Cycle nodes) = refusal.OfferCycle nodes
refusal_of (reply.Closing i) = refusal.ParentClosing i
refusal_of reply.Full = refusal.Full
refusal_of reply.NotDynamic = refusal.NotDynamic
refusal_of (reply.NotFound m) = refusal.NotFound m
refusal_of (reply.Gone i) = refusal.Gone i
refusal_of (reply.Shut i) = refusal.Shut i
refusal_of reply.ClientOff = refusal.ClientOff
refusal_of reply.NoSuchUse = refusal.NoSuchUse
refusal_of (reply.Failed hop why) = refusal.NoRoute hop why
refusal_of (reply.Void hop) = refusal.VoidSource hop
refusal_of (reply.SourceShut i) = refusal.SourceShut i
refusal_of _ = refusal.Memory

-- the answer to a command that makes one event, by the event's reply
abbrev pub decision : Reply → Result Answer Refusal
decision (reply.Created i) = Ok (answer.Created i)
decision (reply.Listed kids) = Ok (answer.Children kids)
decision (reply.Opened route) = Ok (answer.Opened route)
decision (reply.Given route) = Ok (answer.Routed route)
decision (reply.Shown look) = Ok (answer.Shown look)
decision (reply.Surveyed rows) = Ok (answer.Surveyed rows)
decision (reply.Left m) = Ok (answer.Left true)
decision reply.Already = Ok (answer.Left false)
decision r = Err (refusal_of r)

-- the answer to a command that makes one event: by the event's reply, or the refusal that came before
-- it
abbrev pub decided_by : Result Reply Refusal → Result Answer Refusal
decided_by (Ok r) = decision r
decided_by (Err x) = Err x

-- this answer, unless something ended the call before
abbrev pub answer_unless : Answer → Option Refusal → Result Answer Refusal
answer_unless a None = Ok a
answer_unless a (Some x) = Err x

-- this answer, unless something ended the call after it
abbrev pub unless_ended : Option Refusal → Result Answer Refusal → Result Answer Refusal
unless_ended None a = a
unless_ended (Some x) a = Err x

-- the instance that a find came to, or why the call ends there
abbrev pub found_by : Result Reply Refusal → Result ℕ Refusal
found_by (Ok (reply.Found i)) = Ok i
found_by (Ok r) = Err (refusal_of r)
found_by (Err x) = Err x

-- the answer of a call that acts: made of the action's number and outcome, or of none where it was so
-- already
abbrev pub acted_answer : (Option ℕ → Outcome → Answer) → Result ActionResult Refusal → Result Answer Refusal
acted_answer made (Ok (acted.Ended k a o)) =
    elim (ends_call (Ok (acted.Ended k a o))) as (λ _. Result Answer Refusal) [
      | None ↦ Ok (made (Some a) o)
      | Some x ↦ Err x
    ]
acted_answer made (Ok (acted.Quiet reply.Already)) = Ok (made None outcome.Resolved)
acted_answer made (Ok (acted.Quiet r)) = Err (refusal_of r)
acted_answer made (Err x) = Err x

-- whether a stop went by force
abbrev pub is_killed : Outcome → Bool
is_killed outcome.Killed = true
is_killed _ = false

-- the answer to `resolve`, by what came of the action
abbrev pub resolved_answer : Result ActionResult Refusal → Result Answer Refusal
resolved_answer = acted_answer (λ a o. answer.Resolved a)

-- the answer to `start`, by what came of the action
abbrev pub started_answer : Result ActionResult Refusal → Result Answer Refusal
started_answer = acted_answer (λ a o. answer.Started a)

-- the answer to `stop`, by what came of the action; it tells whether that went by force
abbrev pub stopped_answer : Result ActionResult Refusal → Result Answer Refusal
stopped_answer = acted_answer (λ a o. answer.Stopped a (is_killed o))

-- the refusal that the reply to a mark stands for; none where the row is marked, now or before
abbrev pub unmarked : Reply → Option Refusal
unmarked reply.Marked = None
unmarked reply.Already = None
unmarked r = Some (refusal_of r)
