-- Inside.
-- Who asks for the route of a use, or opens it, and how the answers that are kept serve both.
use Rattle.std.specs.Prelude.{◌≡◌, ℕ, List, Bool, not, ◌&&◌, Option, Some}
use Rattle.cm_world.specs.declared.event.Event.{Event}
use Rattle.cm_world.specs.declared.event.Event.TheVariants as event
use Rattle.cm_world.specs.declared.reply.Reply.{Reply}
use Rattle.cm_world.specs.declared.frame.Builtin.{Builtin}
use Rattle.cm_world.specs.declared.route.Start.TheVariants.{UseAt}
use Rattle.cm_world.specs.declared.route.Walked.{Walked}
use Rattle.cm_world.specs.declared.row.Row.{Row}
use Rattle.cm_world.specs.Openings.{unready, unopened, routed, opened}
use Rattle.cm_world.specs.Route.{IsWalked}
use Rattle.cm_world.specs.Rows.{is_gone, is_resolved, is_on}
use Rattle.cm_cache.specs.declared.answer.CachedAnswer.{CachedAnswer}
use Rattle.cm_cache.specs.AnswersInside.{kept_at}
use Rattle.cm_steps.specs.declared.asking.Asking.{Asking}
use Rattle.cm_steps.specs.declared.asking.Asking.TheVariants as asking

-- whether a row isn't gone and is resolved
abbrev pub is_ready : List Row → ℕ → Bool
is_ready rows i = not (is_gone rows i) && is_resolved rows i

-- whether who asks gets what the walk from a use of row i comes to; to open it, the row has to be on
-- too
abbrev pub may_ask : Asking → List Row → ℕ → Bool
may_ask asking.Route rows i = is_ready rows i
may_ask asking.Opening rows i = is_ready rows i && is_on rows i

-- the reply that refuses who asks, before any walk
abbrev pub refusal_of : Asking → List Row → ℕ → Option Reply
refusal_of asking.Route rows i = unready rows i
refusal_of asking.Opening rows i = unopened rows i

-- the event that is recorded for who asks
abbrev pub event_of : Asking → ℕ → List ℕ → Event
event_of asking.Route i path = event.Route i path
event_of asking.Opening i path = event.OpenUse i path

-- the reply to who asks, by what the walk came to
abbrev pub reply_of : Asking → List Row → Walked → Reply
reply_of asking.Route rows v = routed rows v
reply_of asking.Opening rows v = opened rows v

-- the answer that is kept for a use, if one is, is what its walk comes to
abbrev pub IsRightAt : List Row → List Builtin → List CachedAnswer → ℕ → List ℕ → Type 0
IsRightAt rows builtins answers i path =
    (v : Walked) → kept_at answers i path ≡ Some v → IsWalked rows builtins (UseAt i path) v
