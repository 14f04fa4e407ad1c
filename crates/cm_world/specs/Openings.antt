-- Promised.
-- The replies to who asks for a route, and to who opens what is used or exposed.
use Rattle.std.specs.Prelude.{◌≡◌, ℕ, List, not, ◌&&◌, ◌||◌, Option, Some, None, if◌then◌else◌}
use Rattle.cm_world.specs.declared.row.Row.{Row}
use Rattle.cm_world.specs.declared.frame.Builtin.{Builtin}
use Rattle.cm_world.specs.declared.route.Provider.{Provider}
use Rattle.cm_world.specs.declared.route.Provider.TheVariants as provider
use Rattle.cm_world.specs.declared.route.Route.{Route}
use Rattle.cm_world.specs.declared.route.Start.{Start}
use Rattle.cm_world.specs.declared.route.Walked.{Walked}
use Rattle.cm_world.specs.declared.route.Walked.TheVariants as walked
use Rattle.cm_world.specs.declared.reply.Reply.{Reply}
use Rattle.cm_world.specs.declared.reply.Reply.TheVariants.{Gone, Need, Shut, NoSuchUse, ClientOff}
use Rattle.cm_world.specs.declared.reply.Reply.TheVariants.{SourceShut, NeedStart, Failed, Void, Given}
use Rattle.cm_world.specs.declared.reply.Reply.TheVariants.{Opened}
use Rattle.cm_world.specs.Rows.{is_gone, is_closed, is_on, is_shut, is_resolved}
use Rattle.cm_world.specs.Route.{IsWalked}

-- what refuses a reply that needs the row's declaration: the row is gone, is shut down unresolved, or
-- must be resolved
abbrev pub unready : List Row → ℕ → Option Reply
unready rows i =
    if is_gone rows i then Some (Gone i)
    else if is_resolved rows i then None
    else if is_closed rows i then Some (Shut i) else Some (Need i)

-- what refuses an opening by a use: the client is gone, or it is off
abbrev pub unopened : List Row → ℕ → Option Reply
unopened rows i = if is_gone rows i then Some (Gone i) else if is_on rows i then None else Some ClientOff

-- the reply to who asks for a route, by what the walk came to
abbrev pub routed : List Row → Walked → Reply
routed rows (walked.Given route) = Given route
routed rows (walked.Failed hop why) = Failed hop why
routed rows (walked.Need j) = if is_closed rows j then SourceShut j else Need j
routed rows (walked.Void hop) = Void hop
routed rows walked.NoSuchUse = NoSuchUse

-- the reply to who opens a route that was found: an instance that provides has to be on, so it may
-- have to be started first, or it is being shut down
abbrev pub opened_at : List Row → Route → Provider → Reply
opened_at rows route (provider.Instance s moniker) =
    if is_shut rows s || (not (is_on rows s) && is_closed rows s) then SourceShut s
    else if is_on rows s then Opened route else NeedStart s
opened_at rows route _ = Opened route

-- the reply to who opens, by what the walk came to
abbrev pub opened : List Row → Walked → Reply
opened rows (walked.Given route) = opened_at rows route route.provider
opened rows w = routed rows w

-- the reply is the refusal, if there is one, else what is made of the walk from a start
abbrev pub WalksUnless : List Row → List Builtin → Start → (Walked → Reply) → Option Reply → Reply → Type 0
WalksUnless rows builtins begin make (Some refusal) reply = reply ≡ refusal
WalksUnless rows builtins begin make None reply =
    (v : Walked) × IsWalked rows builtins begin v × (reply ≡ make v)
