-- Inside.
-- Laws of the definitions, as statements. Functions of this crate promise them, and nothing is assumed.
use Rattle.std.specs.Prelude.{◌≡◌, ℕ, List, [], ◌∷◌, ◌++◌}
use Rattle.cm_world.specs.declared.row.Row.{Row}
use Rattle.cm_world.specs.declared.frame.Frame.{Frame}
use Rattle.cm_world.specs.declared.frame.Builtin.{Builtin}
use Rattle.cm_world.specs.declared.event.Event.{Event}
use Rattle.cm_world.specs.declared.reply.Reply.{Reply}
use Rattle.cm_world.specs.declared.reply.Entry.{Entry}
use Rattle.cm_world.specs.declared.route.Start.{Start}
use Rattle.cm_world.specs.declared.route.Walked.{Walked}
use Rattle.cm_world.specs.World.{World, start}
use Rattle.cm_world.specs.Route.{IsWalked}
use Rattle.cm_world.specs.Step.{Allowed}
use Rattle.cm_world.specs.After.{after}
use Rattle.cm_world.specs.Legal.{IsStep, Legal, replay}
use Rattle.cm_world.specs.Sound.{IsSound}
use Rattle.cm_world.specs.Laws.{IsPick}

-- every event but a pick gets at most one reply
abbrev pub RepliesOnce : Type 0
RepliesOnce =
    (w : World) (caller : ℕ) (e : Event) (r q : Reply) → (IsPick e → ⊥)
    → Allowed w caller e r → Allowed w caller e q → r ≡ q

-- a walk comes to at most one answer
abbrev pub WalksOnce : Type 0
WalksOnce =
    (rows : List Row) (builtins : List Builtin) (begin : Start) (v w : Walked)
    → IsWalked rows builtins begin v → IsWalked rows builtins begin w → v ≡ w

-- a tree is sound when it is made
abbrev pub StartsSound : Type 0
StartsSound = (f : Frame) → IsSound (start f).rows (start f).next_inc

-- a legal history goes on by any entry that the world allows which it leaves
abbrev pub LegalGoesOn : Type 0
LegalGoesOn =
    (w : World) (es : List Entry) (e : Entry) → Legal w es → IsStep (replay w es) e → Legal w (es ++ e ∷ [])

-- a history with one more entry leaves the world that the entry leaves
abbrev pub ReplayGoesOn : Type 0
ReplayGoesOn = (w : World) (es : List Entry) (e : Entry) → replay w (es ++ e ∷ []) ≡ after (replay w es) e
