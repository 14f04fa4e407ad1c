-- Histories entry by entry, and what a quiet entry leaves.
use Rattle.std.proofs.Common.{◌≡◌, ℕ, List, [], ◌∷◌, ◌++◌, true≢false, false, refl}
use Rattle.cm_world.specs.declared.reply.Entry.{Entry}
use Rattle.cm_world.specs.World.{World}
use Rattle.cm_world.specs.After.{moved, after}
use Rattle.cm_world.specs.AfterInside.{moves}
use Rattle.cm_world.specs.Legal.{IsStep, Legal, replay}
use Rattle.cm_world.specs.declared.reply.Reply.{Reply}
use Rattle.cm_world.specs.declared.reply.Reply.TheVariants as reply
use Rattle.cm_world.specs.declared.event.Event.{Event}
use Rattle.cm_world.specs.declared.event.Event.TheVariants.{Begin, End, Await, Create, Mark, Pick, Purge, Exited}

-- a legal history goes on by an entry that its world allows
pub Legal-push : (w : World) (es : List Entry) (e : Entry) → Legal w es → IsStep (replay w es) e → Legal w (es ++ e ∷ [])
Legal-push w [] e legal step = (step, tt)
Legal-push w (x ∷ xs) e legal step = (legal.0, Legal-push (after w x) xs e legal.1 step)

-- The world that a history with one entry more leaves is the one after that entry.
pub replay-push : (w : World) (es : List Entry) (e : Entry) → replay w (es ++ e ∷ []) ≡ after (replay w es) e
replay-push w [] e = refl
replay-push w (x ∷ xs) e = replay-push (after w x) xs e

-- The world that two histories leave, one after the other, is that of the second from the first's.
pub replay-append : (w : World) (es fs : List Entry) → replay w (es ++ fs) ≡ replay (replay w es) fs
replay-append w [] fs = refl
replay-append w (x ∷ xs) fs = replay-append (after w x) xs fs

-- Where entries and more are legal, the first are, and the others are from the tree that these leave.
pub Legal-split : (w : World) (es fs : List Entry) → Legal w (es ++ fs) → Legal w es × Legal (replay w es) fs
Legal-split w [] fs legal = (tt, legal)
Legal-split w (x ∷ xs) fs legal =
    let both : Legal (after w x) xs × Legal (replay (after w x) xs) fs = Legal-split (after w x) xs fs legal.1 in ((legal.0, both.0), both.1)

-- an event and reply that don't move leave all but the number of entries
pub moved-quiet : (w : World) (caller : ℕ) (e : Event) (r : Reply) → moves e r ≡ false → moved w caller e r ≡ w
moved-quiet w caller (Begin kind i) (reply.Begun work) quiet = absurd (true≢false quiet)
moved-quiet w caller (Begin kind i) (reply.Joined a) quiet = absurd (true≢false quiet)
moved-quiet w caller (End a finish) (reply.Ended o) quiet = absurd (true≢false quiet)
moved-quiet w caller (Await a) (reply.Ended o) quiet = absurd (true≢false quiet)
moved-quiet w caller (Create p child) (reply.Created i) quiet = absurd (true≢false quiet)
moved-quiet w caller (Mark doom i) reply.Marked quiet = absurd (true≢false quiet)
moved-quiet w caller (Pick t) (reply.Stopping work) quiet = absurd (true≢false quiet)
moved-quiet w caller (Pick t) (reply.ShutDown i) quiet = absurd (true≢false quiet)
moved-quiet w caller (Purge i) (reply.Purged lost) quiet = absurd (true≢false quiet)
moved-quiet w caller (Exited i) (reply.Left m) quiet = absurd (true≢false quiet)
moved-quiet w caller e r quiet = refl
