-- That the limit of entries doesn't matter to what is legal.
use Rattle.std.proofs.Common.{◌≡◌, ℕ, ◌+◌, List, [], ◌∷◌, Option, Some, None, refl, sym, ap, ◌∙◌, subst}
use Rattle.cm_world.specs.declared.action.Act.{Act}
use Rattle.cm_world.specs.declared.action.Finish.{Finish}
use Rattle.cm_world.specs.declared.action.Outcome.{Outcome}
use Rattle.cm_world.specs.declared.reply.Entry.{Entry}
use Rattle.cm_world.specs.declared.reply.Reply.{Reply}
use Rattle.cm_world.specs.declared.reply.Reply.TheVariants as reply
use Rattle.cm_world.specs.declared.event.Event.{Event}
use Rattle.cm_world.specs.declared.event.Event.TheVariants.{Find, Begin, End, Await, Create, Mark, Pick, Purge, Route, OpenUse, OpenExposed, Listing, Show, Survey, Exited, Tail, Reap}
use Rattle.cm_world.specs.World.{World, start, act_of}
use Rattle.cm_world.specs.Step.{IsEnabled, Allowed}
use Rattle.cm_world.specs.After.{moved, after, with_end_of}
use Rattle.cm_world.specs.Legal.{Legal, replay}
use Rattle.cm_legible.specs.Frames.{roomy, LegalWhateverRoom}

-- An event that is enabled in a world is so where there is room for any number of entries.
enabled : (n : ℕ) (w : World) (c : ℕ) (e : Event) → IsEnabled w c e → IsEnabled (roomy n w) c e
enabled n w c (Find m) h = h
enabled n w c (Begin kind i) h = h
enabled n w c (End a finish) h = h
enabled n w c (Await a) h = h
enabled n w c (Create p child) h = h
enabled n w c (Mark doom i) h = h
enabled n w c (Pick t) h = h
enabled n w c (Purge i) h = h
enabled n w c (Route i path) h = h
enabled n w c (OpenUse i path) h = h
enabled n w c (OpenExposed i name) h = h
enabled n w c (Listing i coll) h = h
enabled n w c (Show i) h = h
enabled n w c (Survey i) h = h
enabled n w c (Exited i) h = h
enabled n w c (Tail i from) h = h
enabled n w c (Reap i) h = h

-- A reply that an event may get it may get where there is room for any number of entries.
allowed : (n : ℕ) (w : World) (c : ℕ) (e : Event) (r : Reply) → Allowed w c e r → Allowed (roomy n w) c e r
allowed n w c (Find m) r h = h
allowed n w c (Begin kind i) r h = h
allowed n w c (End a finish) r h = h
allowed n w c (Await a) r h = h
allowed n w c (Create p child) r h = h
allowed n w c (Mark doom i) r h = h
allowed n w c (Pick t) r h = h
allowed n w c (Purge i) r h = h
allowed n w c (Route i path) r h = h
allowed n w c (OpenUse i path) r h = h
allowed n w c (OpenExposed i name) r h = h
allowed n w c (Listing i coll) r h = h
allowed n w c (Show i) r h = h
allowed n w c (Survey i) r h = h
allowed n w c (Exited i) r h = h
allowed n w c (Tail i from) r h = h
allowed n w c (Reap i) r h = h

-- How much room a world has is the same behind the end of an action.
ended : (n : ℕ) (w : World) (a : ℕ) (finish : Finish) (o : Outcome) (x : Option Act) → with_end_of (roomy n w) a finish o x ≡ roomy n (with_end_of w a finish o x)
ended n w a finish o None = refl
ended n w a finish o (Some x) = refl

-- How much room a world has is the same behind an event with its reply.
moved_so : (n : ℕ) (w : World) (c : ℕ) (e : Event) (r : Reply) → moved (roomy n w) c e r ≡ roomy n (moved w c e r)
moved_so n w c (Begin kind i) (reply.Begun work) = refl
moved_so n w c (Begin kind i) (reply.Joined a) = refl
moved_so n w c (End a finish) (reply.Ended o) = ended n w a finish o (act_of w.acts a)
moved_so n w c (Await a) (reply.Ended o) = refl
moved_so n w c (Create p child) (reply.Created i) = refl
moved_so n w c (Mark doom i) reply.Marked = refl
moved_so n w c (Pick t) (reply.Stopping work) = refl
moved_so n w c (Pick t) (reply.ShutDown i) = refl
moved_so n w c (Purge i) (reply.Purged lost) = refl
moved_so n w c (Exited i) (reply.Left m) = refl
moved_so n w c e r = refl

-- How much room a world has is the same behind an entry.
after_so : (n : ℕ) (w : World) (e : Entry) → after (roomy n w) e ≡ roomy n (after w e)
unfolding after
after_so n w e = ap (λ (v : World). let u : World = record v { entries = v.entries + 1 } in u) (moved_so n w e.caller e.event e.reply)

-- A legal history is legal where there is room for any number of entries.
legal_so : (n : ℕ) (w : World) (es : List Entry) → Legal w es → Legal (roomy n w) es
legal_so n w [] h = tt
legal_so n w (e ∷ es) h = (
  record { enabled = enabled n w e.caller e.event h.0.enabled; allowed = allowed n w e.caller e.event e.reply h.0.allowed },
  subst (λ v. Legal v es) (sym (after_so n w e)) (legal_so n (after w e) es h.1),
)

-- How much room a world has is the same behind a history.
replay_so : (n : ℕ) (w : World) (es : List Entry) → replay (roomy n w) es ≡ roomy n (replay w es)
replay_so n w [] = refl
replay_so n w (e ∷ es) = ap (λ v. replay v es) (after_so n w e) ∙ replay_so n (after w e) es

-- A legal history is legal with any limit of entries, and leaves the same world but for that.
pub legal_whatever_room : LegalWhateverRoom
legal_whatever_room n f es h = (legal_so n (start f) es h, replay_so n (start f) es)
