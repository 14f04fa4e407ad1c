-- Inside.
-- A caller's own entries in which nothing is left open, as calls leave them.
use Rattle.std.specs.Prelude.{◌≡◌, ℕ, List, [], ◌∷◌, ◌++◌, Option, Some, None}
use Rattle.cm_world.specs.declared.action.ActKind.{ActKind}
use Rattle.cm_world.specs.declared.reply.Entry.{Entry}
use Rattle.cm_world.specs.declared.event.Event.{Event}
use Rattle.cm_world.specs.declared.event.Event.TheVariants as event
use Rattle.cm_world.specs.declared.action.Finish.{Finish}
use Rattle.cm_world.specs.declared.reply.Reply.{Reply}
use Rattle.cm_world.specs.declared.reply.Reply.TheVariants as reply
use Rattle.cm_world.specs.declared.action.Work.{Work}
use Rattle.cm_turn.specs.History.{StartsWith}
use Rattle.cm_manager.specs.Turns.{own_entries}
use Rattle.cm_manager.specs.Work.{begins}

-- the action that an entry joins, if it joins one
abbrev pub joins : Event → Reply → Option ℕ
joins (event.Begin k i) (reply.Joined a) = Some a
joins _ _ = None

-- each entry that begins an action is followed by its end, and each that joins one by its await
pub data IsClosed : List Entry → Type 0 where
  empty : IsClosed []
  plain : {e : Entry} {es : List Entry}
      → begins e.event e.reply ≡ None
      → joins e.event e.reply ≡ None
      → IsClosed es
      → IsClosed (e ∷ es)
  acted : {e e' : Entry} {es : List Entry} {b : ActKind × Work} {finish : Finish}
      → begins e.event e.reply ≡ Some b
      → e'.event ≡ event.End b.1.action finish
      → IsClosed es
      → IsClosed (e ∷ e' ∷ es)
  awaited : {e e' : Entry} {es : List Entry} {a : ℕ}
      → joins e.event e.reply ≡ Some a
      → e'.event ≡ event.Await a
      → IsClosed es
      → IsClosed (e ∷ e' ∷ es)

-- between the two histories the caller made entries that are closed so
pub record AddsClosedPart (c : ℕ) (h h₁ : List Entry) : Type 0 where
  pub part : List Entry
  pub grows : StartsWith h₁ h
  pub own : own_entries c h₁ ≡ own_entries c h ++ part
  pub closed : IsClosed part
