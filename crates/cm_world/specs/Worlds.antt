-- Inside.
-- The worlds that worked examples speak of.
use Rattle.std.specs.Prelude.{[], ◌∷◌, false, Some, take}
use Rattle.cm_names.specs.declared.availability.Availability.TheVariants.{Required, Optional, Transitional}
use Rattle.cm_world.specs.declared.event.Event.TheVariants.{Mark}
use Rattle.cm_world.specs.declared.reply.Reply.TheVariants.{Marked}
use Rattle.cm_world.specs.declared.route.Walked.{Walked}
use Rattle.cm_world.specs.declared.route.Walked.TheVariants.{Failed, Void}
use Rattle.cm_world.specs.declared.route.Why.TheVariants.{AvailabilityTooWeak}
use Rattle.cm_world.specs.World.{World, start}
use Rattle.cm_world.specs.Legal.{replay}
use Rattle.cm_world.specs.Examples.{frame, entry, resolving_entries}
use Rattle.cm_world.specs.RouteExamples.{small_frame, void_hop}
use Rattle.cm_world.specs.ActionExamples.{joined_entries, failed_entries}
use Rattle.cm_world.specs.ShutdownExamples.{doomed_entries}
use Rattle.cm_world.specs.ExpiringExamples.{stopping_entries}

-- the tree of the examples before any entry
abbrev pub fresh : World
fresh = start frame

-- a tree whose room is for one row
abbrev pub small : World
small = start small_frame

-- the tree of the examples once its root is resolved
abbrev pub rooted : World
rooted = replay fresh (take 3 resolving_entries)

-- the root, the logger 1 and the client 2 are resolved and off
abbrev pub resolved : World
resolved = replay fresh resolving_entries

-- a start of the logger is pending, and another caller has joined it
abbrev pub joined : World
joined = replay resolved joined_entries

-- it has failed, and the other caller has its outcome
abbrev pub failed : World
failed = replay joined failed_entries

-- a root with the collection k is resolved
abbrev pub collecting : World
collecting = replay fresh (take 2 doomed_entries)

-- the child 1 of the collection is created
abbrev pub created : World
created = replay fresh (take 3 doomed_entries)

-- it is doomed, and a start of it is pending
abbrev pub doomed : World
doomed = replay fresh doomed_entries

-- a root with a child in its collection is running, and a stop of it is pending
abbrev pub stopping : World
stopping = replay fresh stopping_entries

-- the root is closing
abbrev pub closing : World
closing = replay collecting (entry (Mark false 0) Marked ∷ [])

-- what an optional use comes to that is offered something from void
abbrev pub left_out : Walked
left_out = Void void_hop

-- what an optional use comes to that is offered something transitional
abbrev pub more_sure : Walked
more_sure =
    Failed
    (record void_hop { availability = Some Transitional })
    (AvailabilityTooWeak Optional Transitional)

-- what a required use comes to that is offered something optional
abbrev pub too_weak : Walked
too_weak = Failed void_hop (AvailabilityTooWeak Required Optional)
