-- Promised.
-- How many entries an event needs room for.
use Rattle.std.specs.Prelude.{ℕ}
use Rattle.cm_world.specs.declared.event.Event.{Event}
use Rattle.cm_world.specs.declared.event.Event.TheVariants as event

-- how many entries there must be room for before an event is made: two where it begins an action,
-- whose end comes later
abbrev pub need : Event → ℕ
need (event.Begin kind i) = 2
need (event.Pick t) = 2
need _ = 1
