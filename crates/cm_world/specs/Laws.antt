-- Promised.
-- Laws of the definitions, as statements. Functions of this crate promise them, and nothing is assumed.
use Rattle.cm_world.specs.declared.event.Event.{Event}
use Rattle.cm_world.specs.declared.event.Event.TheVariants.{Pick}

-- the event is a pick, the only one that may get one of several replies
abbrev pub IsPick : Event → Type 0
IsPick (Pick t) = Unit {0}
IsPick _ = ⊥
