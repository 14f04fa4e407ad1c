-- Inside.
-- Where the peers of a door with a listener may come.
use Rattle.std.specs.Prelude.{Option, Some, None}
use Rattle.cm_io.specs.Doors.{DoorPlace, nowhere, somewhere}

-- somewhere, where there is a listener; else nowhere
abbrev pub place_by : {A : Type 0} → Option A → DoorPlace
place_by None = nowhere
place_by (Some listener) = somewhere
