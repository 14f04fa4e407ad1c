-- Inside.
-- The laws of routes and of outcomes, as statements of every legal history.
use Rattle.std.specs.Prelude.{List}
use Rattle.cm_world.specs.declared.frame.Frame.{Frame}
use Rattle.cm_world.specs.declared.reply.Entry.{Entry}
use Rattle.cm_world.specs.World.{start}
use Rattle.cm_world.specs.Legal.{Legal}
use Rattle.cm_laws.specs.Lasting.{HasStableRoutes, HasOneOutcome}

-- each route that was opened in a legal history was a true one then
abbrev pub RoutesAreStable : Type 0
RoutesAreStable = (f : Frame) (es : List Entry) → Legal (start f) es → HasStableRoutes f es

-- each action of a legal history has one outcome, which all that wait for it get
abbrev pub OutcomesAreOne : Type 0
OutcomesAreOne = (f : Frame) (es : List Entry) → Legal (start f) es → HasOneOutcome es
