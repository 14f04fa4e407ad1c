-- Inside.
-- The laws of destroying, as statements of every legal history: the promise of `the_destroyed_stay_gone`.
use Rattle.std.specs.Prelude.{ℕ}
use Rattle.std.specs.Prelude.{List}
use Rattle.cm_world.specs.declared.frame.Frame.{Frame}
use Rattle.cm_world.specs.declared.reply.Entry.{Entry}
use Rattle.cm_world.specs.World.{start}
use Rattle.cm_world.specs.Legal.{Legal}
use Rattle.cm_laws.specs.Lasting.{OfEachEntry}
use Rattle.cm_laws.specs.Destroying.{IsDoomed, IsDestroyed, KeepsGone}

-- a row that is doomed counts as destroyed from then on
abbrev pub DoomedAreDestroyed : Type 0
DoomedAreDestroyed =
    (f : Frame) (es : List Entry) (i : ℕ) → Legal (start f) es → IsDoomed f es i → IsDestroyed f es i

-- what is destroyed stays gone for every later entry
abbrev pub DestroyedStayGone : Type 0
DestroyedStayGone = (f : Frame) (es : List Entry) → Legal (start f) es → OfEachEntry (KeepsGone f) es
