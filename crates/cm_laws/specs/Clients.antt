-- Promised.
-- Clients stop before what they depend on.
use Rattle.std.specs.Prelude.{◌≡◌, ℕ, List, Option, Some, None, IsTrue}
use Rattle.cm_world.specs.declared.frame.Frame.{Frame}
use Rattle.cm_world.specs.declared.event.Event.{Event}
use Rattle.cm_world.specs.declared.event.Event.TheVariants.{Pick}
use Rattle.cm_world.specs.declared.reply.Reply.{Reply}
use Rattle.cm_world.specs.declared.reply.Reply.TheVariants.{Stopping, ShutDown}
use Rattle.cm_world.specs.declared.reply.Entry.{Entry}
use Rattle.cm_world.specs.Rows.{is_below, is_shut}
use Rattle.cm_world.specs.Stopping.{outermost}
use Rattle.cm_world.specs.Clients.{IsClient}
use Rattle.cm_world.specs.World.{World, start}
use Rattle.cm_world.specs.Legal.{replay}
use Rattle.cm_laws.specs.Lasting.{OfEachEntry}

-- the instance that a pick chose: one to be stopped, or one that was off and is shut now
abbrev pub picked_by : Event → Reply → Option ℕ
picked_by (Pick t) (Stopping work) = Some work.inc
picked_by (Pick t) (ShutDown i) = Some i
picked_by _ _ = None

-- all clients of an instance are shut, as far as they are at or below its outermost closing row
pub record HasClientsShut (w : World) (y : ℕ) : Type 0 where
  pub top : ℕ
  pub outermost : outermost w.rows y ≡ Some top
  pub shut :
      (x : ℕ) → IsClient w.rows w.frame.builtins x y → IsTrue (is_below w.rows top x)
      → IsTrue (is_shut w.rows x)

-- whenever a shutdown picks an instance, its clients that go with it are shut already
abbrev pub PicksClientsFirst : Frame → List Entry → Type 0
PicksClientsFirst f es =
    OfEachEntry
    (λ prefix e. (y : ℕ) → picked_by e.event e.reply ≡ Some y → HasClientsShut (replay (start f) prefix) y) es
