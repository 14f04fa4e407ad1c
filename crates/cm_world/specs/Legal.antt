-- Promised.
-- Histories: which are legal, and what world they leave.
use Rattle.std.specs.Prelude.{ℕ, List, [], ◌∷◌}
use Rattle.cm_world.specs.declared.reply.Entry.{Entry}
use Rattle.cm_world.specs.World.{World, owed}
use Rattle.cm_world.specs.Step.{IsEnabled, Allowed}
use Rattle.cm_world.specs.After.{after}

-- an entry that a world allows: its caller may make the event now, and its reply is one that the event
-- may get
pub record IsStep (w : World) (e : Entry) : Type 0 where
  pub enabled : IsEnabled w e.caller e.event
  pub allowed : Allowed w e.caller e.event e.reply

-- a history is legal from a world: each entry is allowed in the world that the entries before it leave
abbrev pub Legal : World → List Entry → Type 0
Legal w [] = Unit {0}
Legal w (e ∷ es) = IsStep w e × Legal (after w e) es

-- the world that a whole history leaves
abbrev pub replay : World → List Entry → World
replay w [] = w
replay w (e ∷ es) = replay (after w e) es

-- how many entries still have to come for what was begun: an end for each open action, an await for
-- each join
abbrev pub owed_by : World → ℕ
owed_by w = owed w.acts w.joins
