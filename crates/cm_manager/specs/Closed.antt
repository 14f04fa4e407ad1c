-- Promised.
-- Histories in which no action is left open.
use Rattle.std.specs.Prelude.{◌≡◌, ℕ, List, Any, Some}
use Rattle.cm_world.specs.declared.action.ActKind.{ActKind}
use Rattle.cm_world.specs.declared.reply.Entry.{Entry}
use Rattle.cm_world.specs.declared.event.Event.TheVariants as event
use Rattle.cm_world.specs.declared.action.Finish.{Finish}
use Rattle.cm_world.specs.declared.action.Work.{Work}
use Rattle.cm_manager.specs.Work.{begins}

-- the entry begins this action, with this work
abbrev pub BeginsWork : ActKind × Work → Entry → Type 0
BeginsWork b e = begins e.event e.reply ≡ Some b

-- the entry is the end of this action
abbrev pub EndsAction : ℕ → Entry → Type 0
EndsAction action e = (finish : Finish) × (e.event ≡ event.End action finish)

-- each action that these entries begin is ended by one of them
abbrev pub HasEnds : List Entry → Type 0
HasEnds entries = (b : ActKind × Work) → Any (BeginsWork b) entries → Any (EndsAction b.1.action) entries
