-- Inside.
-- What functions that read a script promise: memory may run out at any time, all else is fixed.
use Rattle.std.specs.Prelude.{◌≡◌, Result, Ok, Err}
use Rattle.cm_program.specs.declared.fault.ScriptRefusal.{ScriptRefusal}
use Rattle.cm_program.specs.declared.fault.ScriptRefusal.TheVariants.{Unread, Unserved, Memory}
use Rattle.cm_program.specs.Reading.{ReadOutcome}

-- a fault that a function may return where this is read: lack of memory always, another only where
-- reading gives it
abbrev pub MayRunOut : {Y : Type 0} → ScriptRefusal → ReadOutcome Y → Type 0
MayRunOut Memory read = Unit {0}
MayRunOut (Unserved line problem) read = read ≡ Err (Unserved line problem)
MayRunOut (Unread line number at) read = read ≡ Err (Unread line number at)

-- what a function returned is what reading gives, unless memory ran out
abbrev pub GivesOutcome : {X : Type 0} → ReadOutcome X → ReadOutcome X → Type 0
GivesOutcome (Ok x) read = read ≡ Ok x
GivesOutcome (Err e) read = MayRunOut e read

-- the value that a function left in place is what reading gives, unless memory ran out
abbrev pub LeavesReading : {X : Type 0} → X → Result (Unit {0}) ScriptRefusal → ReadOutcome X → Type 0
LeavesReading new (Ok u) read = read ≡ Ok new
LeavesReading new (Err e) read = MayRunOut e read
