-- Promised.
-- Of which entries a journal can tell: those whose names, monikers, paths, URLs, offers and
-- declarations are in their grammars, and whose numbers fit. Such an entry is legible: its line can be
-- read back.
use Rattle.std.specs.Prelude.{◌≡◌, ◌≢◌, ◌<◌, ◌^◌, Some, None, All, IsTrue}
use Rattle.cm_names.specs.Name.{IsName}
use Rattle.cm_names.specs.Path.{is_path, service_path}
use Rattle.cm_names.specs.Rights.{RightSet, no_rights}
use Rattle.cm_decl.specs.declared.kind.Kind.{Kind}
use Rattle.cm_decl.specs.declared.kind.Kind.TheVariants as kind
use Rattle.cm_read.specs.Readable.{IsReadable}
use Rattle.cm_world.specs.declared.action.FaultNote.{FaultNote}
use Rattle.cm_world.specs.declared.action.Finish.{Finish}
use Rattle.cm_world.specs.declared.action.Finish.TheVariants as finish
use Rattle.cm_world.specs.declared.action.Outcome.{Outcome}
use Rattle.cm_world.specs.declared.action.Outcome.TheVariants as outcome
use Rattle.cm_world.specs.declared.event.Event.{Event}
use Rattle.cm_world.specs.declared.event.Event.TheVariants as event
use Rattle.cm_world.specs.declared.event.Target.TheVariants as target
use Rattle.cm_world.specs.declared.frame.Builtin.{Builtin}
use Rattle.cm_command.specs.Words.{IsUrlText}
use Rattle.cm_command.specs.Written.{IsTarget, IsWritableGive}

-- ---- events

-- a fault of a manifest whose number has 8 bits and whose index has 32
pub record IsLegibleNote (note : FaultNote) : Type 0 where
  pub number : note.number < 2 ^ 8
  pub index : note.index < 2 ^ 32

-- an outcome of an action that can be read back
abbrev pub IsLegibleOutcome : Outcome → Type 0
IsLegibleOutcome (outcome.Invalid note) = IsLegibleNote note
IsLegibleOutcome _ = Unit {0}

-- an end of an action that can be read back: a URL with a declaration that some manifest has, or an
-- outcome
abbrev pub IsLegibleFinish : Finish → Type 0
IsLegibleFinish (finish.Resolved url decl) = IsUrlText url × IsReadable decl
IsLegibleFinish (finish.Other o) = IsLegibleOutcome o

-- an event that can be read back: its numbers have 64 bits, and its texts are in their grammars
abbrev pub IsLegible : Event → Type 0
IsLegible (event.Find m) = IsTarget (target.Named m)
IsLegible (event.Begin kind i) = i < 2 ^ 64
IsLegible (event.End a f) = (a < 2 ^ 64) × IsLegibleFinish f
IsLegible (event.Await a) = a < 2 ^ 64
IsLegible (event.Create i child) =
    (i < 2 ^ 64) × IsName child.coll × IsName child.name × IsUrlText child.url
    × All IsWritableGive child.gives
IsLegible (event.Mark doomed i) = i < 2 ^ 64
IsLegible (event.Pick i) = i < 2 ^ 64
IsLegible (event.Purge i) = i < 2 ^ 64
IsLegible (event.Route i path) = (i < 2 ^ 64) × IsTrue (is_path path)
IsLegible (event.OpenUse i path) = (i < 2 ^ 64) × IsTrue (is_path path)
IsLegible (event.OpenExposed i name) = (i < 2 ^ 64) × IsName name
IsLegible (event.Listing i coll) = (i < 2 ^ 64) × IsName coll
IsLegible (event.Show i) = i < 2 ^ 64
IsLegible (event.Survey i) = i < 2 ^ 64
IsLegible (event.Exited i) = i < 2 ^ 64
IsLegible (event.Tail i from) = (i < 2 ^ 64) × (from < 2 ^ 64)
IsLegible (event.Reap i) = i < 2 ^ 64

-- ---- replies: in what is written of them no word is an arrow

-- a builtin protocol has the path of its name; a builtin directory has a path and some rights
abbrev pub IsLegibleAs : Kind → Builtin → Type 0
IsLegibleAs kind.Protocol b = (b.path ≡ service_path b.name) × (b.rights ≡ None)
IsLegibleAs kind.Directory b =
    IsTrue (is_path b.path) × ((r : RightSet) × (b.rights ≡ Some r) × (r ≢ no_rights))

-- a builtin whose line says all of it
pub record IsLegibleBuiltin (b : Builtin) : Type 0 where
  pub name : IsName b.name
  pub stands : IsLegibleAs b.kind b
