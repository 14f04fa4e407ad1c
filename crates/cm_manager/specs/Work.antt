-- Promised.
-- What the ends of a caller's own actions owe to the outside: to where manifests are looked for, and
-- to its gates.
use Rattle.std.specs.Prelude.{◌≡◌, ℕ, ◌≤◌, List, [], ◌∷◌, ◌++◌, length, filter, Bool, true, false, IsTrue}
use Rattle.std.specs.Prelude.{IsFalse, Option, Some, None, Result, Ok, Err}
use Rattle.cm_io.specs.Outside.{Rose}
use Rattle.cm_names.specs.Rights.{index_of}
use Rattle.cm_decl.specs.declared.decl.Decl.{Decl}
use Rattle.cm_decl.specs.declared.section.Section.{Section}
use Rattle.cm_decl.specs.Faults.{DeclFault}
use Rattle.cm_decl.specs.Valid.{IsValid, IsDeclFault}
use Rattle.cm_read.specs.Manifest.{decl_of_bytes}
use Rattle.cm_read.specs.declared.fault.ReadFault.TheVariants as read
use Rattle.cm_repo.specs.Blocks.{Blocks, block_at}
use Rattle.cm_repo.specs.Urls.{absolute_of}
use Rattle.cm_repo.specs.declared.fault.UrlFault.{UrlFault}
use Rattle.cm_world.specs.declared.action.ActKind.{ActKind}
use Rattle.cm_world.specs.declared.action.ActKind.TheVariants as kind
use Rattle.cm_world.specs.declared.action.FaultNote.{FaultNote}
use Rattle.cm_world.specs.declared.action.Finish.{Finish}
use Rattle.cm_world.specs.declared.action.Finish.TheVariants as finish
use Rattle.cm_world.specs.declared.action.Outcome.TheVariants as outcome
use Rattle.cm_world.specs.declared.action.Work.{Work}
use Rattle.cm_world.specs.declared.event.Event.{Event}
use Rattle.cm_world.specs.declared.event.Event.TheVariants as event
use Rattle.cm_world.specs.declared.reply.Entry.{Entry}
use Rattle.cm_world.specs.declared.reply.Reply.{Reply}
use Rattle.cm_world.specs.declared.reply.Reply.TheVariants as reply
use Rattle.cm_gate.specs.declared.asked.GateCall.{GateCall}
use Rattle.cm_gate.specs.declared.asked.GateCall.TheVariants.{Fetch, Launch, Halt}
use Rattle.cm_gate.specs.declared.asked.Fetched.{Fetched}
use Rattle.cm_gate.specs.declared.asked.Fetched.TheVariants as fetched
use Rattle.cm_gate.specs.declared.asked.Launched.{Launched}
use Rattle.cm_gate.specs.declared.asked.Launched.TheVariants as launched
use Rattle.cm_gate.specs.declared.asked.Halted.{Halted}
use Rattle.cm_gate.specs.declared.asked.Halted.TheVariants as halted
use Rattle.cm_gate.specs.declared.asked.Job.{Job}
use Rattle.cm_gate.specs.Logs.{Grew, RoseBy}

-- ---- manifests

-- a manifest's fault as outcomes keep it, with its index kept within 32 bits
abbrev pub note_of : ℕ → Section → ℕ → FaultNote
note_of number section index = record { number = number; section = section; index = index_of index }

-- the valid declaration that the bytes of a manifest are, or their first fault: by reading, and then
-- by validity
pub data Judges (bytes : List ℕ) : Result Decl FaultNote → Type 0 where
  valid : {d : Decl} → decl_of_bytes bytes ≡ Ok d → IsValid d → Judges bytes (Ok d)
  unread : {number index : ℕ} {section : Section} {field : List ℕ}
      → decl_of_bytes bytes ≡ Err (read.Bad number section index field)
      → Judges bytes (Err (record { number = number; section = section; index = index }))
  invalid : {d : Decl} {f : DeclFault}
      → decl_of_bytes bytes ≡ Ok d
      → IsDeclFault d f
      → Judges bytes (Err (note_of f.number f.section f.index))

-- the end of a resolve by the manifest of this URL
abbrev pub resolved_by : List ℕ → Result Decl FaultNote → Finish
resolved_by url (Ok decl) = finish.Resolved url decl
resolved_by url (Err note) = finish.Other (outcome.Invalid note)

-- ---- questions to the gates

-- where manifests are looked for: blocks by their URLs, and the folder in which the gates look for
-- others
pub record Manifests : Type 0 where
  pub repo : Option (List ℕ)
  pub blocks : Blocks

-- the end of a resolve by what the gates fetched for its URL; memory may run out for reading it
pub data FetchEnds (url : List ℕ) : Fetched → Finish → Type 0 where
  found : {bytes : List ℕ} {judged : Result Decl FaultNote}
      → Judges bytes judged
      → FetchEnds url (fetched.Found bytes) (resolved_by url judged)
  unread : {bytes : List ℕ} → FetchEnds url (fetched.Found bytes) (finish.Other outcome.NoMemory)
  absent : FetchEnds url fetched.Absent (finish.Other outcome.Absent)
  failed : FetchEnds url fetched.Failed (finish.Other outcome.GateFailed)
  no_memory : FetchEnds url fetched.Memory (finish.Other outcome.NoMemory)

-- what the gates are asked about an instance that has a runner
abbrev pub job_of : Work → List ℕ → Job
job_of w runner = record { action = w.action; inc = w.inc; moniker = w.moniker; url = w.url; runner = runner }

-- the end of a start by what the gates answered
abbrev pub launch_ends : Launched → Finish
launch_ends launched.Running = finish.Other outcome.Started
launch_ends launched.Declined = finish.Other outcome.Declined
launch_ends launched.Failed = finish.Other outcome.GateFailed

-- the end of a stop by what the gates answered: by force where they failed
abbrev pub halt_ends : Halted → Finish
halt_ends halted.Stopped = finish.Other outcome.Stopped
halt_ends halted.Failed = finish.Other outcome.Killed

-- the work of an action: its end, and what the gates were asked for it, with their answers
pub data DoesWork (manifests : Manifests) (w : Work) : ActKind → Finish → List GateCall → Type 0 where
  no_url : {fault : UrlFault}
      → absolute_of w.base w.url ≡ Err fault
      → DoesWork manifests w kind.Resolve (finish.Other outcome.BadUrl) []
  kept : {url bytes : List ℕ} {judged : Result Decl FaultNote}
      → absolute_of w.base w.url ≡ Ok url
      → block_at manifests.blocks url ≡ Some bytes
      → Judges bytes judged
      → DoesWork manifests w kind.Resolve (resolved_by url judged) []
  fetches : {url : List ℕ} {answer : Fetched} {end : Finish}
      → absolute_of w.base w.url ≡ Ok url
      → block_at manifests.blocks url ≡ None
      → FetchEnds url answer end
      → DoesWork manifests w kind.Resolve end (Fetch (record {
        repo = manifests.repo;
        url =
            url;
      }) answer ∷ [])
  -- memory is wanting before a question
  wanting : DoesWork manifests w kind.Resolve (finish.Other outcome.NoMemory) []
  -- an instance without a program starts and stops without a question
  starts : w.runner ≡ None → DoesWork manifests w kind.Start (finish.Other outcome.Started) []
  launches : {runner : List ℕ} {answer : Launched}
      → w.runner ≡ Some runner
      → DoesWork manifests w kind.Start (launch_ends answer) (Launch (job_of w runner) answer ∷ [])
  stops : w.runner ≡ None → DoesWork manifests w kind.Stop (finish.Other outcome.Stopped) []
  halts : {runner : List ℕ} {answer : Halted}
      → w.runner ≡ Some runner
      → DoesWork manifests w kind.Stop (halt_ends answer) (Halt (job_of w runner) answer ∷ [])

-- ---- the entries of a caller

-- the action that an entry begins with its work, if it begins one
abbrev pub begins : Event → Reply → Option (ActKind × Work)
begins (event.Begin k i) (reply.Begun w) = Some (k, w)
begins (event.Pick t) (reply.Stopping w) = Some (kind.Stop, w)
begins _ _ = None

-- whether an event is the end of an action
abbrev pub is_end : Event → Bool
is_end (event.End a end) = true
is_end _ = false

-- whether an end says that a gate failed
abbrev pub is_gate_failure : Finish → Bool
is_gate_failure (finish.Other outcome.GateFailed) = true
is_gate_failure (finish.Other outcome.Killed) = true
is_gate_failure _ = false

-- the count of faults before and after a work: it doesn't fall, and without a question it stays; an
-- end says that a gate failed only where it rose in this very work
pub record Counts (end : Finish) (asked : List GateCall) (before behind : ℕ) : Type 0 where
  pub later : before ≤ behind
  pub still : asked ≡ [] → behind ≡ before
  pub rose : IsTrue (is_gate_failure end) → Rose before behind

-- an entry is the end of that work, for which this was asked, with the count of faults before and
-- after it
abbrev pub IsEndOf : Manifests → ActKind × Work → Entry → List GateCall → ℕ → ℕ → Type 0
IsEndOf manifests b e asked before behind =
    (end : Finish) × (e.event ≡ event.End b.1.action end) × DoesWork manifests b.1 b.0 end asked
    × Counts end asked before behind

-- a caller's entries, in which each work is ended by the next entry and no other entry is an end; with
-- all that its gates were asked for it, in order, and their count of faults
pub data Works (manifests : Manifests) : List Entry → List GateCall → ℕ → ℕ → Type 0 where
  nothing : {faults : ℕ} → Works manifests [] [] faults faults
  passes : {e : Entry} {es : List Entry} {asked : List GateCall} {before behind : ℕ}
      → begins e.event e.reply ≡ None
      → IsFalse (is_end e.event)
      → Works manifests es asked before behind
      → Works manifests (e ∷ es) asked before behind
  ends : {e e' : Entry} {es : List Entry} {b : ActKind × Work} {now later : List GateCall}
      {before between behind : ℕ}
      → begins e.event e.reply ≡ Some b
      → IsEndOf manifests b e' now before between
      → Works manifests es later between behind
      → Works manifests (e ∷ e' ∷ es) (now ++ later) before behind

-- whether an entry is an end that says that a gate failed
abbrev pub tells_failure : Entry → Bool
tells_failure e = elim e.event as (λ _. Bool) [ event.End a end ↦ is_gate_failure end | _ ↦ false ]

-- how many of these entries are ends that say that a gate failed
abbrev pub failures : List Entry → ℕ
failures part = length (filter tells_failure part)

-- the gates did the work of a caller's entries: their log before and after, and their count of faults
pub record WorksWith (manifests : Manifests) (part : List Entry) (log₀ log₁ : Option (List GateCall))
    (faults₀ faults₁ : ℕ) : Type 0 where
  pub asked : List GateCall
  pub works : Works manifests part asked faults₀ faults₁
  pub log : Grew log₀ log₁ asked
  -- so the count rose at least as often as ends say
  pub faults : RoseBy (failures part) faults₀ faults₁
