-- Inside.
-- What the readers of a journal's line promise: whatever legible text stands there is found, or memory ran
-- out. That nothing else is found is then tested at the whole line, which is written again and compared.
use Rattle.std.specs.Prelude.{◌≡◌, ℕ, ◌<◌, ◌^◌, List, [], ◌++◌, codes, decimal, if◌then◌else◌}
use Rattle.std.specs.Prelude.{Option, Some, None, Result, MatchResult}
use Rattle.std.specs.Str.{bytes_eq}
use Rattle.cm_decl.specs.declared.section.Section.{Section}
use Rattle.cm_decl.specs.declared.section.Section.TheVariants as section
use Rattle.cm_decl.specs.Words.{section_word}
use Rattle.cm_read.specs.declared.fault.ReadFault.{ReadFault}
use Rattle.cm_read.specs.declared.fault.ReadFault.TheVariants as read_fault
use Rattle.cm_world.specs.declared.action.FaultNote.{FaultNote}
use Rattle.cm_world.specs.declared.action.Outcome.{Outcome}
use Rattle.cm_world.specs.declared.action.Outcome.TheVariants as outcome
use Rattle.cm_decl.specs.declared.rows.Give.{Give}
use Rattle.cm_world.specs.declared.event.Event.{Event}
use Rattle.cm_world.specs.declared.event.Event.TheVariants.{Create}
use Rattle.cm_world.specs.declared.event.NewChild.{NewChild}
use Rattle.cm_world.specs.declared.event.Target.{Target}
use Rattle.cm_world.specs.declared.event.Target.TheVariants.{Inc}
use Rattle.cm_command.specs.declared.tokens.WordFault.{WordFault}
use Rattle.cm_command.specs.declared.tokens.WordFault.TheVariants as word_fault
use Rattle.cm_reply.specs.Lists.{TextBytes}
use Rattle.cm_reply.specs.Legible.{IsLegible}
use Rattle.cm_reply.specs.Lines.{asked_text, IsEntryLine}
use Rattle.cm_reply.specs.EventWords.{Told, event_of, told_text}
use Rattle.cm_reply.specs.declared.event_words.EventWord.{EventWord}
use Rattle.cm_reply.specs.declared.entries.JournalLine.{JournalLine}
use Rattle.cm_reply.specs.declared.entry_words.EntryFault.{EntryFault}
use Rattle.cm_reply.specs.declared.entry_words.EntryFault.TheVariants.{NotAnEntry, Memory}
use Rattle.cm_reply.specs.declared.reading.Asked.{Asked}

-- ---- words

-- the result is that value, unless memory ran out
abbrev pub IsOr : {A : Type 0} → Result A EntryFault → A → Type 0
IsOr result a = MatchResult result (λ x. x ≡ a) (λ e. e ≡ Memory)

-- the fault of a journal's line one word of which has this fault
abbrev pub fault_of : WordFault → EntryFault
fault_of (word_fault.Bad n) = NotAnEntry
fault_of word_fault.Memory = Memory

-- the fault of a journal's line the declaration of which has this fault
abbrev pub decl_fault : ReadFault → EntryFault
decl_fault (read_fault.Bad number section index field) = NotAnEntry
decl_fault read_fault.Memory = Memory

-- the outcome of this word; one that tells a manifest's fault isn't a single word
abbrev pub outcome_named : TextBytes → Option Outcome
outcome_named t =
    if bytes_eq t (codes "resolved") then Some outcome.Resolved
    else if bytes_eq t (codes "started") then Some outcome.Started
    else if bytes_eq t (codes "stopped") then Some outcome.Stopped
    else if bytes_eq t (codes "killed") then Some outcome.Killed
    else if bytes_eq t (codes "absent") then Some outcome.Absent
    else if bytes_eq t (codes "bad-url") then Some outcome.BadUrl
    else if bytes_eq t (codes "declined") then Some outcome.Declined
    else if bytes_eq t (codes "gate-failed") then Some outcome.GateFailed
    else if bytes_eq t (codes "full") then Some outcome.Full
    else if bytes_eq t (codes "no-memory") then Some outcome.NoMemory
    else None

-- the outcome is written as a single word
abbrev pub IsPlain : Outcome → Type 0
IsPlain (outcome.Invalid note) = ⊥
IsPlain _ = Unit {0}

-- a manifest's fault, as it is written after the word `invalid`
abbrev pub note_words : FaultNote → TextBytes
note_words note =
    decimal note.number
    ++ (codes " " ++ (section_word note.section ++ (codes " " ++ (decimal note.index ++ []))))

-- the section of a manifest of this word, if there is one
abbrev pub section_named : TextBytes → Option Section
section_named t =
    if bytes_eq t (codes "manifest") then Some section.Manifest
    else if bytes_eq t (codes "program") then Some section.Program
    else if bytes_eq t (codes "children") then Some section.Children
    else if bytes_eq t (codes "collections") then Some section.Collections
    else if bytes_eq t (codes "capabilities") then Some section.Capabilities
    else if bytes_eq t (codes "use") then Some section.Uses
    else if bytes_eq t (codes "offer") then Some section.Offers
    else if bytes_eq t (codes "expose") then Some section.Exposes
    else if bytes_eq t (codes "environments") then Some section.Environments
    else if bytes_eq t (codes "graph") then Some section.Graph
    else None

-- ---- events

-- the reader of this kind of event finds every legible event whose data are written so
abbrev pub FindsEvent : EventWord → TextBytes → Result Event EntryFault → Type 0
FindsEvent v t result = (x : Told v) → IsLegible (event_of v x) → t ≡ told_text v x
    → IsOr result (event_of v x)

-- the event creates a child as the command `create` would, whose parent is named by its incarnation
pub record IsCreatedIn (parent : Target) (child : NewChild) (e : Event) : Type 0 where
  pub inc : ℕ
  pub by_number : parent ≡ Inc inc
  pub event : e ≡ Create inc child

-- ---- what stands before the arrow

-- the number, the caller and the event are such that a journal can tell them
pub record IsAskable (a : Asked) : Type 0 where
  pub of_64_bits : a.number < 2 ^ 64
  pub of_32_bits : a.caller < 2 ^ 32
  pub legible : IsLegible a.event

-- how a number, a caller and an event stand before the arrow of a line
abbrev pub text_of_asked : Asked → TextBytes
text_of_asked a = asked_text a.number a.caller a.event

-- the reader finds a number, caller and event that are written so
abbrev pub FindsAsked : TextBytes → Result Asked EntryFault → Type 0
FindsAsked t result = (a : Asked) → IsAskable a → t ≡ text_of_asked a → IsOr result a

-- the reader found the number, caller and event that are written so, or rightly that there are none
abbrev pub IsAsked : TextBytes → Result Asked EntryFault → Type 0
IsAsked t result =
    MatchResult result (λ a. IsAskable a × (t ≡ text_of_asked a))
    (λ f. f ≡ NotAnEntry → (a : Asked) → IsAskable a → t ≡ text_of_asked a → ⊥)

-- ---- lines

-- these four as one line of a journal
abbrev pub line_of : ℕ → ℕ → Event → TextBytes → JournalLine
line_of number caller event reply =
    record { number = number; caller = caller; event = event; reply = reply }

-- the reader finds the entry that this line tells of
abbrev pub FindsEntry : TextBytes → Result JournalLine EntryFault → Type 0
FindsEntry t result =
    (number caller : ℕ) (event : Event) (reply : TextBytes) → IsEntryLine t number caller event reply
    → IsOr result (line_of number caller event reply)
