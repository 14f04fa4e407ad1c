-- Promised.
-- How actions, their outcomes and the states of instances are written.
use Rattle.std.specs.Prelude.{ℕ, [], ◌++◌, codes, decimal, Bool, true, false}
use Rattle.cm_names.specs.Moniker.{moniker_text}
use Rattle.cm_read.specs.declared.fault.ReadFault.TheVariants.{Bad}
use Rattle.cm_read.specs.Texts.{fault_text}
use Rattle.cm_world.specs.declared.action.ActKind.{ActKind}
use Rattle.cm_world.specs.declared.action.ActKind.TheVariants as act
use Rattle.cm_world.specs.declared.action.FaultNote.{FaultNote}
use Rattle.cm_world.specs.declared.action.Outcome.{Outcome}
use Rattle.cm_world.specs.declared.action.Outcome.TheVariants as outcome
use Rattle.cm_world.specs.declared.happening.HappenKind.{HappenKind}
use Rattle.cm_world.specs.declared.happening.HappenKind.TheVariants as happen
use Rattle.cm_world.specs.declared.happening.Happening.{Happening}
use Rattle.cm_world.specs.declared.report.Kid.{Kid}
use Rattle.cm_world.specs.declared.report.Look.{Look}
use Rattle.cm_world.specs.declared.report.SurveyRow.{SurveyRow}
use Rattle.cm_reply.specs.Lists.{TextBytes, when, when_some}

-- the word for a kind of action
abbrev pub act_word : ActKind → TextBytes
act_word act.Resolve = codes "resolve"
act_word act.Start = codes "start"
act_word act.Stop = codes "stop"

-- a manifest's fault, as `check` writes one that is of no field
abbrev pub note_text : FaultNote → TextBytes
note_text note = fault_text (Bad note.number note.section note.index [])

-- what became of an action, in words
abbrev pub outcome_text : Outcome → TextBytes
outcome_text outcome.Resolved = codes "resolved"
outcome_text outcome.Started = codes "started"
outcome_text outcome.Stopped = codes "stopped"
outcome_text outcome.Killed = codes "killed"
outcome_text outcome.Absent = codes "absent"
outcome_text outcome.BadUrl = codes "bad-url"
outcome_text (outcome.Invalid note) = note_text note
outcome_text outcome.Declined = codes "declined"
outcome_text outcome.GateFailed = codes "gate-failed"
outcome_text outcome.Full = codes "full"
outcome_text outcome.NoMemory = codes "no-memory"

-- an incarnation, after a space and the word for it
abbrev pub incarnation_text : ℕ → TextBytes
incarnation_text inc = codes " incarnation " ++ decimal inc

-- whether an instance is resolved, in a word
abbrev pub resolved_word : Bool → TextBytes
resolved_word true = codes "resolved"
resolved_word false = codes "unresolved"

-- whether an instance's program is on, in a word
abbrev pub on_word : Bool → TextBytes
on_word true = codes " on"
on_word false = codes " off"

-- the action that is pending at an instance, in words
abbrev pub pending_words : ActKind → TextBytes
pending_words kind = codes " pending " ++ act_word kind

-- how an instance is, as `show` writes it
abbrev pub look_text : Look → TextBytes
look_text l =
    resolved_word l.resolved ++ (on_word l.on ++ (when l.closing (codes " closing")
    ++ (when l.shut (codes " shut") ++ when_some pending_words l.pending)))

-- how an instance is, as a survey writes it
abbrev pub survey_text : SurveyRow → TextBytes
survey_text r =
    moniker_text r.moniker ++ (incarnation_text r.inc ++ (codes " " ++ (resolved_word r.resolved
    ++ (on_word r.on ++ when r.shut (codes " shut")))))

-- a child in a collection, as `list` writes it
abbrev pub kid_text : Kid → TextBytes
kid_text k = k.name ++ incarnation_text k.inc

-- the word for what happened, as `events` writes it between the number and the instance
abbrev pub happen_word : HappenKind → TextBytes
happen_word happen.Resolved = codes " resolved "
happen_word happen.Started = codes " started "
happen_word happen.Stopped = codes " stopped "
happen_word happen.Destroyed = codes " destroyed "

-- one thing that happened, as `events` writes it
abbrev pub happening_text : Happening → TextBytes
happening_text h =
    decimal h.number ++ (happen_word h.kind ++ (moniker_text h.moniker ++ incarnation_text h.inc))
