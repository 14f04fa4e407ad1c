-- Inside.
-- How the turn of `events` is done, which reads the history and tells its length.
use Rattle.std.specs.Prelude.{◌≡◌, ◌⊎◌, ℕ, ◌++◌, [], ◌∷◌, Result, Ok, Err}
use Rattle.cm_world.specs.declared.answer.Answer.{Answer}
use Rattle.cm_world.specs.declared.answer.Refusal.{Refusal}
use Rattle.cm_world.specs.declared.answer.Refusal.TheVariants as refusal
use Rattle.cm_world.specs.declared.event.Event.TheVariants as event
use Rattle.cm_world.specs.declared.reply.Reply.{Reply}
use Rattle.cm_laws.specs.Story.{Story, AddsEntry, entry_of}
use Rattle.cm_steps.specs.Needs.{need}
use Rattle.cm_steps.specs.Requests.{RefusesEvent}
use Rattle.cm_steps.specs.Steps.{RealmHasRoom}
use Rattle.cm_steps.specs.declared.nostep.NoStep.{NoStep}
use Rattle.cm_steps.specs.declared.nostep.NoStep.TheVariants as nostep
use Rattle.cm_manager.specs.Contract.{RealmPass}
use Rattle.cm_manager.specs.Asking.{frame_of}
use Rattle.cm_manager.specs.Streams.{Streams, streamed_by}

-- the realm's step: the entry was made, for which there was room, and the answer is read of the
-- history before it; or the realm is as before, and the refusal is true
abbrev pub StreamsBy : Story → Story → ℕ → ℕ → ℕ → Result (Result Answer Refusal) NoStep → Type 0
StreamsBy old new c i from (Ok a) =
    (r : Reply) × AddsEntry old new c (event.Tail i from) r × RealmHasRoom old (need (event.Tail i from))
    × (a ≡ streamed_by old.frame old.entries from i r)
StreamsBy old new c i from (Err x) = (new ≡ old) × RefusesEvent old (event.Tail i from) x

-- the answer of the turn, or the refusal that it means
abbrev pub answer_in : Result (Result Answer Refusal) NoStep → Result Answer Refusal
answer_in (Ok a) = a
answer_in (Err nostep.HistoryFull) = Err refusal.HistoryFull
answer_in (Err _) = Err refusal.Memory

-- one such turn, with its entry if it made one
abbrev pub StreamedBy : ℕ → ℕ → RealmPass → RealmPass → Result Answer Refusal → Type 0
StreamedBy i from old new a =
    Streams (frame_of old) old.caller from i old.seen new.seen a
    × ((new.mine ≡ old.mine)
    ⊎ ((r : Reply) × (new.mine ≡ old.mine ++ entry_of old.caller (event.Tail i from) r ∷ [])))
