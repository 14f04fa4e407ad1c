-- Which ends of actions end a call that needed them.
use Rattle.std.proofs.Common.{◌≡◌, ◌≢◌, ℕ, Bool, true, false, not, Option, Some, None, is_some, refl, sym, ap, ◌∙◌}
use Rattle.cm_world.specs.declared.action.ActKind.{ActKind}
use Rattle.cm_world.specs.declared.action.ActKind.TheVariants as kind
use Rattle.cm_world.specs.declared.action.Outcome.{Outcome}
use Rattle.cm_world.specs.declared.action.Outcome.TheVariants as outcome
use Rattle.cm_world.specs.declared.answer.Refusal.{Refusal}
use Rattle.cm_world.specs.declared.answer.Refusal.TheVariants as refusal
use Rattle.cm_answers.specs.Answers.{failure}
use Rattle.cm_answers.specs.AnswersInside.{is_well}

-- what can't be done, where it isn't for lack of memory
abbrev pub cannot : ActKind → ℕ → Outcome → Refusal
cannot kind.Resolve a o = refusal.CannotResolve a o
cannot _ a o = refusal.CannotStart a o

-- an outcome that is neither a good one nor lack of memory
pub fails_so : (k : ActKind) (a : ℕ) (o : Outcome) → o ≢ outcome.Resolved → o ≢ outcome.Started → o ≢ outcome.Stopped → o ≢ outcome.Killed → o ≢ outcome.NoMemory → failure k a o ≡ Some (cannot k a o)
fails_so k a outcome.Resolved resolved started stopped killed memory = absurd (resolved refl)
fails_so k a outcome.Started resolved started stopped killed memory = absurd (started refl)
fails_so k a outcome.Stopped resolved started stopped killed memory = absurd (stopped refl)
fails_so k a outcome.Killed resolved started stopped killed memory = absurd (killed refl)
fails_so k a outcome.NoMemory resolved started stopped killed memory = absurd (memory refl)
fails_so kind.Resolve a _ resolved started stopped killed memory = refl
fails_so kind.Start a _ resolved started stopped killed memory = refl
fails_so kind.Stop a _ resolved started stopped killed memory = refl

-- what isn't a resolve is told as a start
pub cannot_start : (k : ActKind) (a : ℕ) (o : Outcome) → k ≢ kind.Resolve → cannot k a o ≡ refusal.CannotStart a o
cannot_start kind.Resolve a o other = absurd (other refl)
cannot_start kind.Start a o other = refl
cannot_start kind.Stop a o other = refl

-- Where there is a refusal, it is some refusal.
some_of : (o : Option Refusal) → is_some o ≡ true → (x : Refusal) × (o ≡ Some x)
some_of (Some x) is = (x, refl)
some_of None is = absurd (cc is)

-- The end of an action fails the call that needed it exactly where its outcome isn't well.
fails_unless : (k : ActKind) (a : ℕ) (o : Outcome) → is_some (failure k a o) ≡ not (is_well o)
fails_unless k a outcome.Resolved = refl
fails_unless k a outcome.Started = refl
fails_unless k a outcome.Stopped = refl
fails_unless k a outcome.Killed = refl
fails_unless k a outcome.NoMemory = refl
fails_unless kind.Resolve a _ = refl
fails_unless kind.Start a _ = refl
fails_unless kind.Stop a _ = refl

-- Where an action doesn't end well, there is a refusal for the call that needed it.
pub failure_by : (k : ActKind) (a : ℕ) (o : Outcome) (well : Bool) → well ≡ is_well o → well ≡ false → (x : Refusal) × (failure k a o ≡ Some x)
failure_by k a o well is ill = some_of (failure k a o) (fails_unless k a o ∙ ap not (sym is ∙ ill))
