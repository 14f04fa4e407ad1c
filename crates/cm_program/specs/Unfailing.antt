-- Inside.
-- What is answered where no gate failed: no failed gate is named, and no stop by force.
use Rattle.std.specs.Prelude.{◌≡◌, ℕ, List, All, Bool, true, false, IsFalse, Result, Ok, Err, Some, slice_get}
use Rattle.cm_io.specs.Outside.{Rose}
use Rattle.cm_world.specs.declared.action.Outcome.{Outcome}
use Rattle.cm_world.specs.declared.action.Outcome.TheVariants as outcome
use Rattle.cm_world.specs.declared.answer.Answer.{Answer}
use Rattle.cm_world.specs.declared.answer.Answer.TheVariants as answer
use Rattle.cm_world.specs.declared.answer.Checked.{Checked}
use Rattle.cm_world.specs.declared.answer.Refusal.{Refusal}
use Rattle.cm_world.specs.declared.answer.Refusal.TheVariants as refusal
use Rattle.cm_world.specs.declared.route.Route.{Route}
use Rattle.cm_lanes.specs.Script.{AnsweredLine}
use Rattle.cm_session.specs.LineOutcome.{done_of}
use Rattle.cm_program.specs.Sessions.{SessionRecord}

-- no gate failed between these two times
abbrev pub AreSound : {G : Type 0} → (G → ℕ) → List G → List G → Type 0
AreSound {G} faults_of gates₀ gates₁ =
    (k : ℕ) (g h : G) → slice_get gates₀ k ≡ Some g → slice_get gates₁ k ≡ Some h
    → Rose (faults_of g) (faults_of h) → ⊥

-- whether an outcome names a failed gate or a stop by force
abbrev pub is_failed : Outcome → Bool
is_failed outcome.GateFailed = true
is_failed outcome.Killed = true
is_failed _ = false

-- the refusal doesn't blame a failed gate
abbrev pub IsUnfailingRefusal : Refusal → Type 0
IsUnfailingRefusal (refusal.CannotResolve action o) = IsFalse (is_failed o)
IsUnfailingRefusal (refusal.CannotStart action o) = IsFalse (is_failed o)
IsUnfailingRefusal _ = Unit {0}

-- the result of a route doesn't blame a failed gate
abbrev pub IsUnfailingFound : Result Route Refusal → Type 0
IsUnfailingFound (Ok route) = Unit {0}
IsUnfailingFound (Err x) = IsUnfailingRefusal x

-- an answer that names no failed gate and no stop by force
abbrev pub IsUnfailingAnswer : Answer → Type 0
IsUnfailingAnswer (answer.Stopped action forced) = IsFalse forced
IsUnfailingAnswer (answer.Doctored lines) = All (λ (c : Checked). IsUnfailingFound c.result) lines
IsUnfailingAnswer _ = Unit {0}

-- the answer to a call, or its refusal, names no failed gate and no stop by force
abbrev pub IsUnfailing : Result Answer Refusal → Type 0
IsUnfailing (Ok a) = IsUnfailingAnswer a
IsUnfailing (Err x) = IsUnfailingRefusal x

-- no answer to a script's lines names a failed gate or a stop by force
abbrev pub AreUnfailing : List (List AnsweredLine) → Type 0
AreUnfailing answered = All (All (λ (a : AnsweredLine). IsUnfailing a.result)) answered

-- no answer to a link's commands names a failed gate or a stop by force
abbrev pub AreUnfailingSats : List SessionRecord → Type 0
AreUnfailingSats sats = All (λ (s : SessionRecord). All (λ d. IsUnfailing d.result) (done_of s.told)) sats
