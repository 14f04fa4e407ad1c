-- Inside.
-- Gates that answer by a plan, which tests use, as contracts see them.
use Rattle.std.specs.Prelude.{not, ◌≡◌, ◌⊎◌, ℕ, cond, nat_le, nat_eq, Bool, true, false}
use Rattle.std.specs.Prelude.{List, [], ◌∷◌, ◌++◌, length, Option, Some, None}
use Rattle.std.specs.List.{list_any}
use Rattle.std.specs.Str.{bytes_eq}
use Rattle.cm_io.specs.Counts.{one_more}
use Rattle.cm_io.specs.CountsInside.{count_after}
use Rattle.cm_io.specs.Outside.{Rose}
use Rattle.cm_gate.specs.declared.asked.GateCall.{GateCall}
use Rattle.cm_gate.specs.declared.asked.GateCall.TheVariants as asked
use Rattle.cm_gate.specs.declared.asked.Fetched.{Fetched}
use Rattle.cm_gate.specs.declared.asked.Fetched.TheVariants as fetched
use Rattle.cm_gate.specs.declared.asked.Launched.{Launched}
use Rattle.cm_gate.specs.declared.asked.Launched.TheVariants as launched
use Rattle.cm_gate.specs.declared.asked.Halted.{Halted}
use Rattle.cm_gate.specs.declared.asked.Halted.TheVariants as halted
use Rattle.cm_gate.specs.declared.planned.GatePlan.{GatePlan}
use Rattle.cm_gate.specs.declared.planned.Unnoted.{Unnoted}
use Rattle.cm_gate.specs.declared.planned.Unnoted.TheVariants as unnoted
use Rattle.cm_gate.specs.Failures.{is_failure}
use Rattle.cm_gate.specs.Manifests.{manifest_at}

-- planned gates between two calls: the plan, the log, and what was counted
pub record GatePlanAtWork : Type 0 where
  pub plan : GatePlan
  -- the questions that were noted, with their answers
  pub noted : List GateCall
  -- whether these are all
  pub told : Bool
  -- how many calls were made, and how many of them failed
  pub calls : ℕ
  pub faults : ℕ
  -- for how many of them memory was too short to be noted
  pub short : ℕ

-- planned gates before the first call
abbrev pub not_yet_asked : GatePlan → GatePlanAtWork
not_yet_asked plan = record { plan = plan; noted = []; told = true; calls = 0; faults = 0; short = 0 }

-- whether a URL is one of these
abbrev pub is_among : List ℕ → List (List ℕ) → Bool
is_among url urls = list_any (λ other. bytes_eq other url) urls

-- whether the next call is planned to fail
abbrev pub fails_next : GatePlanAtWork → Bool
fails_next g = list_any (λ call. nat_eq call g.calls) g.plan.failing

-- whether the log has no room for one more call
abbrev pub is_full : GatePlanAtWork → Bool
is_full g = nat_le g.plan.room (length g.noted)

-- the answer that is planned for a fetch of this URL
abbrev pub planned_fetch : GatePlanAtWork → List ℕ → Fetched
planned_fetch g url = cond (fails_next g) fetched.Failed (manifest_at url g.plan.manifests)

-- the answer that is planned for a launch of this component
abbrev pub planned_launch : GatePlanAtWork → List ℕ → Launched
planned_launch g url =
    cond (fails_next g) launched.Failed
    (cond (is_among url g.plan.declined) launched.Declined launched.Running)

-- the answer that is planned for a halt
abbrev pub planned_halt : GatePlanAtWork → Halted
planned_halt g = cond (fails_next g) halted.Failed halted.Stopped

-- the log, where it is told
abbrev pub told_log : GatePlanAtWork → Option (List GateCall)
told_log g = cond g.told (Some g.noted) None

-- why a call isn't noted in the log: it is full; or it isn't, and memory ran out
abbrev pub Causes : Bool → Unnoted → Type 0
Causes full unnoted.NoRoom = full ≡ true
Causes full unnoted.Memory = full ≡ false

-- the call was noted in the log, where there was room
abbrev pub Notes : GatePlanAtWork → GatePlanAtWork → GateCall → Type 0
Notes old new question = (is_full old ≡ false) × (new ≡ record old { noted = old.noted ++ question ∷ [] })

-- the gates with one more call counted, and its failure
abbrev pub counted : Bool → GatePlanAtWork → GatePlanAtWork
counted failed g = record g { calls = one_more g.calls; faults = count_after failed g.faults }

-- the answer of a call that isn't noted: a failure where the log is full; else lack of memory, which a
-- launch and a halt tell as a failure
abbrev pub IsUnnoted : Bool → GateCall → Type 0
IsUnnoted full (asked.Fetch what answer) =
    ((full ≡ true) × (answer ≡ fetched.Failed)) ⊎ ((full ≡ false) × (answer ≡ fetched.Memory))
IsUnnoted full (asked.Launch job answer) = answer ≡ launched.Failed
IsUnnoted full (asked.Halt job answer) = answer ≡ halted.Failed

-- the call isn't noted, so the log isn't told any more; lack of memory is counted
abbrev pub Loses : GatePlanAtWork → GatePlanAtWork → GateCall → Type 0
Loses old new question =
    IsUnnoted (is_full old) question
    × (new ≡ record old { told = false; short = count_after (not (is_full old)) old.short })

-- the log is told as before, unless it was full or memory ran out
abbrev pub StaysTold : GatePlanAtWork → GatePlanAtWork → Type 0
StaysTold old new = (new.told ≡ old.told) ⊎ ((is_full old ≡ true) ⊎ Rose old.short new.short)

-- what a call leaves: it is counted, and noted in the log, or the log isn't told any more
abbrev pub LeavesGates : GatePlanAtWork → GatePlanAtWork → GateCall → Type 0
LeavesGates old new question =
    let called = counted (is_failure question) old in Notes called new question ⊎ Loses called new question
