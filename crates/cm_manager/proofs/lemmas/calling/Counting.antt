-- How often the count of faults rose over the works of a part.
use Rattle.std.proofs.Common.{◌≡◌, ℕ, ◌+◌, ◌≤◌, List, [], ◌∷◌, length, filter, Bool, true, false, IsFalse, Option, Some, None, if◌then◌else◌, refl, sym, ap, subst, ◌∙◌, arith}
use Rattle.std.proofs.Math.Nat.{le_refl}
use Rattle.cm_world.specs.declared.action.ActKind.{ActKind}
use Rattle.cm_world.specs.declared.action.Finish.{Finish}
use Rattle.cm_world.specs.declared.action.Work.{Work}
use Rattle.cm_world.specs.declared.event.Event.{Event}
use Rattle.cm_world.specs.declared.event.Event.TheVariants as event
use Rattle.cm_world.specs.declared.reply.Entry.{Entry}
use Rattle.cm_world.specs.declared.reply.Reply.{Reply}
use Rattle.cm_gate.specs.declared.asked.GateCall.{GateCall}
use Rattle.cm_gate.specs.Logs.{Grew, RoseBy}
use Rattle.cm_gate.proofs.lemmas.Logs.{rose_nothing, rose_trans}
use Rattle.cm_manager.specs.Work.{begins, Manifests, Counts, Works, nothing, passes, ends, is_end, is_gate_failure, tells_failure, failures, WorksWith}

-- How many failures of a gate there are: one where it failed, otherwise none.
failures_of : Bool → ℕ
failures_of true = 1
failures_of false = 0

-- how often an entry and those behind it tell of a failure
failures_cons : (b : Bool) (e : Entry) (es : List Entry) → tells_failure e ≡ b → failures (e ∷ es) ≡ failures_of b + failures es
unfolding failures_of
failures_cons true e es is = let h : failures (e ∷ es) ≡ length (e ∷ filter tells_failure es) = ap (λ (b : Bool). length (if b then e ∷ filter tells_failure es else filter tells_failure es)) is in grind (arith, h)
failures_cons false e es is = let h : failures (e ∷ es) ≡ length (filter tells_failure es) = ap (λ (b : Bool). length (if b then e ∷ filter tells_failure es else filter tells_failure es)) is in grind (arith, h)

-- an entry that is no end tells of none
untold : (c : ℕ) (e : Event) (r : Reply) → IsFalse (is_end e) → tells_failure (record { caller = c; event = e; reply = r }) ≡ false
untold c (event.End a end) r apart = absurd (cc apart)
untold c _ r apart = refl

-- An event that begins an action ends none.
begun_apart : (e : Event) (r : Reply) (b : ActKind × Work) → begins e r ≡ Some b → IsFalse (is_end e)
begun_apart (event.End a end) r b is = absurd (cc is)
begun_apart _ r b is = refl

-- an end tells of one where it says so
end_told : (e : Entry) (a : ℕ) (end : Finish) → e.event ≡ event.End a end → tells_failure e ≡ is_gate_failure end
end_told e a end is = ap (λ (v : Event). elim v as (λ _. Bool) [ event.End a end ↦ is_gate_failure end | _ ↦ false ]) is

-- The count of faults over a work rose as often as its end says that a gate failed.
counts_rise : (b : Bool) (end : Finish) (asked : List GateCall) (n m : ℕ) → is_gate_failure end ≡ b → Counts end asked n m → RoseBy (failures_of b) n m
unfolding failures_of
counts_rise true end asked n m is counts = counts.rose is
counts_rise false end asked n m is counts = rose_nothing n m counts.later

-- Over a caller's works the count of faults rises at least as often as ends tell of a failed gate.
pub works_rise : (manifests : Manifests) (part : List Entry) (asked : List GateCall) {n m : ℕ} → Works manifests part asked n m → RoseBy (failures part) n m
unfolding failures_of
works_rise manifests part asked {n} {m} nothing = rose_nothing n n (le_refl n)
works_rise manifests part asked {n} {m} (passes {e = e} {es = es} is apart rest) =
    subst (λ (k : ℕ). RoseBy k n m) (sym (failures_cons false e es (untold e.caller e.event e.reply apart)))
    (rose_trans (failures_of false) (failures es) n n m (rose_nothing n n (le_refl n)) (works_rise manifests es asked rest))
works_rise manifests part asked {n} {m} (ends {e = e} {e' = e'} {es = es} {b = b} {now = now} {later = later} {between = k} is end rest) =
    let fails = is_gate_failure end.0 in
    subst (λ (k : ℕ). RoseBy k n m) (sym (failures_cons false e (e' ∷ es) (untold e.caller e.event e.reply (begun_apart e.event e.reply b is))))
    (rose_trans (failures_of false) (failures (e' ∷ es)) n n m (rose_nothing n n (le_refl n))
    (subst (λ (k : ℕ). RoseBy k n m) (sym (failures_cons fails e' es (end_told e' b.1.action end.0 end.1)))
    (rose_trans (failures_of fails) (failures es) n k m (counts_rise fails end.0 now n k refl end.3) (works_rise manifests es later rest))))

-- the works of a part, with its log
pub works_with : (manifests : Manifests) (part : List Entry) (log₀ log₁ : Option (List GateCall)) (n m : ℕ) (asked : List GateCall) → Works manifests part asked n m → Grew log₀ log₁ asked → WorksWith manifests part log₀ log₁ n m
works_with manifests part log₀ log₁ n m asked works log = record { asked = asked; works = works; log = log; faults = works_rise manifests part asked works }
