-- Where no gate's count rose no end of an action says that one failed, and no one who awaits an end is told so.
use Rattle.std.proofs.Common.{◌≡◌, ℕ, ◌+◌, ◌-◌, ◌^◌, ◌<◌, ◌≤◌, min, List, [], ◌∷◌, ◌++◌, length, filter, Bool, true, false, if◌then◌else◌, Option, Some, All, IsFalse, zero, suc, append_assoc, refl, sym, ap, subst, ◌∙◌, arith}
use Rattle.std.proofs.lemmas.List.Elements.{All-append, All-cons, All-head, All-nil, All-tail}
use Rattle.cm_io.specs.Outside.{Rose}
use Rattle.cm_world.specs.declared.action.Finish.{Finish}
use Rattle.cm_world.specs.declared.action.Finish.TheVariants as finish
use Rattle.cm_world.specs.declared.action.Outcome.{Outcome}
use Rattle.cm_world.specs.declared.action.Outcome.TheVariants as outcome
use Rattle.cm_world.specs.declared.event.Event.{Event}
use Rattle.cm_world.specs.declared.event.Event.TheVariants as event
use Rattle.cm_world.specs.declared.frame.Frame.{Frame}
use Rattle.cm_world.specs.declared.reply.Entry.{Entry}
use Rattle.cm_world.specs.declared.reply.Reply.{Reply}
use Rattle.cm_world.specs.declared.reply.Reply.TheVariants as reply
use Rattle.cm_world.specs.World.{World, start}
use Rattle.cm_world.specs.Legal.{Legal}
use Rattle.cm_world.specs.After.{after}
use Rattle.cm_world.specs.Step.{Allowed}
use Rattle.cm_world.specs.End.{outcome_by}
use Rattle.cm_gate.specs.declared.asked.GateCall.{GateCall}
use Rattle.cm_gate.specs.Logs.{RoseBy}
use Rattle.cm_laws.specs.Lasting.{HasOneOutcome, KeepsOutcomes, awaited_by, ended_by}
use Rattle.cm_manager.specs.Turns.{own_entries}
use Rattle.cm_manager.specs.Work.{Manifests, WorksWith, failures, is_gate_failure, tells_failure}
use Rattle.cm_journal.proofs.lemmas.Made.{of_all_by}
use Rattle.cm_program.specs.Headline.{WorksEach}
use Rattle.cm_program.specs.Unfailing.{AreSound, is_failed}
use Rattle.cm_program.proofs.lemmas.lanes.Histories.{some_of}

-- ---- a part whose gates didn't fail

-- nothing passes a test that leaves none
none_step : {A : Type 0} (p : A → Bool) (x : A) (xs : List A) (b : Bool) → p x ≡ b → length (filter p (x ∷ xs)) ≡ 0 → (length (filter p xs) ≡ 0 → All (λ x. IsFalse (p x)) xs) → All (λ x. IsFalse (p x)) (x ∷ xs)
none_step p x xs true is none rest = absurd (let h : length (x ∷ filter p xs) ≡ 0 = ap (λ (b : Bool). length (if b then x ∷ filter p xs else filter p xs)) (sym is) ∙ none in cc h)
none_step p x xs false is none rest =
    All-cons (λ x. IsFalse (p x)) x xs is (rest (ap (λ (b : Bool). length (if b then x ∷ filter p xs else filter p xs)) (sym is) ∙ none))

-- Where a test leaves nothing, no item of the list passes it.
none_passes : {A : Type 0} (p : A → Bool) (xs : List A) → length (filter p xs) ≡ 0 → All (λ x. IsFalse (p x)) xs
none_passes p [] none = All-nil (λ x. IsFalse (p x))
none_passes p (x ∷ xs) none = none_step p x xs (p x) refl none (none_passes p xs)

-- A count that rose one or more times rose once.
one_of : (n a b end : ℕ) → min (a + suc n) end ≤ b → min (a + 1) end ≤ b
one_of n a b end h = grind (arith, h)

-- a count that rose as often as there were failures, and didn't rise, met none
none_failed : (n before now : ℕ) → RoseBy n before now → (Rose before now → ⊥) → n ≡ 0
none_failed zero before now often sound = refl
none_failed (suc n) before now often sound = absurd (sound (one_of n before now (2 ^ 64 - 1) often))

-- An entry that is no end which says that a gate failed.
abbrev pub TellsNone : Entry → Type 0
TellsNone e = IsFalse (tells_failure e)

-- A part whose gates' count didn't rise tells of no failure.
part_tells_none : (manifests : Manifests) (part : List Entry) (log₀ log₁ : Option (List GateCall)) (n m : ℕ) → WorksWith manifests part log₀ log₁ n m → (Rose n m → ⊥) → All TellsNone part
part_tells_none manifests part log₀ log₁ n m works sound = none_passes tells_failure part (none_failed (failures part) n m works.faults sound)

-- ---- all lanes

module _ {G : Type 0} (log_of : G → Option (List GateCall)) (faults_of : G → ℕ) where
  -- Where no gate's count of faults rose, no entry of the history says that a gate failed.
  pub history_tells_none : (manifests : Manifests) (history : List Entry) (gates₀ gates₁ : List G) → length gates₀ ≡ 16 → length gates₁ ≡ 16 → All (λ (e : Entry). e.caller < 16) history → WorksEach log_of faults_of manifests history gates₀ gates₁ → AreSound faults_of gates₀ gates₁ → All TellsNone history
  history_tells_none manifests history gates₀ gates₁ sixteen₀ sixteen₁ few works sound = of_all_by TellsNone history few each
    where
      each : (c : ℕ) → c < 16 → All TellsNone (own_entries c history)
      each c small =
          let g = some_of gates₀ c (subst (λ (n : ℕ). c < n) (sym sixteen₀) small) in
          let h = some_of gates₁ c (subst (λ (n : ℕ). c < n) (sym sixteen₁) small) in
          part_tells_none manifests (own_entries c history) (log_of g.0) (log_of h.0) (faults_of g.0) (faults_of h.0)
          (works c g.0 h.0 g.1 h.1) (sound c g.0 h.0 g.1 h.1)

-- ---- the replies to ends and awaits

-- a reply that tells no failed outcome
abbrev pub IsWell : Reply → Type 0
IsWell (reply.Ended o) = IsFalse (is_failed o)
IsWell _ = Unit {0}

-- the reply to an end or to an await tells none
abbrev pub EndsWell : Event → Reply → Type 0
EndsWell (event.End a finish) r = IsWell r
EndsWell (event.Await a) r = IsWell r
EndsWell _ r = Unit {0}

-- An entry whose reply, if it is an end or an await, tells no failed outcome.
abbrev pub OfEnds : Entry → Type 0
OfEnds e = EndsWell e.event e.reply

-- A resolution, full or not, isn't a failed outcome.
full_or_not : (b : Bool) → IsFalse (is_failed (if b then outcome.Resolved else outcome.Full))
full_or_not true = refl
full_or_not false = refl

-- An outcome that is no gate's failure hasn't failed.
outcome_well : (o : Outcome) → IsFalse (is_gate_failure (finish.Other o)) → IsFalse (is_failed o)
outcome_well outcome.GateFailed h = absurd (cc h)
outcome_well outcome.Killed h = absurd (cc h)
outcome_well _ h = refl

-- The outcome of an end that is no gate's failure hasn't failed.
end_well : (w : World) (f : Finish) → IsFalse (is_gate_failure f) → IsFalse (is_failed (outcome_by w.frame.limits.rows w.rows w.next_inc f))
end_well w (finish.Resolved url d) h = full_or_not _
end_well w (finish.Other o) h = outcome_well o h

-- the reply to an end, in the tree that allows it
ends_told : (w : World) (c : ℕ) (v : Event) (r : Reply) → Allowed w c v r → (a : ℕ) → ended_by v ≡ Some a → IsFalse (elim v as (λ _. Bool) [ event.End a end ↦ is_gate_failure end | _ ↦ false ]) → IsWell r
ends_told w c (event.End a f) r allowed b is h = subst IsWell (sym allowed) (end_well w f h)
ends_told w c _ r allowed b is h = absurd (cc is)

-- The entry's reply, where its event ends an action, tells no failed outcome.
abbrev EndTold : Entry → Type 0
EndTold e = (a : ℕ) → ended_by e.event ≡ Some a → IsWell e.reply

-- In a legal history that tells of no failure, all ends are told no failed outcome.
all_ends_told : (w : World) (es : List Entry) → Legal w es → All TellsNone es → All EndTold es
all_ends_told w [] legal none = All-nil EndTold
all_ends_told w (e ∷ es) legal none =
    All-cons EndTold e es
    (λ a is. ends_told w e.caller e.event e.reply legal.0.allowed a is (All-head TellsNone e es none))
    (all_ends_told (after w e) es legal.1 (All-tail TellsNone e es none))

-- An entry that fits the entries before it, which are told none, is told no failed outcome.
one_told : (prefix : List Entry) (e : Entry) → KeepsOutcomes prefix e → All EndTold prefix → EndTold e → OfEnds e
one_told prefix e keeps before own = by e.event refl
  where
    by : (v : Event) → e.event ≡ v → EndsWell v e.reply
    by (event.End a f) is = own a (ap ended_by is)
    by (event.Await a) is =
        let awaited = keeps.awaits_end a (ap awaited_by is) in
        let x = awaited.ended in
        let told : EndTold x.entry = subst EndTold x.there.2 (before x.there.0 x.entry x.there.1) in
        subst IsWell (sym awaited.replied) (subst IsWell x.replied (told a x.ends))
    by _ is = tt

-- In a history of one outcome per action, who awaits an end is told no failed outcome.
awaits_told : (whole prefix es : List Entry) → whole ≡ prefix ++ es → HasOneOutcome whole → All EndTold prefix → All EndTold es → All OfEnds es
awaits_told whole prefix [] is one before behind = All-nil OfEnds
awaits_told whole prefix (e ∷ es) is one before behind =
    let own = All-head EndTold e es behind in
    All-cons OfEnds e es (one_told prefix e (one prefix es e is) before own)
    (awaits_told whole (prefix ++ e ∷ []) es (is ∙ sym (append_assoc prefix (e ∷ []) es)) one
    (All-append EndTold prefix (e ∷ []) before (All-cons EndTold e [] own (All-nil EndTold))) (All-tail EndTold e es behind))

-- whoever asks for the outcome of an action is told none that failed
pub ends_well : (f : Frame) (history : List Entry) → Legal (start f) history → HasOneOutcome history → All TellsNone history → All OfEnds history
ends_well f history legal one none = awaits_told history [] history refl one (All-nil EndTold) (all_ends_told (start f) history legal none)
