-- Lemmas on steps that may be made, and on journals that never begin.
use Rattle.std.proofs.Common.{◌≡◌, ◌⊎◌, inl, inr, ℕ, List, [], ◌∷◌, ◌++◌, false, true≢false, Option, None, is_some, Result, IsTrue, IfErr, Ok, Err, All, refl, sym, subst, ◌∙◌}
use Rattle.std.proofs.lemmas.List.Elements.{All-head, All-tail}
use Rattle.cm_world.specs.declared.event.Event.{Event}
use Rattle.cm_world.specs.declared.event.Event.TheVariants as event
use Rattle.cm_world.specs.declared.reply.Reply.{Reply}
use Rattle.cm_world.specs.Step.{IsEnabled}
use Rattle.cm_world.specs.World.{World}
use Rattle.cm_world.specs.Rows.{is_subtree_shut}
use Rattle.cm_world.specs.Stopping.{CanPick}
use Rattle.cm_laws.specs.Story.{Story, world_of}
use Rattle.cm_command.specs.Scripts.{lines_of}
use Rattle.cm_reply.specs.Lists.{TextBytes}
use Rattle.cm_steps.specs.declared.nostep.NoStep.{NoStep}
use Rattle.cm_steps.specs.declared.nostep.NoStep.TheVariants as nostep
use Rattle.cm_steps.specs.Needs.{need}
use Rattle.cm_steps.specs.Requests.{EventWaitsFor, RefusesEvent}
use Rattle.cm_steps.specs.Steps.{RefusesStep}
use Rattle.cm_audit.specs.Journal.{Stage, before, head, Reads, ReadsAll, journal_line}
use Rattle.cm_audit.specs.Reading.{HasNoJournal, IsAt}

-- ---- steps

-- what has a reply isn't without one
replied : {A : Type 0} (r : Option A) → IsTrue (is_some r) → r ≡ None → ⊥
replied r may none = true≢false (sym may ∙ sym (subst (λ x. false ≡ is_some x) (sym none) refl))

-- An event that may be made waits for no action.
waits_for_none : (w : World) (caller : ℕ) (e : Event) (a : ℕ) → IsEnabled w caller e → EventWaitsFor w e a → ⊥
waits_for_none w caller (event.Begin kind i) a may waits = replied _ may waits.unanswered
waits_for_none w caller (event.Exited i) a may waits = replied _ may waits.unanswered
waits_for_none w caller (event.Pick t) a may waits = by may.1
  where
    by : IsTrue (is_subtree_shut w.rows t) ⊎ CanPick w.rows t → ⊥
    by (inl shut) = true≢false (sym shut ∙ waits.undone)
    by (inr can) = waits.stuck can
waits_for_none w caller _ a may waits = waits

-- So where it isn't made, it isn't for that.
pub refuses_quiet : (s : Story) (caller : ℕ) (e : Event) (why : NoStep) → IsEnabled (world_of s) caller e → RefusesEvent s e why → RefusesStep s (need e) (λ a. ⊥) why
refuses_quiet s caller e (nostep.Busy a) may refused = absurd (waits_for_none (world_of s) caller e a may refused.1)
refuses_quiet s caller e nostep.HistoryFull may refused = refused
refuses_quiet s caller e nostep.Memory may refused = refused

-- The same of a result.
pub quietly : (s : Story) (caller : ℕ) (e : Event) (r : Result Reply NoStep) → IsEnabled (world_of s) caller e → IfErr r (RefusesEvent s e) → IfErr r (RefusesStep s (need e) (λ a. ⊥))
quietly s caller e (Ok reply) may refused = refused
quietly s caller e (Err why) may refused = refuses_quiet s caller e why may refused

-- ---- a journal that never begins

-- Where a line doesn't begin a journal, what comes before one is still to come.
still_before : (x m : Stage) (t : TextBytes) → Reads x t m → x ≡ before → (t ≡ journal_line → ⊥) → m ≡ before
still_before x m t (Reads.skips other) same none = refl
still_before x m t Reads.begins same none = absurd (none refl)
still_before x m t (Reads.builtin b legible) same none = absurd (cc same)
still_before x m t (Reads.root url) same none = absurd (cc same)
still_before x m t (Reads.entry e line step) same none = absurd (cc same)

-- Lines of which none begins a journal lead into none.
leads_nowhere : (ts : List TextBytes) (rest : List TextBytes) (s : Stage) → All (λ (t : TextBytes). t ≡ journal_line → ⊥) (ts ++ rest) → ReadsAll before ts s → s ≡ before
leads_nowhere [] rest s none same = sym same
leads_nowhere (t ∷ ts) rest s none all =
    let P : TextBytes → Type 0 = λ (t : TextBytes). t ≡ journal_line → ⊥ in
    leads_nowhere ts rest s (All-tail P t (ts ++ rest) none)
    (subst (λ (m : Stage). ReadsAll m ts s) (still_before before all.0 t all.1 refl (All-head P t (ts ++ rest) none)) all.2)

-- So the reading of such bytes never stands behind the line `journal`.
pub never_begins : {bytes rest : TextBytes} {n : ℕ} → IsAt bytes n rest (head []) → HasNoJournal bytes → ⊥
never_begins {rest = rest} at none =
    let same : head [] ≡ before = leads_nowhere at.prefix (lines_of rest) (head []) (subst (λ (ls : List TextBytes). All (λ (t : TextBytes). t ≡ journal_line → ⊥) ls) at.lines none) at.reads in
    absurd (cc same)
