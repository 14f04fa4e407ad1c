-- What a start comes to by its begin, and behind it.
use Rattle.std.proofs.Common.{◌≡◌, ◌≢◌, inl, inr, ℕ, List, [], ◌∷◌, ◌++◌, Bool, ◌||◌, Option, Some, None, Result, Ok, Err, IsFalse, refl, sym, ap, subst, ◌∙◌}
use Rattle.cm_world.specs.declared.action.ActKind.{ActKind}
use Rattle.cm_world.specs.declared.action.ActKind.TheVariants as kind
use Rattle.cm_world.specs.declared.action.Outcome.{Outcome}
use Rattle.cm_world.specs.declared.action.Outcome.TheVariants as outcome
use Rattle.cm_world.specs.declared.answer.Refusal.{Refusal}
use Rattle.cm_world.specs.declared.answer.Refusal.TheVariants as refusal
use Rattle.cm_world.specs.declared.event.Event.TheVariants as event
use Rattle.cm_world.specs.declared.frame.Frame.{Frame}
use Rattle.cm_world.specs.declared.reply.Entry.{Entry}
use Rattle.cm_world.specs.declared.reply.Reply.TheVariants as reply
use Rattle.cm_world.specs.Expiring.{is_stopped}
use Rattle.cm_manager.specs.Turns.{AddsWithinRoom}
use Rattle.cm_answers.specs.Answers.{ends_call}
use Rattle.cm_manager.specs.Runs.{RunsAction, StartsEager, is_started, is_followed}
use Rattle.cm_manager.specs.Acting.{EndsBegun, Joins, StartsBy}
use Rattle.cm_answers.specs.declared.acted.ActionResult.{ActionResult}
use Rattle.cm_answers.specs.declared.acted.ActionResult.TheVariants as acted
use Rattle.cm_manager.specs.declared.began.Launch.{Launch}
use Rattle.cm_manager.specs.declared.began.Launch.TheVariants as launch
use Rattle.cm_manager.proofs.lemmas.calling.Joining.{eagers-split}
use Rattle.cm_manager.proofs.lemmas.left.Closing.{later-self}

-- ---- one begin

-- An action that a caller began and ended, and whose end nothing follows, is a whole run.
pub ended_acts : (f : Frame) (c : ℕ) (k : ActKind) (i n : ℕ) (o : Outcome) (eager : List ℕ) (a b : List Entry) → EndsBegun f c k i n o eager a b → IsFalse (is_followed o) → RunsAction f c k i a b (Ok (acted.Ended k n o))
ended_acts f c k i n o eager a b ends other =
    subst (λ (n : ℕ). RunsAction f c k i a b (Ok (acted.Ended k n o))) (sym ends.action) (RunsAction.ended {finish = ends.finish} ends.asks ends.makes other)

-- An action of another that a caller joined and awaited is a whole run.
pub joined_acts : (f : Frame) (c : ℕ) (k : ActKind) (i n : ℕ) (o : Outcome) (a b : List Entry) → Joins f c k i n o a b → RunsAction f c k i a b (Ok (acted.Ended k n o))
joined_acts f c k i n o a b joins = RunsAction.joined joins.asks joins.makes

-- An outcome that isn't Started hasn't started the row.
pub not_started : (o : Outcome) → o ≢ outcome.Started → IsFalse (is_started o)
not_started outcome.Started other = absurd (other refl)
not_started _ other = refl

-- a resolve is neither a start nor a stop
pub not_a_start : (k : ActKind) → k ≡ kind.Resolve → k ≢ kind.Start
not_a_start k is e = absurd (cc (is, e))

-- A resolve is no stop.
pub not_a_stop : (k : ActKind) → k ≡ kind.Resolve → k ≢ kind.Stop
not_a_stop k is e = absurd (cc (is, e))

-- nothing follows an end that neither starts a row nor has stopped it
pub unfollowed : (o : Outcome) → IsFalse (is_started o) → IsFalse (is_stopped o) → IsFalse (is_followed o)
unfollowed o started stopped = ap (λ (t : Bool). t || is_stopped o) started ∙ stopped

-- who started a row itself goes on with its eager children
pub children_start : (f : Frame) (c i n : ℕ) (eager : List ℕ) (a b : List Entry) → EndsBegun f c kind.Start i n outcome.Started eager a b → StartsBy f c i (launch.Children n eager) a b
children_start f c i n eager a b ends d None rest =
    subst (λ (n : ℕ). RunsAction f c kind.Start i a d (Ok (acted.Ended kind.Start n outcome.Started))) (sym ends.action)
    (RunsAction.started {finish = ends.finish} ends.asks ends.makes (subst (λ (l : List ℕ). StartsEager f c l b d None) (ends.children refl) rest))
children_start f c i n eager a b ends d (Some x) rest =
    RunsAction.started_cut {finish = ends.finish} ends.asks ends.makes (subst (λ (l : List ℕ). StartsEager f c l b d (Some x)) (ends.children refl) rest)

-- a row that is resolved before a start, whatever the start comes to then
pub resolved_start : (f : Frame) (c i j : ℕ) (went : Result ActionResult Refusal) (end : Launch) (a b d e : List Entry) → AddsWithinRoom f c a (event.Begin kind.Start i) (reply.Need j) b → RunsAction f c kind.Resolve j b d went → ends_call went ≡ None → StartsBy f c i end d e → StartsBy f c i end a e
resolved_start f c i j went (launch.Settled then) a b d e asks acts fine starts = RunsAction.resolved_first asks acts fine starts
resolved_start f c i j went (launch.Children n eager) a b d e asks acts fine starts = λ h end rest. RunsAction.resolved_first asks acts fine (starts h end rest)

-- ---- behind a start

-- memory is wanting for the list of the eager children
pub wanting_start : (f : Frame) (c i n : ℕ) (eager : List ℕ) (a b : List Entry) → eager ≢ [] → StartsBy f c i (launch.Children n eager) a b → RunsAction f c kind.Start i a b (Err refusal.Memory)
wanting_start f c i n [] a b some starts = absurd (some refl)
wanting_start f c i n (e ∷ es) a b some starts = starts b (Some refusal.Memory) (StartsEager.cut_at (RunsAction.cut {k = kind.Start} {i = e} (later-self c b)) refl)

-- ---- rows that are left

-- a row's eager children go before the rest
pub children_row : (f : Frame) (c e n : ℕ) (eager es : List ℕ) (a b d : List Entry) (end : Option Refusal) → StartsBy f c e (launch.Children n eager) a b → StartsEager f c (eager ++ es) b d end → StartsEager f c (e ∷ es) a d end
children_row f c e n eager es a b d end starts all =
    elim (eagers-split f c eager es b d end all) [
      | inl s ↦ StartsEager.next_one (starts s.0 None s.1) refl s.2
      | inr s ↦ subst (λ (o : Option Refusal). StartsEager f c (e ∷ es) a d o) (sym s.1) (StartsEager.cut_at (starts d (Some s.0) s.2) refl)
    ]

-- Where memory is wanting for eager children that are there, the starts end for lack of it.
pub wanting_row : (f : Frame) (c e n : ℕ) (eager es : List ℕ) (a b : List Entry) → eager ≢ [] → StartsBy f c e (launch.Children n eager) a b → StartsEager f c (e ∷ es) a b (Some refusal.Memory)
wanting_row f c e n eager es a b some starts = StartsEager.cut_at (wanting_start f c e n eager a b some starts) refl
