-- What the turns of a begin come to.
use Rattle.std.proofs.Common.{◌≡◌, ◌≢◌, ℕ, List, Bool, true, false, Ok, Err, IsTrue, IsFalse, if◌then◌else◌, length, refl, sym, subst}
use Rattle.cm_world.specs.declared.row.Row.{Row}
use Rattle.cm_world.specs.declared.action.ActKind.{ActKind}
use Rattle.cm_world.specs.declared.action.ActKind.TheVariants as kind
use Rattle.cm_world.specs.declared.action.Finish.{Finish}
use Rattle.cm_world.specs.declared.action.Finish.TheVariants as finish
use Rattle.cm_world.specs.declared.action.Outcome.{Outcome}
use Rattle.cm_world.specs.declared.action.Outcome.TheVariants as outcome
use Rattle.cm_world.specs.declared.action.Work.{Work}
use Rattle.cm_world.specs.declared.answer.Refusal.{Refusal}
use Rattle.cm_world.specs.declared.event.Event.TheVariants as event
use Rattle.cm_world.specs.declared.frame.Frame.{Frame}
use Rattle.cm_world.specs.declared.reply.Entry.{Entry}
use Rattle.cm_world.specs.declared.reply.Reply.{Reply}
use Rattle.cm_world.specs.declared.reply.Reply.TheVariants as reply
use Rattle.cm_world.specs.World.{start, rows_fit}
use Rattle.cm_world.specs.End.{fits_kind, outcome_by}
use Rattle.cm_world.specs.Step.{MayEnd}
use Rattle.cm_world.specs.Legal.{Legal}
use Rattle.cm_laws.specs.Laws.{IsJoined}
use Rattle.cm_manager.specs.Turns.{AddsOneEntry, AddsWithinRoom, world_after}
use Rattle.cm_world.specs.Expiring.{is_stopped}
use Rattle.cm_manager.specs.Runs.{is_started}
use Rattle.cm_manager.specs.Acting.{BeginRun}
use Rattle.cm_manager.specs.Asking.{RecordsEvent, RecordsOutcome, frame_of}
use Rattle.cm_manager.specs.Contract.{RealmPass, GatesView, IsSamePass, IsSubcall}
use Rattle.cm_manager.specs.Doing.{Did, FitsAction}
use Rattle.cm_manager.specs.Work.{Manifests}
use Rattle.cm_manager.specs.declared.began.Began.TheVariants as began
use Rattle.cm_manager.proofs.lemmas.onward.BeginReplies.{is_begin_reply, begin_replies, start_needs, quiet_by}
use Rattle.cm_manager.proofs.lemmas.left.Closing.{quiet-begins}
use Rattle.cm_manager.proofs.lemmas.calling.Helping.{helps_acted, helps_joined, helps_nothing, helps_plain}
use Rattle.cm_manager.proofs.lemmas.onward.Onward.{by_first, frame_kept}
use Rattle.cm_manager.proofs.lemmas.left.Standing.{last_step, begun_ends, joined_awaits}

-- ---- replies

-- the reply of a begin is one that it may get
begin_of : (f : Frame) (c : ℕ) (k : ActKind) (i : ℕ) (r : Reply) (old new : List Entry) → Legal (start f) new → AddsWithinRoom f c old (event.Begin k i) r new → IsTrue (is_begin_reply k r)
begin_of f c k i r old new legal asks =
    let w = world_after f asks.made.found in
    begin_replies w.rows w.next_action k i r (last_step f c old (event.Begin k i) r new legal asks.made).allowed

-- ---- ends

-- A resolution, full or not, isn't a start.
full_or_not : (b : Bool) → IsFalse (is_started (if b then outcome.Resolved else outcome.Full))
full_or_not true = refl
full_or_not false = refl

-- only a start ends in Started
apart_end : (k : ActKind) (end : Finish) (limit : ℕ) (rows : List Row) (next : ℕ) → IsTrue (fits_kind k end) → k ≢ kind.Start → IsFalse (is_started (outcome_by limit rows next end))
apart_end kind.Start end limit rows next fits apart = absurd (apart refl)
apart_end kind.Resolve (finish.Resolved url d) limit rows next fits apart = full_or_not (rows_fit limit rows next (length d.children))
apart_end kind.Resolve (finish.Other outcome.Started) limit rows next fits apart = absurd (cc fits)
apart_end kind.Resolve (finish.Other _) limit rows next fits apart = refl
apart_end kind.Stop (finish.Resolved url d) limit rows next fits apart = full_or_not (rows_fit limit rows next (length d.children))
apart_end kind.Stop (finish.Other outcome.Started) limit rows next fits apart = absurd (cc fits)
apart_end kind.Stop (finish.Other _) limit rows next fits apart = refl

-- A resolution, full or not, isn't a stop.
unstopped_or_not : (b : Bool) → IsFalse (is_stopped (if b then outcome.Resolved else outcome.Full))
unstopped_or_not true = refl
unstopped_or_not false = refl

-- only a stop has stopped the row
unstopped_end : (k : ActKind) (end : Finish) (limit : ℕ) (rows : List Row) (next : ℕ) → IsTrue (fits_kind k end) → k ≢ kind.Stop → IsFalse (is_stopped (outcome_by limit rows next end))
unstopped_end kind.Stop end limit rows next fits apart = absurd (apart refl)
unstopped_end k (finish.Resolved url d) limit rows next fits apart = unstopped_or_not (rows_fit limit rows next (length d.children))
unstopped_end kind.Resolve (finish.Other outcome.Stopped) limit rows next fits apart = absurd (cc fits)
unstopped_end kind.Resolve (finish.Other outcome.Killed) limit rows next fits apart = absurd (cc fits)
unstopped_end kind.Resolve (finish.Other _) limit rows next fits apart = refl
unstopped_end kind.Start (finish.Other outcome.Stopped) limit rows next fits apart = absurd (cc fits)
unstopped_end kind.Start (finish.Other outcome.Killed) limit rows next fits apart = absurd (cc fits)
unstopped_end kind.Start (finish.Other _) limit rows next fits apart = refl

-- An end that fits a stop has the outcome of one that stopped.
stopped_end : (end : Finish) (limit : ℕ) (rows : List Row) (next : ℕ) → IsTrue (fits_kind kind.Stop end) → IsTrue (is_stopped (outcome_by limit rows next end))
stopped_end (finish.Other outcome.Stopped) limit rows next fits = refl
stopped_end (finish.Other outcome.Killed) limit rows next fits = refl
stopped_end _ limit rows next fits = absurd (cc fits)

-- Replies that an action ended are the same only with the same outcome.
same_outcome : (o p : Outcome) → reply.Ended o ≡ reply.Ended p → o ≡ p
same_outcome o p e = cc e

-- The end of an action that is no start doesn't tell that its instance was started.
apart_by : (f : Frame) (c a : ℕ) (k : ActKind) (end : Finish) (o : Outcome) (old new : List Entry) → Legal (start f) new → AddsOneEntry c old (event.End a end) (reply.Ended o) new → IsTrue (fits_kind k end) → k ≢ kind.Start → IsFalse (is_started o)
apart_by f c a k end o old new legal makes fits apart =
    let w = world_after f makes.found in
    let by = outcome_by w.frame.limits.rows w.rows w.next_inc end in
    subst (λ (o : Outcome). IsFalse (is_started o)) (sym (same_outcome o by (last_step f c old (event.End a end) (reply.Ended o) new legal makes).allowed))
    (apart_end k end w.frame.limits.rows w.rows w.next_inc fits apart)

-- what an end comes to has what its definition has
ended_as : (P : Outcome → Type 0) (f : Frame) (c a : ℕ) (end : Finish) (o : Outcome) (old new : List Entry) → Legal (start f) new → (makes : AddsOneEntry c old (event.End a end) (reply.Ended o) new) → P (outcome_by (world_after f makes.found).frame.limits.rows (world_after f makes.found).rows (world_after f makes.found).next_inc end) → P o
ended_as P f c a end o old new legal makes it =
    let w = world_after f makes.found in
    subst P (sym (same_outcome o (outcome_by w.frame.limits.rows w.rows w.next_inc end) (last_step f c old (event.End a end) (reply.Ended o) new legal makes).allowed)) it

-- The end of an action that is no stop doesn't tell that its instance was stopped.
unstopped_by : (f : Frame) (c a : ℕ) (k : ActKind) (end : Finish) (o : Outcome) (old new : List Entry) → Legal (start f) new → AddsOneEntry c old (event.End a end) (reply.Ended o) new → IsTrue (fits_kind k end) → k ≢ kind.Stop → IsFalse (is_stopped o)
unstopped_by f c a k end o old new legal makes fits apart =
    ended_as (λ (o : Outcome). IsFalse (is_stopped o)) f c a end o old new legal makes (unstopped_end k end _ _ _ fits apart)

-- The end of a stop tells that its instance was stopped.
stopped_by : (f : Frame) (c a : ℕ) (k : ActKind) (end : Finish) (o : Outcome) (old new : List Entry) → Legal (start f) new → AddsOneEntry c old (event.End a end) (reply.Ended o) new → IsTrue (fits_kind k end) → k ≡ kind.Stop → IsTrue (is_stopped o)
stopped_by f c a k end o old new legal makes fits is =
    ended_as (λ (o : Outcome). IsTrue (is_stopped o)) f c a end o old new legal makes (stopped_end end _ _ _ (subst (λ (k : ActKind). IsTrue (fits_kind k end)) is fits))

-- ---- the conditions of the second turn

-- A caller whose begin was answered with work may end that action, with an end that fits.
pub begun_may : (k : ActKind) (i : ℕ) (w : Work) (end : Finish) (p q : RealmPass) → IsSamePass (frame_of p) p q → RecordsEvent (event.Begin k i) p q (Ok (reply.Begun w)) → FitsAction k end → MayEnd (world_after (frame_of q) q.seen).acts q.caller w.action end
begun_may k i w end p q same asked fits =
    by_first (λ f c. MayEnd (world_after f q.seen).acts c w.action end) q p (sym same.frame) (sym same.caller)
    (begun_ends (frame_of p) p.caller k i p.seen q.seen w end same.legal asked.0 fits.fitting fits.valid)

-- A caller whose begin was answered with a join has joined that action.
pub joined_may : (k : ActKind) (i a : ℕ) (p q : RealmPass) → IsSamePass (frame_of p) p q → RecordsEvent (event.Begin k i) p q (Ok (reply.Joined a)) → IsJoined (world_after (frame_of q) q.seen) q.caller a
joined_may k i a p q same asked =
    by_first (λ f c. IsJoined (world_after f q.seen) c a) q p (sym same.frame) (sym same.caller)
    (joined_awaits (frame_of p) p.caller k i a p.seen q.seen same.legal asked.0)

-- ---- helps

-- A pass that is the same one as a second, which is the same as a third, is that third.
behind : (p q r : RealmPass) → IsSamePass (frame_of p) p q → IsSamePass (frame_of q) q r → IsSamePass (frame_of p) q r
behind p q r first second = subst (λ (f : Frame). IsSamePass f q r) (frame_kept p q first.frame) second

-- A begin that was answered with work, which was done and ended, is a part of a call.
pub begun_help : (manifests : Manifests) (k : ActKind) (i : ℕ) (w : Work) (end : Finish) (o : Outcome) (eager : List ℕ) (p q r : RealmPass) (g h : GatesView) → IsSamePass (frame_of p) p q → RecordsEvent (event.Begin k i) p q (Ok (reply.Begun w)) → Did manifests w k end g h → FitsAction k end → (k ≡ kind.Start → eager ≡ w.eager) → IsSamePass (frame_of q) q r → RecordsOutcome q r (event.End w.action end) o → IsSubcall manifests (frame_of p) (λ a b. BeginRun (frame_of p) p.caller k i (Ok (began.Ended w.action o eager)) a b) p r g h
begun_help manifests k i w end o eager p q r g h first asked did fits children second told =
    let f = frame_of p in
    let c = p.caller in
    let last = behind p q r first second in
    let makes = subst (λ (c : ℕ). AddsOneEntry c q.seen (event.End w.action end) (reply.Ended o) r.seen) first.caller told.makes in
    helps_acted manifests f (λ a b. BeginRun f c k i (Ok (began.Ended w.action o eager)) a b) p q r g h (event.Begin k i) (reply.Begun w) k w end o refl first last
    (record {
      work = w;
      finish = end;
      h₁ = q.seen;
      asks = asked.0;
      makes = makes;
      action = refl;
      children = children;
      apart = apart_by f c w.action k end o q.seen r.seen last.legal makes fits.fitting;
      unstopped = unstopped_by f c w.action k end o q.seen r.seen last.legal makes fits.fitting;
      whole = stopped_by f c w.action k end o q.seen r.seen last.legal makes fits.fitting;
    })
    asked.1 told.mine did

-- A begin that was answered with a join, whose end was awaited, is a part of a call.
pub joined_help : (manifests : Manifests) (k : ActKind) (i n : ℕ) (o : Outcome) (p q r : RealmPass) (g : GatesView) → IsSamePass (frame_of p) p q → RecordsEvent (event.Begin k i) p q (Ok (reply.Joined n)) → IsSamePass (frame_of q) q r → RecordsOutcome q r (event.Await n) o → IsSubcall manifests (frame_of p) (λ a b. BeginRun (frame_of p) p.caller k i (Ok (began.Joined n o)) a b) p r g g
joined_help manifests k i n o p q r g first asked second told =
    let f = frame_of p in
    let c = p.caller in
    helps_joined manifests f (λ a b. BeginRun f c k i (Ok (began.Joined n o)) a b) p q r g k i n o first (behind p q r first second)
    (record {
      h₁ = q.seen;
      asks = asked.0;
      makes = subst (λ (c : ℕ). AddsOneEntry c q.seen (event.Await n) (reply.Ended o) r.seen) first.caller told.makes;
    })
    asked.1 told.mine

-- A begin that was answered with the need of a row is a part of a call.
pub needs_help : (manifests : Manifests) (k : ActKind) (i j : ℕ) (p q : RealmPass) (g : GatesView) → IsSamePass (frame_of p) p q → RecordsEvent (event.Begin k i) p q (Ok (reply.Need j)) → IsSubcall manifests (frame_of p) (λ a b. BeginRun (frame_of p) p.caller k i (Ok (began.Needs j)) a b) p q g g
needs_help manifests k i j p q g same asked =
    let f = frame_of p in
    let c = p.caller in
    helps_plain manifests f (λ a b. BeginRun f c k i (Ok (began.Needs j)) a b) p q g (event.Begin k i) (reply.Need j) refl refl refl same
    (asked.0, start_needs k j (begin_of f c k i (reply.Need j) p.seen q.seen same.legal asked.0)) asked.1

-- A begin whose reply is no work, no join and no need is a part of a call that found nothing to begin.
pub quiet_help : (manifests : Manifests) (k : ActKind) (i : ℕ) (r : Reply) (p q : RealmPass) (g : GatesView) → IsSamePass (frame_of p) p q → RecordsEvent (event.Begin k i) p q (Ok r) → ((w : Work) → r ≢ reply.Begun w) → ((n : ℕ) → r ≢ reply.Joined n) → ((j : ℕ) → r ≢ reply.Need j) → IsSubcall manifests (frame_of p) (λ a b. BeginRun (frame_of p) p.caller k i (Ok (began.Quiet r)) a b) p q g g
quiet_help manifests k i r p q g same asked begun joined need =
    let f = frame_of p in
    let c = p.caller in
    let quiet = quiet_by k r (begin_of f c k i r p.seen q.seen same.legal asked.0) begun joined need in
    helps_plain manifests f (λ a b. BeginRun f c k i (Ok (began.Quiet r)) a b) p q g (event.Begin k i) r refl (quiet-begins k i r quiet).0 (quiet-begins k i r quiet).1 same
    (asked.0, quiet) asked.1

-- A begin that was refused its entry is a part of a call that ends there.
pub cut_help : (manifests : Manifests) (k : ActKind) (i : ℕ) (x : Refusal) (p q : RealmPass) (g : GatesView) → IsSamePass (frame_of p) p q → RecordsEvent (event.Begin k i) p q (Err x) → IsSubcall manifests (frame_of p) (λ a b. BeginRun (frame_of p) p.caller k i (Err x) a b) p q g g
cut_help manifests k i x p q g same asked =
    helps_nothing manifests (frame_of p) (λ a b. BeginRun (frame_of p) p.caller k i (Err x) a b) p q g same asked.0 asked.1
