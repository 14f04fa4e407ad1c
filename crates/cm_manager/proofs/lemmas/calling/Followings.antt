-- Calls with one event, behind whose reply something follows.
use Rattle.std.proofs.Common.{◌≡◌, ℕ, List, Bool, true, false, Option, Some, None, Result, Ok, Err, IsTrue, refl, sym, subst, ◌∙◌}
use Rattle.cm_world.specs.declared.answer.Refusal.{Refusal}
use Rattle.cm_world.specs.declared.frame.Frame.{Frame}
use Rattle.cm_world.specs.declared.reply.Entry.{Entry}
use Rattle.cm_world.specs.declared.reply.Reply.{Reply}
use Rattle.cm_world.specs.declared.reply.Reply.TheVariants as reply
use Rattle.cm_world.specs.Expiring.{runs_once}
use Rattle.cm_answers.specs.declared.question.Follow.TheVariants as next
use Rattle.cm_steps.specs.declared.request.Request.{Request}
use Rattle.cm_steps.specs.declared.request.Request.TheVariants as request
use Rattle.cm_manager.specs.Turns.{IsLaterHistory, world_after}
use Rattle.cm_answers.specs.AnswersInside.{created_in, has_left}
use Rattle.cm_manager.specs.Calls.{CallWay, Then, OnceCreated, SweptLeft}
use Rattle.cm_answers.specs.Questions.{started_for, swept_for, follow_of}
use Rattle.cm_manager.specs.Questions.{FollowsBy}
use Rattle.cm_manager.specs.Runs.{StartsSingleRun}
use Rattle.cm_manager.specs.Sweeps.{Sweeps}
use Rattle.cm_manager.specs.Asking.{frame_of}
use Rattle.cm_manager.specs.Contract.{RealmPass, GatesView, IsSamePass, IsSubcall}
use Rattle.cm_manager.specs.Work.{Manifests}
use Rattle.cm_manager.proofs.lemmas.calling.Helping.{helps_nothing}

-- what follows, in a frame and for a caller
abbrev pub Follow : Type 1
Follow = Frame → ℕ → ℕ → Reply → CallWay (Option Refusal)

-- ---- a create

-- Nothing follows a create that made no child.
pub none_created : (f : Frame) (c i : ℕ) (went : Result Reply Refusal) (h : List Entry) → created_in went ≡ None → Then (OnceCreated f c i) went h h None
none_created f c i (Err x) h none = (refl, refl)
none_created f c i (Ok (reply.Created j)) h none = absurd (cc none)
none_created f c i (Ok _) h none = (refl, refl)

-- What follows a create that made a child is its start, where its collection runs it once.
pub one_created : (f : Frame) (c i j : ℕ) (went : Result Reply Refusal) (end : Option Refusal) (x y : List Entry) → created_in went ≡ Some j → StartsSingleRun f c j x y end → Then (OnceCreated f c i) went x y end
one_created f c i j (Err z) end x y one it = absurd (cc one)
one_created f c i j (Ok (reply.Created k)) end x y one it =
    subst (λ (n : ℕ). StartsSingleRun f c n x y end) (let same : j ≡ k = cc one in same) it
one_created f c i j (Ok _) end x y one it = absurd (cc one)

-- the caller looks whether a child runs once
abbrev pub Looks : ℕ → Frame → ℕ → List Entry → List Entry → Type 0
Looks i f c a b = IsLaterHistory c a b × IsTrue (runs_once (world_after f b).rows i)

-- Where a created child doesn't run once, nothing is done behind it.
pub not_once : (manifests : Manifests) (i : ℕ) (once : Bool) (p q : RealmPass) (g : GatesView) → IsSamePass (frame_of p) p q → IsLaterHistory p.caller p.seen q.seen → q.mine ≡ p.mine → once ≡ runs_once (world_after (frame_of p) q.seen).rows i → once ≡ false → IsSubcall manifests (frame_of p) (λ a b. StartsSingleRun (frame_of p) p.caller i a b None) p q g g
not_once manifests i once p q g same later mine by is =
    helps_nothing manifests (frame_of p) (λ a b. StartsSingleRun (frame_of p) p.caller i a b None) p q g same (StartsSingleRun.not_once later (sym by ∙ is)) mine

-- ---- an exit

-- Nothing follows an exit that didn't find the program on.
pub none_left : (f : Frame) (c i : ℕ) (went : Result Reply Refusal) (h : List Entry) → has_left went ≡ false → Then (SweptLeft f c i) went h h None
none_left f c i (Err x) h none = (refl, refl)
none_left f c i (Ok (reply.Left m)) h none = absurd (cc none)
none_left f c i (Ok _) h none = (refl, refl)

-- What follows an exit that found the program on is the sweep of its row.
pub one_left : (f : Frame) (c i : ℕ) (went : Result Reply Refusal) (end : Option Refusal) (x y : List Entry) → has_left went ≡ true → Sweeps f c i x y end → Then (SweptLeft f c i) went x y end
one_left f c i (Err z) end x y one it = absurd (cc one)
one_left f c i (Ok (reply.Left m)) end x y one it = it
one_left f c i (Ok _) end x y one it = absurd (cc one)

-- ---- a request

-- Where nothing is to follow a create, it made no child.
no_start : (o : Option ℕ) → started_for o ≡ next.Nothing → o ≡ None
no_start None is = refl
no_start (Some i) is = absurd (cc is)

-- Where a start is to follow a create, it is that of the child that it made.
some_start : (o : Option ℕ) (j : ℕ) → started_for o ≡ next.Start j → o ≡ Some j
some_start None j is = absurd (cc is)
some_start (Some i) j is = cc is

-- Where nothing is to follow an exit, it didn't find the program on.
no_sweep : (i : ℕ) (b : Bool) → swept_for i b ≡ next.Nothing → b ≡ false
no_sweep i true is = absurd (cc is)
no_sweep i false is = refl

-- Where a sweep is to follow an exit, it found the program on, and the row is its own.
some_sweep : (i j : ℕ) (b : Bool) → swept_for i b ≡ next.Sweep j → (b ≡ true) × (i ≡ j)
some_sweep i j true is = (refl, cc is)
some_sweep i j false is = absurd (cc is)

-- What follows a create is no sweep.
start_not_sweep : (o : Option ℕ) (j : ℕ) → started_for o ≡ next.Sweep j → ⊥
start_not_sweep None j is = cc is
start_not_sweep (Some i) j is = cc is

-- What follows an exit is no start.
sweep_not_start : (i j : ℕ) (b : Bool) → swept_for i b ≡ next.Start j → ⊥
sweep_not_start i j true is = cc is
sweep_not_start i j false is = cc is

-- Where nothing follows a reply, what follows is done without an entry.
pub no_follow : (f : Frame) (c : ℕ) (r : Request) (i : ℕ) (went : Result Reply Refusal) (h : List Entry) → follow_of r i went ≡ next.Nothing → Then (FollowsBy f c r i) went h h None
no_follow f c (request.Create coll name url gives) i went h is = none_created f c i went h (no_start (created_in went) is)
no_follow f c request.Exited i went h is = none_left f c i went h (no_sweep i (has_left went) is)
no_follow f c _ i (Ok r) h is = (refl, refl)
no_follow f c _ i (Err x) h is = (refl, refl)

-- a child was created, and is started where it runs once
pub start_follows : (f : Frame) (c : ℕ) (r : Request) (i j : ℕ) (went : Result Reply Refusal) (end : Option Refusal) (x y : List Entry) → follow_of r i went ≡ next.Start j → StartsSingleRun f c j x y end → Then (FollowsBy f c r i) went x y end
start_follows f c (request.Create coll name url gives) i j went end x y is it = one_created f c i j went end x y (some_start (created_in went) j is) it
start_follows f c request.Exited i j went end x y is it = absurd (sweep_not_start i j (has_left went) is)
start_follows f c _ i j went end x y is it = absurd (cc is)

-- an instance has ended by itself, and what went with it is removed
pub sweep_follows : (f : Frame) (c : ℕ) (r : Request) (i j : ℕ) (went : Result Reply Refusal) (end : Option Refusal) (x y : List Entry) → follow_of r i went ≡ next.Sweep j → Sweeps f c j x y end → Then (FollowsBy f c r i) went x y end
sweep_follows f c (request.Create coll name url gives) i j went end x y is it = absurd (start_not_sweep (created_in went) j is)
sweep_follows f c request.Exited i j went end x y is it =
    let left = some_sweep i j (has_left went) is in
    one_left f c i went end x y left.0 (subst (λ (n : ℕ). Sweeps f c n x y end) (sym left.1) it)
sweep_follows f c _ i j went end x y is it = absurd (cc is)
