-- The answers that a realm keeps beside its history.
use Rattle.std.proofs.Common.{◌≡◌, ℕ, List, [], ◌∷◌, ◌++◌, Bool, false, true≢false, Some, None, refl, sym, subst}
use Rattle.cm_world.specs.declared.frame.Frame.{Frame}
use Rattle.cm_world.specs.declared.event.Event.{Event}
use Rattle.cm_world.specs.declared.event.Event.TheVariants.{End, Mark, Exited}
use Rattle.cm_world.specs.declared.reply.Entry.{Entry}
use Rattle.cm_world.specs.declared.reply.Reply.{Reply}
use Rattle.cm_world.specs.declared.reply.Reply.TheVariants as reply
use Rattle.cm_world.specs.declared.route.Start.TheVariants.{UseAt}
use Rattle.cm_world.specs.declared.route.Walked.{Walked}
use Rattle.cm_world.specs.World.{World}
use Rattle.cm_world.specs.Route.{IsWalked}
use Rattle.cm_world.specs.AfterInside.{moves}
use Rattle.cm_world.specs.Sound.{IncarnationsIncrease}
use Rattle.cm_laws.specs.Story.{world_of, IsLegal}
use Rattle.cm_laws.proofs.lemmas.sound.Healthy.{trees_stay_sound}
use Rattle.cm_cache.specs.AnswersInside.{kept_at}
use Rattle.cm_cache.specs.Keeping.{asked_by}
use Rattle.cm_cache.specs.Beside.{CacheContents, nothing_held, asked_for, followed, IsReported, IsBeside}
use Rattle.cm_cache.specs.Steps.{may_doom}
use Rattle.cm_cache.proofs.lemmas.histories.Going.{nothing_at_first, beside_is_right, unasked_go_on, asked_go_on}
use Rattle.cm_steps.specs.Inside.{story_of, world_in, LeavesTree}
use Rattle.cm_steps.specs.declared.realm.Realm.TheInside.{Inside}

-- ---- entries

-- what moves nothing dooms nothing
pub quiet_dooms : (event : Event) (r : Reply) → moves event r ≡ false → may_doom event r ≡ false
quiet_dooms (Mark doom i) reply.Marked quiet = absurd (true≢false quiet)
quiet_dooms (End a finish) (reply.Ended o) quiet = absurd (true≢false quiet)
quiet_dooms (Exited i) (reply.Left m) quiet = absurd (true≢false quiet)
quiet_dooms event r quiet = refl

-- the incarnations of the tree rise
pub increasing_in : (a : Inside) → LeavesTree (story_of a) (world_in a) → IncarnationsIncrease a.table.next_inc a.table.rows
unfolding world_of IsLegal
increasing_in a stands =
    subst (λ (w : World). IncarnationsIncrease w.next_inc w.rows) stands.world (trees_stay_sound a.frame a.records.book.entries stands.legal).orderly.increasing

-- ---- what is kept

-- Beside an empty history nothing is held.
pub beside_new : (f : Frame) (entries : List Entry) (h : CacheContents) → entries ≡ [] → h ≡ nothing_held → IsBeside f entries h
beside_new f entries h none held =
    subst (IsBeside f entries) (sym held) (subst (λ es. IsBeside f es nothing_held) (sym none) (nothing_at_first f))

-- Beside an entry more that asks for no use, what is kept is right.
pub goes_beside : (a : Inside) (e : Entry) (doomed : Bool) (entries : List Entry) (h : CacheContents) → LeavesTree (story_of a) (world_in a) → IsBeside a.frame a.records.book.entries a.records.keeper → entries ≡ a.records.book.entries ++ e ∷ [] → asked_by (world_in a) e.event ≡ None → IsReported (world_in a) e doomed → h ≡ followed e.event e.reply doomed a.records.keeper → IsBeside a.frame entries h
unfolding world_of IsLegal
goes_beside a e doomed entries h stands beside more none told held =
    subst (IsBeside a.frame entries) (sym held)
    (subst (λ es. IsBeside a.frame es (followed e.event e.reply doomed a.records.keeper)) (sym more)
    (unasked_go_on a.frame a.records.book.entries e doomed a.records.keeper (trees_stay_sound a.frame a.records.book.entries stands.legal).orderly.increasing
    (subst (λ (w : World). asked_by w e.event ≡ None) (sym stands.world) none)
    (subst (λ (w : World). IsReported w e doomed) (sym stands.world) told) beside))

-- Beside an entry more that asks for a use, with what its walk comes to, what is kept is right.
pub asks_beside : (a : Inside) (e : Entry) (i : ℕ) (path : List ℕ) (v : Walked) (entries : List Entry) (h : CacheContents) → LeavesTree (story_of a) (world_in a) → IsBeside a.frame a.records.book.entries a.records.keeper → entries ≡ a.records.book.entries ++ e ∷ [] → asked_by (world_in a) e.event ≡ Some (record { inc = i; path = path }) → IsWalked a.table.rows a.frame.builtins (UseAt i path) v → h ≡ asked_for i path v a.records.keeper → IsBeside a.frame entries h
unfolding world_of IsLegal
asks_beside a e i path v entries h stands beside more asks walked held =
    subst (IsBeside a.frame entries) (sym held)
    (subst (λ es. IsBeside a.frame es (asked_for i path v a.records.keeper)) (sym more)
    (asked_go_on a.frame a.records.book.entries e i path v a.records.keeper
    (subst (λ (w : World). asked_by w e.event ≡ Some (record { inc = i; path = path })) (sym stands.world) asks)
    (subst (λ (w : World). IsWalked w.rows w.frame.builtins (UseAt i path) v) (sym stands.world) walked) beside))

-- an answer that is kept is that of the walk in the tree as it is
pub right_in : (a : Inside) (i : ℕ) (path : List ℕ) (v : Walked) → LeavesTree (story_of a) (world_in a) → IsBeside a.frame a.records.book.entries a.records.keeper → kept_at a.records.keeper.answers i path ≡ Some v → IsWalked a.table.rows a.frame.builtins (UseAt i path) v
unfolding world_of
right_in a i path v stands beside is =
    subst (λ (w : World). IsWalked w.rows w.frame.builtins (UseAt i path) v) stands.world
    (beside_is_right a.frame a.records.book.entries a.records.keeper i path v beside is)
