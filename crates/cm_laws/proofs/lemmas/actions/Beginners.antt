-- Who began an action may end it, and who joined one may await it, whatever others do.
use Rattle.std.proofs.Common.{◌≡◌, ℕ, ◌==◌, List, [], ◌∷◌, ◌++◌, Bool, true, false, true≢false, cond, ◌||◌, ◌&&◌, filter, refl, sym, ◌∙◌, ap, subst, IsTrue}
use Rattle.std.specs.List.{list_any}
use Rattle.std.specs.Cmp.{unsigned_Decides}
use Rattle.std.proofs.lemmas.List.Folds.{list_any-append}
use Rattle.cm_world.specs.declared.action.Join.{Join}
use Rattle.cm_world.specs.declared.action.ActKind.{ActKind}
use Rattle.cm_world.specs.declared.action.Finish.{Finish}
use Rattle.cm_world.specs.declared.event.Event.{Event}
use Rattle.cm_world.specs.declared.event.Event.TheVariants.{Begin, Pick}
use Rattle.cm_world.specs.declared.reply.Reply.{Reply}
use Rattle.cm_world.specs.declared.reply.Reply.TheVariants as reply
use Rattle.cm_world.specs.declared.reply.Entry.{Entry}
use Rattle.cm_world.specs.World.{World, start}
use Rattle.cm_world.specs.Step.{MayEnd, is_join}
use Rattle.cm_world.specs.After.{after}
use Rattle.cm_world.specs.Legal.{replay}
use Rattle.cm_world.proofs.lemmas.trees.Histories.{replay-push}
use Rattle.cm_laws.specs.Story.{Story, world_of, AddsEntry, entry_of}
use Rattle.cm_laws.specs.Laws.{AreOthers, IsJoined, BeginnersMayEnd, JoinersAreJoined, OthersLeaveEnds, OthersLeaveJoins}
use Rattle.cm_laws.specs.ShutdownsInside.{PickersMayEnd}
use Rattle.cm_laws.proofs.lemmas.actions.Numbers.{IsCounted, counted_history}
use Rattle.cm_laws.proofs.lemmas.actions.Begun.{may_end_begun, may_end_picked}
use Rattle.cm_laws.proofs.lemmas.actions.Others.{may_end_stays, join_stays}

-- ---- one step

-- The tree that a realm has behind an entry is the one behind that entry.
pub told_world : (old new : Story) (caller : ℕ) (event : Event) (r : Reply) → AddsEntry old new caller event r → world_of new ≡ after (world_of old) (entry_of caller event r)
unfolding world_of
told_world old new caller event r tells =
    ap (λ f. replay (start f) new.entries) tells.frame
    ∙ ap (replay (start old.frame)) tells.entries
    ∙ replay-push (start old.frame) old.entries (entry_of caller event r)

-- The actions of a story's world are numbered from 1 on.
counted_of : (s : Story) → IsCounted (world_of s)
unfolding world_of
counted_of s = counted_history s.frame s.entries

-- Who began an action may end it next, by any end that fits it.
pub beginners_may_end : BeginnersMayEnd
beginners_may_end old new caller i kind work finish tells fits valid =
    subst (λ (v : World). MayEnd v.acts caller work.action finish) (sym (told_world old new caller (Begin kind i) (reply.Begun work) tells))
    (may_end_begun (world_of old) caller i kind work finish (counted_of old) tells.step.allowed fits valid)

-- who picked an instance to be stopped may end its stop
pub pickers_may_end : PickersMayEnd
pickers_may_end old new caller target work finish tells fits valid =
    subst (λ (v : World). MayEnd v.acts caller work.action finish) (sym (told_world old new caller (Pick target) (reply.Stopping work) tells))
    (may_end_picked (world_of old) caller target work finish (counted_of old) tells.step.allowed fits valid)

-- A join is among some once it was put at the end, where none such was there.
joined_by : (b : Bool) (p : Join → Bool) (x : Join) (xs : List Join) → list_any p xs ≡ b → p x ≡ true → IsTrue (list_any p (cond b xs (xs ++ x ∷ [])))
joined_by true p x xs e hits = e
joined_by false p x xs e hits = list_any-append p xs (x ∷ []) ∙ ap (λ b. b || (p x || false)) e ∙ ap (λ b. b || false) hits

-- The join of a caller and an action tests as such.
itself : (caller a : ℕ) → is_join caller a (record { caller = caller; action = a }) ≡ true
itself caller a = ap (λ b. b && (a == a)) ((unsigned_Decides caller caller).1 refl) ∙ (unsigned_Decides a a).1 refl

-- A caller whose begin was answered by a join is joined to that action.
joined_after : (w : World) (caller i a : ℕ) (kind : ActKind) → IsJoined (after w (entry_of caller (Begin kind i) (reply.Joined a))) caller a
unfolding after
joined_after w caller i a kind =
    joined_by (list_any (is_join caller a) w.joins) (is_join caller a) (record { caller = caller; action = a }) w.joins refl (itself caller a)

-- Who was answered that it joined an action has joined it.
pub joiners_are_joined : JoinersAreJoined
joiners_are_joined old new caller i a kind tells =
    subst (λ (v : World). IsJoined v caller a) (sym (told_world old new caller (Begin kind i) (reply.Joined a) tells))
    (joined_after (world_of old) caller i a kind)

-- ---- what others do

-- Where none of the entries is the caller's, the first is another's, and none behind it is.
differ_by : (n caller : ℕ) (b : Bool) (e : Entry) (rest : List Entry) → (n == caller) ≡ b → cond b (e ∷ rest) rest ≡ [] → (n ≡ caller → ⊥) × (rest ≡ [])
differ_by n caller true e rest test none = absurd (cc)
differ_by n caller false e rest test none = ((λ same. true≢false (sym ((unsigned_Decides n caller).1 same) ∙ test)), none)

-- Where all entries are others', so is the first, and so are those behind it.
first_other : (caller : ℕ) (e : Entry) (es : List Entry) → AreOthers caller (e ∷ es) → (e.caller ≡ caller → ⊥) × AreOthers caller es
first_other caller e es none = differ_by e.caller caller (e.caller == caller) e (filter (λ x. x.caller == caller) es) refl none

-- What other callers do doesn't take a caller its right to end its action.
pub others_leave_ends : OthersLeaveEnds
others_leave_ends w [] caller a finish legal none may = may
others_leave_ends w (e ∷ es) caller a finish legal none may =
    let both : (e.caller ≡ caller → ⊥) × AreOthers caller es = first_other caller e es none in
    others_leave_ends (after w e) es caller a finish legal.1 both.1 (may_end_stays caller a finish w e legal.0 both.0 may)

-- What other callers do leaves the join of this one.
pub others_leave_joins : OthersLeaveJoins
others_leave_joins w [] caller a none mine = mine
others_leave_joins w (e ∷ es) caller a none mine =
    let both : (e.caller ≡ caller → ⊥) × AreOthers caller es = first_other caller e es none in
    others_leave_joins (after w e) es caller a both.1 (join_stays caller a w e both.0 mine)

-- Who may end an action still may after another caller's entry.
pub still_may_end : (old new : Story) (other caller a : ℕ) (event : Event) (r : Reply) (finish : Finish) → AddsEntry old new other event r → (other ≡ caller → ⊥) → MayEnd (world_of old).acts caller a finish → MayEnd (world_of new).acts caller a finish
still_may_end old new other caller a event r finish tells differ may =
    subst (λ (v : World). MayEnd v.acts caller a finish) (sym (told_world old new other event r tells))
    (may_end_stays caller a finish (world_of old) (entry_of other event r) tells.step differ may)

-- An entry of another caller leaves the join of this one.
pub still_joined : (old new : Story) (other caller a : ℕ) (event : Event) (r : Reply) → AddsEntry old new other event r → (other ≡ caller → ⊥) → IsJoined (world_of old) caller a → IsJoined (world_of new) caller a
still_joined old new other caller a event r tells differ mine =
    subst (λ (v : World). IsJoined v caller a) (sym (told_world old new other event r tells))
    (join_stays caller a (world_of old) (entry_of other event r) differ mine)
