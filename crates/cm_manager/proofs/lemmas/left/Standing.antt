-- What a caller has left open in what it has seen is open in a later history too.
use Rattle.std.proofs.Common.{◌≡◌, ◌==◌, ℕ, List, [], ◌∷◌, ◌++◌, drop, sym, refl, ap, subst, ◌∙◌, IsTrue}
use Rattle.std.proofs.lemmas.List.Elements.{filter-append}
use Rattle.cm_world.specs.declared.action.ActKind.{ActKind}
use Rattle.cm_world.specs.declared.action.Finish.{Finish}
use Rattle.cm_world.specs.declared.action.Work.{Work}
use Rattle.cm_world.specs.declared.event.Event.{Event}
use Rattle.cm_world.specs.declared.event.Event.TheVariants.{Begin}
use Rattle.cm_world.specs.declared.frame.Frame.{Frame}
use Rattle.cm_world.specs.declared.reply.Entry.{Entry}
use Rattle.cm_world.specs.declared.reply.Reply.{Reply}
use Rattle.cm_world.specs.declared.reply.Reply.TheVariants as reply
use Rattle.cm_world.specs.World.{World, start}
use Rattle.cm_world.specs.End.{fits_kind, HasValid}
use Rattle.cm_world.specs.Step.{MayEnd}
use Rattle.cm_world.specs.Legal.{Legal, IsStep, replay}
use Rattle.cm_world.proofs.lemmas.trees.Histories.{Legal-split, replay-append}
use Rattle.cm_laws.specs.Story.{world_of, AddsEntry, entry_of}
use Rattle.cm_laws.specs.Laws.{IsJoined}
use Rattle.cm_laws.proofs.lemmas.actions.Beginners.{beginners_may_end, joiners_are_joined, others_leave_ends, others_leave_joins}
use Rattle.cm_manager.specs.Turns.{world_after, own_entries, IsLaterHistory, AddsOneEntry, AddsWithinRoom}

-- behind what was seen, a later history has entries of others alone
pub rest_of_others : (c : ℕ) (seen found : List Entry) → (l : IsLaterHistory c seen found) → own_entries c l.grows.0 ≡ []
rest_of_others c seen found l =
    append-cancel (own_entries c seen) (own_entries c l.grows.0)
    (sym (filter-append (λ (y : Entry). y.caller == c) seen l.grows.0) ∙ ap (own_entries c) (sym l.grows.1) ∙ l.own) where
      append-cancel : (xs ys : List Entry) → xs ++ ys ≡ xs → ys ≡ []
      append-cancel [] ys e = e
      append-cancel (x ∷ xs) ys e = append-cancel xs ys (ap (λ (l : List Entry). drop 1 l) e)

-- the tree of a later history is that of what was seen, with the entries that came since
grown : (f : Frame) (c : ℕ) (seen found : List Entry) → (l : IsLaterHistory c seen found) → world_after f found ≡ replay (world_after f seen) l.grows.0
grown f c seen found l = ap (replay (start f)) l.grows.1 ∙ replay-append (start f) seen l.grows.0

-- An end that a caller may make after what it has seen may also be made after a later history.
pub ends_later : (f : Frame) (c a : ℕ) (end : Finish) (seen found : List Entry) → Legal (start f) found → IsLaterHistory c seen found → MayEnd (world_after f seen).acts c a end → MayEnd (world_after f found).acts c a end
ends_later f c a end seen found legal l may =
    let both = Legal-split (start f) seen l.grows.0 (subst (Legal (start f)) l.grows.1 legal) in
    subst (λ (w : World). MayEnd w.acts c a end) (sym (grown f c seen found l))
    (others_leave_ends (world_after f seen) l.grows.0 c a end both.1 (rest_of_others c seen found l) may)

-- An action that a caller has joined in what it has seen is joined in a later history too.
pub joins_later : (f : Frame) (c a : ℕ) (seen found : List Entry) → IsLaterHistory c seen found → IsJoined (world_after f seen) c a → IsJoined (world_after f found) c a
joins_later f c a seen found l joined =
    subst (λ (w : World). IsJoined w c a) (sym (grown f c seen found l))
    (others_leave_joins (world_after f seen) l.grows.0 c a (rest_of_others c seen found l) joined)

-- ---- behind a begin

-- the last entry of a legal history is a step of the tree before it
pub last_step : (f : Frame) (c : ℕ) (old : List Entry) (e : Event) (r : Reply) (new : List Entry) → Legal (start f) new → (m : AddsOneEntry c old e r new) → IsStep (world_after f m.found) (entry_of c e r)
last_step f c old e r new legal m = (Legal-split (start f) m.found (entry_of c e r ∷ []) (subst (Legal (start f)) m.entries legal)).1.0

-- One entry more of a caller, in a legal history, is a step of the realm that has the history before it.
pub told : (f : Frame) (c : ℕ) (old : List Entry) (e : Event) (r : Reply) (new : List Entry) → Legal (start f) new → (m : AddsOneEntry c old e r new) → AddsEntry (record { frame = f; entries = m.found }) (record { frame = f; entries = new }) c e r
unfolding world_of
told f c old e r new legal m = record { entries = m.entries; frame = refl; step = last_step f c old e r new legal m }

-- who has begun an action may end it by any end that fits it
pub begun_ends : (f : Frame) (c : ℕ) (k : ActKind) (i : ℕ) (old new : List Entry) (work : Work) (end : Finish) → Legal (start f) new → AddsWithinRoom f c old (Begin k i) (reply.Begun work) new → IsTrue (fits_kind k end) → HasValid end → MayEnd (world_after f new).acts c work.action end
unfolding world_of
begun_ends f c k i old new work end legal asks fits valid =
    beginners_may_end (record { frame = f; entries = asks.made.found }) (record { frame = f; entries = new }) c i k work end (told f c old (Begin k i) (reply.Begun work) new legal asks.made) fits valid

-- who has joined an action may await it
pub joined_awaits : (f : Frame) (c : ℕ) (k : ActKind) (i a : ℕ) (old new : List Entry) → Legal (start f) new → AddsWithinRoom f c old (Begin k i) (reply.Joined a) new → IsJoined (world_after f new) c a
unfolding world_of
joined_awaits f c k i a old new legal asks =
    joiners_are_joined (record { frame = f; entries = asks.made.found }) (record { frame = f; entries = new }) c i a k (told f c old (Begin k i) (reply.Joined a) new legal asks.made)
