-- What a history tells of instances, whose monikers are of names.
use Rattle.std.proofs.Common.{◌≡◌, ◌⊎◌, inl, inr, ℕ, ◌+◌, ◌-◌, ◌==◌, List, [], ◌∷◌, take, Option, Some, None, All, sym, subst}
use Rattle.std.specs.Prelude.{IfSome, filter_map, slice_get}
use Rattle.std.specs.List.{flat_map, range_with_len}
use Rattle.std.proofs.lemmas.Option.{slice_get_cases}
use Rattle.std.proofs.lemmas.List.Elements.{All-cons, All-append, All-nil, All-filter, All-take}
use Rattle.cm_names.specs.declared.moniker.Moniker.{Moniker}
use Rattle.cm_facts.proofs.Lists.{All_map, All_filter_map}
use Rattle.cm_world.specs.declared.action.Work.{Work}
use Rattle.cm_world.specs.declared.event.Event.{Event}
use Rattle.cm_world.specs.declared.event.Event.TheVariants as event
use Rattle.cm_world.specs.declared.happening.HappenKind.{HappenKind}
use Rattle.cm_world.specs.declared.happening.HappenKind.TheVariants as happen
use Rattle.cm_world.specs.declared.happening.Happening.{Happening}
use Rattle.cm_world.specs.declared.reply.Entry.{Entry}
use Rattle.cm_world.specs.declared.reply.Reply.{Reply}
use Rattle.cm_world.specs.declared.reply.Reply.TheVariants as reply
use Rattle.cm_world.specs.declared.report.Lost.{Lost}
use Rattle.cm_events.specs.Stream.{begun_by, work_of, kind_of, happening, destroyed, told_of, told_by, told_behind, is_within, stream}
use Rattle.cm_reply.specs.LegibleInside.{IsOfNames}
use Rattle.cm_legible.specs.Tellable.{IsNamedReply}
use Rattle.cm_legible.proofs.lemmas.Lists.{find-All}
use Rattle.cm_journal.specs.Said.{OfReplies}

-- The monikers in the entry's reply are of names.
abbrev OfReply : Entry → Type 0
OfReply e = IsNamedReply e.reply

-- The moniker of the work is of names.
abbrev OfWork : Work → Type 0
OfWork w = IsOfNames w.moniker

-- The moniker of what happened is made of names.
abbrev pub OfHappening : Happening → Type 0
OfHappening x = IsOfNames x.moniker

-- ---- lists

-- What holds of all that a function gives holds of what it gives together over a list.
flat_map-All : {A B : Type 0} (Q : B → Type 0) (f : A → List B) → ((x : A) → All Q (f x)) → (xs : List A) → All Q (flat_map f xs)
flat_map-All Q f each [] = All-nil Q
flat_map-All Q f each (x ∷ xs) = All-append Q (f x) (flat_map f xs) (each x) (flat_map-All Q f each xs)

-- What holds of all items holds of the one at a place, if there is one.
slice-All : {A : Type 0} (P : A → Type 0) (xs : List A) (k : ℕ) → All P xs → IfSome (slice_get xs k) P
slice-All P xs k h = elim (slice_get_cases xs k).1 as (λ _. IfSome (slice_get xs k) P) [
  | inl it ↦ subst (λ o. IfSome o P) (sym it.2) (subst P it.3 (h k it.0 it.1))
  | inr it ↦ subst (λ o. IfSome o P) (sym it.1) tt
]

-- ---- works

-- The work that a reply of names begins, if it begins one, has a moniker of names.
begun_is : (r : Reply) → IsNamedReply r → IfSome (begun_by r) OfWork
begun_is (reply.Begun work) h = h
begun_is (reply.Stopping work) h = h
begun_is r h = tt

-- The work of an action in a history of replies of names has a moniker of names.
work_is : (es : List Entry) (a : ℕ) → OfReplies es → IfSome (work_of es a) OfWork
work_is es a h =
    find-All OfWork (λ w. w.action == a) (filter_map (λ e. begun_by e.reply) es) (All_filter_map OfReply OfWork (λ e. begun_by e.reply) es (λ e k. begun_is e.reply k) h)

-- ---- what an entry tells

-- One happening at a moniker of names is of names.
one_is : (n : ℕ) (k : HappenKind) (m : Moniker) (i : ℕ) → IsOfNames m → All OfHappening (happening n k m i ∷ [])
one_is n k m i h = All-cons OfHappening (happening n k m i) [] h (All-nil OfHappening)

-- What is told of an action's end, if anything, is of names.
ended_is : (n : ℕ) (o : Option HappenKind) (w : Option Work) → IfSome w OfWork → All OfHappening (told_of n o w)
ended_is n (Some k) (Some w) h = one_is n k w.moniker w.inc h
ended_is n (Some k) None h = All-nil OfHappening
ended_is n None w h = All-nil OfHappening

-- What is told of an event and its reply is of names, where the reply and the works are.
told_is : (works : ℕ → Option Work) (n : ℕ) (e : Event) (r : Reply) → ((a : ℕ) → IfSome (works a) OfWork) → IsNamedReply r → All OfHappening (told_by works n e r)
told_is works n (event.End a finish) (reply.Ended o) are h = ended_is n (kind_of o) (works a) (are a)
told_is works n (event.Exited i) (reply.Left m) are h = one_is n happen.Stopped m i h
told_is works n e (reply.Purged lost) are h = All_map (λ (l : Lost). IsOfNames l.moniker) OfHappening (destroyed n) lost (λ l k. k) h
told_is works n e r are h = All-nil OfHappening

-- What is told of a history behind a place is of names, where its replies are.
behind_is : (h : List Entry) (k : ℕ) → OfReplies h → All OfHappening (told_behind h k)
behind_is h k all = by (slice_get h k) (slice-All OfReply h k all)
  where
    by : (o : Option Entry) → IfSome o OfReply → All OfHappening (elim o as (λ _. List Happening) [ None ↦ [] | Some e ↦ told_by (work_of (take k h)) (k + 1) e.event e.reply ])
    by None it = All-nil OfHappening
    by (Some e) it = told_is (work_of (take k h)) (k + 1) e.event e.reply (λ a. work_is (take k h) a (All-take OfReply k h all)) it

-- ---- the stream

-- All that the stream of a history tells has monikers of names, where the history's replies have.
pub stream_is : (h : List Entry) (from n : ℕ) (scope : Moniker) → OfReplies h → All OfHappening (stream h from n scope)
stream_is h from n scope all =
    All-filter (is_within scope) OfHappening (flat_map (told_behind h) (range_with_len from (n - from)))
    (flat_map-All OfHappening (told_behind h) (λ k. behind_is h k all) (range_with_len from (n - from)))
