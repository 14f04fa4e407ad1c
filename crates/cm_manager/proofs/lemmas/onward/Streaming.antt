-- What a turn comes to that reads the history and tells its length.
use Rattle.std.proofs.Common.{◌≡◌, ◌⊎◌, inl, inr, ℕ, ◌+◌, ◌<◌, List, [], ◌∷◌, ◌++◌, length, Bool, true, false, true≢false, cond, Option, Some, None, Result, Ok, Err, refl, sym, ap, subst, ◌∙◌, append-nil, arith}
use Rattle.cm_names.specs.declared.moniker.Moniker.{Moniker}
use Rattle.cm_world.specs.declared.answer.Answer.{Answer}
use Rattle.cm_world.specs.declared.answer.Answer.TheVariants as answer
use Rattle.cm_world.specs.declared.answer.Refusal.{Refusal}
use Rattle.cm_world.specs.declared.happening.Happening.{Happening}
use Rattle.cm_world.specs.declared.event.Event.{Event}
use Rattle.cm_world.specs.declared.event.Event.TheVariants as event
use Rattle.cm_world.specs.declared.event.Event.TheVariants.{Begin, End, Await, Create, Mark, Pick, Purge, Exited}
use Rattle.cm_world.specs.declared.frame.Frame.{Frame}
use Rattle.cm_world.specs.declared.row.Row.{Row}
use Rattle.cm_world.specs.declared.reply.Entry.{Entry}
use Rattle.cm_world.specs.declared.reply.Reply.{Reply}
use Rattle.cm_world.specs.declared.reply.Reply.TheVariants as reply
use Rattle.cm_world.specs.declared.action.Act.{Act}
use Rattle.cm_world.specs.declared.action.Finish.{Finish}
use Rattle.cm_world.specs.declared.action.Outcome.{Outcome}
use Rattle.cm_world.specs.World.{World, start, act_of}
use Rattle.cm_world.specs.Rows.{is_gone, moniker_of}
use Rattle.cm_world.specs.After.{with_end_of, moved, after}
use Rattle.cm_world.specs.Legal.{replay}
use Rattle.cm_events.specs.Stream.{stream}
use Rattle.cm_laws.specs.Story.{Story, world_of, IsLegal, AddsEntry, entry_of}
use Rattle.cm_steps.specs.Steps.{RealmHasRoom}
use Rattle.cm_steps.specs.declared.nostep.NoStep.{NoStep}
use Rattle.cm_steps.specs.declared.nostep.NoStep.TheVariants as nostep
use Rattle.cm_manager.specs.Turns.{AddsWithinRoom, wanted}
use Rattle.cm_manager.specs.Contract.{RealmPass, GatesView, IsSamePass, IsSubcall}
use Rattle.cm_manager.specs.Work.{Manifests}
use Rattle.cm_manager.specs.Asking.{frame_in, frame_of}
use Rattle.cm_manager.specs.Streams.{Streams, streamed_by}
use Rattle.cm_manager.specs.Streaming.{StreamsBy, StreamedBy, answer_in}
use Rattle.cm_manager.proofs.lemmas.onward.Turning.{ExtendsPass, Took, tells_on, same_on, makes_by, nothing_by, grown, room_in, lacks_in}
use Rattle.cm_manager.proofs.lemmas.calling.Helping.{helps_plain, helps_nothing}

-- ---- the length of a history, which the tree counts

-- The end of an action leaves the count of a world's entries as it is.
ended_entries : (w : World) (a : ℕ) (f : Finish) (o : Outcome) (x : Option Act) → (with_end_of w a f o x).entries ≡ w.entries
ended_entries w a f o None = refl
ended_entries w a f o (Some x) = refl

-- An event with its reply leaves the count of a world's entries as it is.
moved_entries : (w : World) (c : ℕ) (e : Event) (r : Reply) → (moved w c e r).entries ≡ w.entries
moved_entries w c (Begin kind i) (reply.Begun work) = refl
moved_entries w c (Begin kind i) (reply.Joined a) = refl
moved_entries w c (End a finish) (reply.Ended o) = ended_entries w a finish o (act_of w.acts a)
moved_entries w c (Await a) (reply.Ended o) = refl
moved_entries w c (Create p child) (reply.Created i) = refl
moved_entries w c (Mark doom i) reply.Marked = refl
moved_entries w c (Pick t) (reply.Stopping work) = refl
moved_entries w c (Pick t) (reply.ShutDown i) = refl
moved_entries w c (Purge i) (reply.Purged lost) = refl
moved_entries w c (Exited i) (reply.Left m) = refl
moved_entries w c e r = refl

-- Behind an entry the count of a world's entries is one more.
after_entries : (w : World) (e : Entry) → (after w e).entries ≡ w.entries + 1
unfolding after
after_entries w e = ap (λ (n : ℕ). n + 1) (moved_entries w e.caller e.event e.reply)

-- Behind a history the count of a world's entries is more by its length.
replay_entries : (w : World) (es : List Entry) → (replay w es).entries ≡ w.entries + length es
replay_entries w [] = omega arith
replay_entries w (e ∷ es) =
    let rest : (replay (after w e) es).entries ≡ (after w e).entries + length es = replay_entries (after w e) es in
    let one : (after w e).entries ≡ w.entries + 1 = after_entries w e in
    omega (arith, rest, one)

-- The world of a story counts as many entries as the story has.
story_entries : (s : Story) → (world_of s).entries ≡ length s.entries
unfolding world_of
story_entries s =
    let h : (world_of s).entries ≡ 0 + length s.entries = replay_entries (start s.frame) s.entries in
    omega (arith, h)

-- The length that a reply to a tail tells; zero for other replies.
tailed_number : Reply → ℕ
tailed_number (reply.Tailed n) = n
tailed_number r = 0

-- Whether the reply is one to a tail that wasn't refused.
is_tailed : Reply → Bool
is_tailed (reply.Tailed n) = true
is_tailed r = false

-- A tail that is answered with a length, and not that the row is gone, has that length.
tailed_count : (b : Bool) (i n m : ℕ) → reply.Tailed n ≡ cond b (reply.Gone i) (reply.Tailed m) → n ≡ m
unfolding tailed_number is_tailed
tailed_count true i n m e = absurd (true≢false (ap is_tailed e))
tailed_count false i n m e = ap tailed_number e

-- ---- the turn's step

-- The answer as a result that is no refusal.
abbrev good : Answer → Result Answer Refusal
good a = Ok a

-- a tail that wasn't refused tells how long the history was
pub tailed_length : (s t : Story) (c i from n : ℕ) → AddsEntry s t c (event.Tail i from) (reply.Tailed n) → n ≡ length s.entries
tailed_length s t c i from n tells = tailed_count (is_gone (world_of s).rows i) i n (world_of s).entries tells.step.allowed ∙ story_entries s

-- what was read of it is then the answer
pub streams_told : (s t : Story) (c i from n : ℕ) (r : Reply) (told : List Happening) (scope : Moniker) (rows : List Row) (es : List Entry) → AddsEntry s t c (event.Tail i from) r → RealmHasRoom s 1 → r ≡ reply.Tailed n → rows ≡ (world_of s).rows → scope ≡ moniker_of rows i → es ≡ s.entries → told ≡ stream es from (length es) scope → StreamsBy s t c i from (Ok (Ok (answer.Streamed n told)))
unfolding world_of
streams_told s t c i from n r told scope rows es tells room is tree at all read =
    let tailed : AddsEntry s t c (event.Tail i from) (reply.Tailed n) = subst (AddsEntry s t c (event.Tail i from)) is tells in
    let long : n ≡ length s.entries = tailed_length s t c i from n tailed in
    let here : scope ≡ moniker_of (world_of s).rows i = at ∙ ap (λ (rs : List Row). moniker_of rs i) tree in
    let same : told ≡ stream s.entries from n (moniker_of (world_of s).rows i) =
    read ∙ ap (λ (l : List Entry). stream l from (length l) scope) all ∙ ap (λ (k : ℕ). stream s.entries from k scope) (sym long) ∙ ap (stream s.entries from n) here in
    (reply.Tailed n, tailed, room, ap (λ (l : List Happening). good (answer.Streamed n l)) same)

-- ---- the turn

-- How a turn went: an answer or a refusal, or that no step was made.
abbrev Went : Type 0
Went = Result (Result Answer Refusal) NoStep

-- The entries that a turn of `events` adds: its own one, or none where it was refused.
pub adds : (c i from : ℕ) (old new : Story) (went : Went) → StreamsBy old new c i from went → List Entry
adds c i from old new (Ok a) is = entry_of c (event.Tail i from) is.0 ∷ []
adds c i from old new (Err x) is = []

-- A step that reads the history and tells its length goes on by the caller's entry, if it made one.
pub streams_on : (c i from : ℕ) (old new : Story) (went : Went) → IsLegal old → (is : StreamsBy old new c i from went) → ExtendsPass c old new (adds c i from old new went is)
unfolding adds
streams_on c i from old new (Ok a) legal is = tells_on c old new (event.Tail i from) is.0 legal is.1
streams_on c i from old new (Err x) legal is = same_on c old new legal is.0

-- the answer is that of the history which the turn found
pub streamed : (p q : RealmPass) (s t : Story) (i from : ℕ) (went : Went) → (is : StreamsBy s t p.caller i from went) → Took p q s t (adds p.caller i from s t went is) → StreamedBy i from p q (answer_in went)
unfolding adds makes_by
streamed p q s t i from (Ok a) is took =
    let asks : AddsWithinRoom (frame_of p) p.caller p.seen (event.Tail i from) is.0 q.seen =
    record { made = makes_by p q s t (event.Tail i from) is.0 took; room = room_in p s (event.Tail i from) took.entered.frame is.2 } in
    let same : streamed_by (frame_of p) s.entries from i is.0 ≡ a = ap (λ (f : Frame). streamed_by f s.entries from i is.0) (ap frame_in took.entered.frame) ∙ sym is.3 in (
      subst (Streams (frame_of p) p.caller from i p.seen q.seen) same (Streams.told asks),
      inr (is.0, grown p q s t (entry_of p.caller (event.Tail i from) is.0 ∷ []) took),
    )
streamed p q s t i from (Err (nostep.Busy a)) is took =
    let none = nothing_by p q s t took in
    (Streams.cut none.0, inl none.1)
streamed p q s t i from (Err nostep.HistoryFull) is took =
    let none = nothing_by p q s t took in
    let e = event.Tail i from in
    let lacks = subst (λ (l : List Entry). (frame_of p).limits.entries < wanted (frame_of p) l e) (sym (took.left.seen ∙ took.goes.entries ∙ append-nil s.entries)) (lacks_in p s e took.entered.frame is.1) in
    (Streams.cut (none.0, lacks), inl none.1)
streamed p q s t i from (Err nostep.Memory) is took =
    let none = nothing_by p q s t took in
    (Streams.cut none.0, inl none.1)

-- What a turn of `events` came to, by the caller's own number, is what the call promises.
pub streamed_as : (p q : RealmPass) (s t : Story) (c i from : ℕ) (went : Went) → c ≡ p.caller → (is : StreamsBy s t c i from went) → Took p q s t (adds c i from s t went is) → StreamedBy i from p q (answer_in went)
streamed_as p q s t c i from went by is took =
    let both = subst (λ (n : ℕ). (x : StreamsBy s t n i from went) × Took p q s t (adds n i from s t went x)) by (is, took) in
    streamed p q s t i from went both.0 both.1

-- such a turn is a whole help, which asks the gates nothing
pub streamed_helps : (manifests : Manifests) (p q : RealmPass) (g : GatesView) (i from : ℕ) (a : Result Answer Refusal) → IsSamePass (frame_of p) p q → StreamedBy i from p q a → IsSubcall manifests (frame_of p) (λ x y. Streams (frame_of p) p.caller from i x y a) p q g g
streamed_helps manifests p q g i from a same (way, inl mine) = helps_nothing manifests (frame_of p) _ p q g same way mine
streamed_helps manifests p q g i from a same (way, inr (r, mine)) = helps_plain manifests (frame_of p) _ p q g (event.Tail i from) r refl refl refl same way mine
