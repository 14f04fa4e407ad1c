-- What is kept beside a history, with an entry more.
use Rattle.std.proofs.Common.{◌≡◌, ℕ, ◌+◌, List, [], ◌∷◌, ◌++◌, Bool, true, false, cond, Option, Some, None, is_some, refl, sym, ◌∙◌, ap, subst}
use Rattle.cm_world.specs.declared.action.Act.{Act}
use Rattle.cm_world.specs.declared.action.Finish.{Finish}
use Rattle.cm_world.specs.declared.action.Outcome.{Outcome}
use Rattle.cm_world.specs.declared.event.Event.{Event}
use Rattle.cm_world.specs.declared.event.Event.TheVariants.{Begin, End, Await, Create, Mark, Pick, Purge, Exited, Route, OpenUse}
use Rattle.cm_world.specs.declared.frame.Frame.{Frame}
use Rattle.cm_world.specs.declared.reply.Entry.{Entry}
use Rattle.cm_world.specs.declared.reply.Reply.{Reply}
use Rattle.cm_world.specs.declared.reply.Reply.TheVariants as reply
use Rattle.cm_world.specs.declared.route.Start.TheVariants.{UseAt}
use Rattle.cm_world.specs.declared.route.Walked.{Walked}
use Rattle.cm_world.specs.Route.{IsWalked}
use Rattle.cm_world.specs.World.{World, start, act_of}
use Rattle.cm_world.specs.After.{moved, counted, after, with_end_of}
use Rattle.cm_world.specs.Legal.{replay}
use Rattle.cm_world.specs.Sound.{IncarnationsIncrease}
use Rattle.cm_world.proofs.lemmas.trees.Finding.{none_some}
use Rattle.cm_world.proofs.lemmas.trees.Histories.{replay-push}
use Rattle.cm_cache.specs.declared.answer.CachedAnswer.{CachedAnswer}
use Rattle.cm_cache.specs.AnswersInside.{kept_at, put_in}
use Rattle.cm_cache.specs.Keeping.{UseKey, KeptUses, asked_by, is_lasting, with_use, emptied, forgets, KeepsBy, KeepsUses}
use Rattle.cm_cache.specs.Right.{uses_of, AreRight}
use Rattle.cm_cache.specs.declared.keeper.CacheLookup.TheVariants.{New, Passing}
use Rattle.cm_cache.specs.AnswersInside.{answer_of}
use Rattle.cm_cache.specs.Beside.{CacheContents, asked_for, found_by, IsBeside}
use Rattle.cm_cache.specs.Steps.{NothingAtFirst, BesideIsRight, BesideIsNumber, BesideIsFew, UnaskedGoOn, AskedGoOn}
use Rattle.cm_cache.specs.Steps.{KeptAreFound, NewAreFound}
use Rattle.cm_cache.proofs.lemmas.histories.Folding.{keeping_goes_on, kept_are_few}
use Rattle.cm_cache.proofs.lemmas.puts.Putting.{uses_are_kept, puts_add_uses, right_answers, puts_stay_right, answers_stay_right}

-- what a keeper has, as what a history keeps
abbrev seen : CacheContents → KeptUses
seen h = record { uses = uses_of h.answers; number = h.number }

-- answers that are right in a tree
abbrev RightIn : World → List CachedAnswer → Type 0
RightIn w answers = AreRight w.rows w.frame.builtins answers

-- ---- what is beside a history

-- The empty cache belongs to the empty history.
pub nothing_at_first : NothingAtFirst
nothing_at_first f = record { right = tt; keeps = refl }

-- An answer kept beside a history is that of its use's walk in the tree that the history leaves.
pub beside_is_right : BesideIsRight
beside_is_right f es h i path v beside is =
    right_answers (replay (start f) es).rows (replay (start f) es).frame.builtins h.answers i path v beside.right is

-- The hits of a cache beside a history are those that the history has.
pub beside_is_number : BesideIsNumber
beside_is_number f es h beside = (seen h, beside.keeps, refl)

-- A cache beside a history has no more hits than the history has entries.
pub beside_is_few : BesideIsFew
beside_is_few f es h beside = (kept_are_few f es (seen h) beside.keeps).1

-- ---- the frame

-- The end of an action leaves the frame of a world.
frame_ended : (w : World) (a : ℕ) (finish : Finish) (o : Outcome) (x : Option Act) → (with_end_of w a finish o x).frame ≡ w.frame
frame_ended w a finish o None = refl
frame_ended w a finish o (Some x) = refl

-- An event leaves the frame of a world.
frame_moved : (w : World) (caller : ℕ) (event : Event) (r : Reply) → (moved w caller event r).frame ≡ w.frame
frame_moved w caller (Begin kind i) (reply.Begun work) = refl
frame_moved w caller (Begin kind i) (reply.Joined a) = refl
frame_moved w caller (End a finish) (reply.Ended o) = frame_ended w a finish o (act_of w.acts a)
frame_moved w caller (Await a) (reply.Ended o) = refl
frame_moved w caller (Create p child) (reply.Created i) = refl
frame_moved w caller (Mark doom i) reply.Marked = refl
frame_moved w caller (Pick t) (reply.Stopping work) = refl
frame_moved w caller (Pick t) (reply.ShutDown i) = refl
frame_moved w caller (Purge i) (reply.Purged lost) = refl
frame_moved w caller (Exited i) (reply.Left m) = refl
frame_moved w caller event r = refl

-- An entry leaves the frame of a tree as it is.
frame_after : (w : World) (e : Entry) → (after w e).frame ≡ w.frame
unfolding after
frame_after w e = frame_moved w e.caller e.event e.reply

-- ---- an entry that asks for no use

-- Answers that are right stay so after an entry that doesn't empty what is kept.
right_after : (w : World) (e : Entry) (answers : List CachedAnswer) → IncarnationsIncrease w.next_inc w.rows → forgets w e ≡ false → RightIn w answers → RightIn (after w e) answers
right_after w e answers up stays right =
    subst (λ (fr : Frame). AreRight (after w e).rows fr.builtins answers) (sym (frame_after w e))
    (answers_stay_right w e w.frame.builtins answers up stays right)

-- what is right behind the entry is so behind the history with it
right_push : (f : Frame) (es : List Entry) (e : Entry) (answers : List CachedAnswer) → RightIn (after (replay (start f) es) e) answers → RightIn (replay (start f) (es ++ e ∷ [])) answers
right_push f es e answers right = subst (λ w. RightIn w answers) (sym (replay-push (start f) es e)) right

-- An entry that asks for no use leaves what is kept, or empties it.
keeps_left : (t : Bool) (w : World) (e : Entry) (old : KeptUses) → asked_by w e.event ≡ None → forgets w e ≡ t → KeepsUses w e old (cond t (emptied old) old)
keeps_left t w e old none is =
    subst (λ o. KeepsBy o w e old (cond t (emptied old) old)) (sym none) (ap (λ b. cond b (emptied old) old) (sym is))

-- After an entry that asks for no use, the cache as it was, or emptied, belongs to the history.
left_by : (t : Bool) (f : Frame) (es : List Entry) (e : Entry) (h : CacheContents) → IncarnationsIncrease (replay (start f) es).next_inc (replay (start f) es).rows → asked_by (replay (start f) es) e.event ≡ None → forgets (replay (start f) es) e ≡ t → IsBeside f es h → IsBeside f (es ++ e ∷ []) (cond t (record h { answers = [] }) h)
left_by true f es e h up none is beside = record {
  right = tt;
  keeps = keeping_goes_on f es e (seen h) (emptied (seen h)) beside.keeps (keeps_left true (replay (start f) es) e (seen h) none is);
}
left_by false f es e h up none is beside = record {
  right = right_push f es e h.answers (right_after (replay (start f) es) e h.answers up is beside.right);
  keeps = keeping_goes_on f es e (seen h) (seen h) beside.keeps (keeps_left false (replay (start f) es) e (seen h) none is);
}

-- The cache beside a history is brought to the longer one by an entry that asks for no use.
pub unasked_go_on : UnaskedGoOn
unasked_go_on f es e doomed h up none told beside =
    subst (λ t. IsBeside f (es ++ e ∷ []) (cond t (record h { answers = [] }) h)) (sym told)
    (left_by (forgets (replay (start f) es) e) f es e h up none refl beside)

-- ---- an entry that asks for a use

-- An event that asks for a use leaves the tree as it is.
asked_still : (w : World) (caller : ℕ) (event : Event) (r : Reply) (u : UseKey) → asked_by w event ≡ Some u → moved w caller event r ≡ w
asked_still w caller (Route i path) r u asks = refl
asked_still w caller (OpenUse i path) r u asks = refl
asked_still w caller event r u asks = absurd (none_some u asks)

-- An entry that asks for a use changes nothing in the world but the count of entries.
pub asked_after : (w : World) (e : Entry) (u : UseKey) → asked_by w e.event ≡ Some u → after w e ≡ counted w
unfolding after
asked_after w e u asks = ap counted (asked_still w e.caller e.event e.reply u asks)

module _ (i : ℕ) (path : List ℕ) (v : Walked) (h : CacheContents) where
  -- The use of this path by this instance.
  abbrev use_at : UseKey
  use_at = record { inc = i; path = path }

  -- by whether an answer is kept, and whether this one lasts
  abbrev held_by : Option Walked → Bool → CacheContents
  held_by o t = cond (is_some o) (record h { number = h.number + 1 }) (cond t (record h { answers = put_in h.answers i path v }) h)

  -- What is kept of uses and hits, by whether an answer is kept and whether this one lasts.
  abbrev kept_by : Bool → Bool → KeptUses
  kept_by b t = cond b (record (seen h) { number = h.number + 1 }) (cond t (record (seen h) { uses = with_use use_at (uses_of h.answers) }) (seen h))

  -- The answers after an ask are right, where it comes to what its walk does.
  right_held : (o : Option Walked) (t : Bool) (w : World) → kept_at h.answers i path ≡ o → IsWalked w.rows w.frame.builtins (UseAt i path) v → RightIn w h.answers → RightIn w (held_by o t).answers
  right_held (Some x) t w is walked right = right
  right_held None true w is walked right = puts_stay_right w.rows w.frame.builtins h.answers i path v right is walked
  right_held None false w is walked right = right

  -- The uses and hits of the cache after an ask are told by whether an answer was kept.
  seen_held : (o : Option Walked) (t : Bool) → kept_at h.answers i path ≡ o → seen (held_by o t) ≡ kept_by (is_some o) t
  seen_held (Some x) t is = refl
  seen_held None true is = ap (λ us. record { uses = us; number = h.number }) (puts_add_uses h.answers i path v is)
  seen_held None false is = refl

  -- An ask keeps in the cache the uses and hits that its entry keeps.
  keeps_held : (w : World) (e : Entry) → asked_by w e.event ≡ Some use_at → IsWalked w.rows w.frame.builtins (UseAt i path) v → KeepsUses w e (seen h) (seen (asked_for i path v h))
  keeps_held w e asks walked =
      subst (λ o. KeepsBy o w e (seen h) (seen (asked_for i path v h))) (sym asks) (
        v,
        walked,
        seen_held (kept_at h.answers i path) (is_lasting v) refl
            ∙ ap (λ b. kept_by b (is_lasting v)) (sym (uses_are_kept h.answers use_at)),
      )

-- The cache beside a history is brought to the longer one by an entry that asks for a use.
pub asked_go_on : AskedGoOn
asked_go_on f es e i path v h asks walked beside =
    let w : World = replay (start f) es in
    record {
      right =
          right_push f es e (asked_for i path v h).answers
          (subst (λ z. RightIn z (asked_for i path v h).answers) (sym (asked_after w e (record { inc = i; path = path }) asks))
          (right_held i path v h (kept_at h.answers i path) (is_lasting v) w refl walked beside.right));
      keeps = keeping_goes_on f es e (seen h) (seen (asked_for i path v h)) beside.keeps (keeps_held i path v h w e asks walked);
    }

-- ---- what is found

-- Where an answer is kept for the use, the look-up is a hit.
pub kept_are_found : KeptAreFound
kept_are_found i path v h is = sym (ap (λ o. held_by i path v h o (is_lasting v)) is)

-- A new answer, kept or passing by, leaves the cache as an ask for what wasn't kept does.
new_by : (t : Bool) (i : ℕ) (path : List ℕ) (v : Walked) (h : CacheContents) → found_by (cond t (New (answer_of i path v)) Passing) h ≡ held_by i path v h None t
new_by true i path v h = refl
new_by false i path v h = refl

-- Where no answer is kept for the use, that of the walk is kept from then on, if it lasts.
pub new_are_found : NewAreFound
new_are_found i path v h none = new_by (is_lasting v) i path v h ∙ sym (ap (λ o. held_by i path v h o (is_lasting v)) none)
