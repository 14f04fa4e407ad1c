-- Inside.
-- Laws of one more entry, as statements: the cache that belongs to a history is brought to the longer
-- one.
use Rattle.std.specs.Prelude.{◌≡◌, ℕ, ◌≤◌, List, [], ◌∷◌, ◌++◌, Bool, true, false, Some, None, length}
use Rattle.cm_names.specs.declared.moniker.Moniker.{Moniker}
use Rattle.cm_world.specs.declared.action.Act.{Act}
use Rattle.cm_world.specs.declared.action.Finish.{Finish}
use Rattle.cm_world.specs.declared.action.Outcome.{Outcome}
use Rattle.cm_world.specs.declared.frame.Frame.{Frame}
use Rattle.cm_world.specs.declared.event.Event.{Event}
use Rattle.cm_world.specs.declared.event.Event.TheVariants.{End, Mark, Exited}
use Rattle.cm_world.specs.declared.reply.Entry.{Entry}
use Rattle.cm_world.specs.declared.reply.Reply.{Reply}
use Rattle.cm_world.specs.declared.reply.Reply.TheVariants as reply
use Rattle.cm_world.specs.declared.route.Start.TheVariants.{UseAt}
use Rattle.cm_world.specs.declared.route.Walked.{Walked}
use Rattle.cm_world.specs.World.{World, start, act_of}
use Rattle.cm_world.specs.Route.{IsWalked}
use Rattle.cm_world.specs.End.{changed, set_on, rows_by}
use Rattle.cm_world.specs.Marks.{mark_reply}
use Rattle.cm_world.specs.Legal.{replay}
use Rattle.cm_world.specs.Sound.{IncarnationsIncrease}
use Rattle.cm_cache.specs.AnswersInside.{kept_at}
use Rattle.cm_cache.specs.Keeping.{asked_by, IsKeptNumber}
use Rattle.cm_cache.specs.declared.keeper.CacheLookup.TheVariants.{Again}
use Rattle.cm_cache.specs.Beside.{CacheContents, nothing_held, asked_for, finding, found_by, followed}
use Rattle.cm_cache.specs.Beside.{IsReported, IsBeside}
use Rattle.cm_cache.specs.Beside.{goes_some, goes_some_by}

-- ---- what is beside a history

-- the empty cache belongs to the empty history
abbrev pub NothingAtFirst : Type 0
NothingAtFirst = (f : Frame) → IsBeside f [] nothing_held

-- an answer that is kept for a use is that of its walk in the tree that the history leaves
abbrev pub BesideIsRight : Type 0
BesideIsRight =
    (f : Frame) (es : List Entry) (h : CacheContents) (i : ℕ) (path : List ℕ) (v : Walked) → IsBeside f es h
    → kept_at h.answers i path ≡ Some v
    → IsWalked (replay (start f) es).rows (replay (start f) es).frame.builtins (UseAt i path) v

-- the hits are those that the history has
abbrev pub BesideIsNumber : Type 0
BesideIsNumber = (f : Frame) (es : List Entry) (h : CacheContents) → IsBeside f es h
    → IsKeptNumber f es h.number

-- there are no more hits than entries
abbrev pub BesideIsFew : Type 0
BesideIsFew = (f : Frame) (es : List Entry) (h : CacheContents) → IsBeside f es h → h.number ≤ length es

-- ---- an entry more

-- the step for an entry that asks for no use
abbrev pub UnaskedGoOn : Type 0
UnaskedGoOn =
    (f : Frame) (es : List Entry) (e : Entry) (doomed : Bool) (h : CacheContents)
    → IncarnationsIncrease (replay (start f) es).next_inc (replay (start f) es).rows
    → asked_by (replay (start f) es) e.event ≡ None → IsReported (replay (start f) es) e doomed
    → IsBeside f es h → IsBeside f (es ++ e ∷ []) (followed e.event e.reply doomed h)

-- the step for an entry that asks for a use, with what its walk comes to
abbrev pub AskedGoOn : Type 0
AskedGoOn =
    (f : Frame) (es : List Entry) (e : Entry) (i : ℕ) (path : List ℕ) (v : Walked) (h : CacheContents)
    → asked_by (replay (start f) es) e.event ≡ Some (record { inc = i; path = path })
    → IsWalked (replay (start f) es).rows (replay (start f) es).frame.builtins (UseAt i path) v
    → IsBeside f es h → IsBeside f (es ++ e ∷ []) (asked_for i path v h)

-- where an answer is kept for the use, the look-up is a hit
abbrev pub KeptAreFound : Type 0
KeptAreFound =
    (i : ℕ) (path : List ℕ) (v : Walked) (h : CacheContents) → kept_at h.answers i path ≡ Some v
    → found_by Again h ≡ asked_for i path v h

-- where none is kept, the walk's answer is kept from then on, if it lasts
abbrev pub NewAreFound : Type 0
NewAreFound =
    (i : ℕ) (path : List ℕ) (v : Walked) (h : CacheContents) → kept_at h.answers i path ≡ None
    → found_by (finding i path v) h ≡ asked_for i path v h

-- ---- which entries doom an instance

-- whether an entry is of a kind that can doom an instance which stays in the tree: a mark, an end, or
-- an exit
abbrev pub may_doom : Event → Reply → Bool
may_doom (Mark doom i) reply.Marked = true
may_doom (End a finish) (reply.Ended o) = true
may_doom (Exited i) (reply.Left m) = true
may_doom event r = false

-- an entry of no such kind may be told as dooming none
abbrev pub OthersDoomNone : Type 0
OthersDoomNone = (w : World) (e : Entry) → may_doom e.event e.reply ≡ false → IsReported w e false

-- a mark dooms exactly where it is one to destroy
abbrev pub MarksDoom : Type 0
MarksDoom =
    (w : World) (caller i : ℕ) (doom : Bool) → mark_reply w.rows doom i ≡ reply.Marked
    → IsReported w (record { caller = caller; event = Mark doom i; reply = reply.Marked }) doom

-- an exit dooms exactly where some row goes with the one whose program has ended
abbrev pub ExitsDoom : Type 0
ExitsDoom =
    (w : World) (caller i : ℕ) (m : Moniker) → IncarnationsIncrease w.next_inc w.rows
    → IsReported w (record { caller = caller; event = Exited i; reply = reply.Left m })
    (goes_some (changed i (set_on false) w.rows) i)

-- an end dooms exactly where it stopped its row and some row goes with it
abbrev pub EndsDoom : Type 0
EndsDoom =
    (w : World) (caller a : ℕ) (finish : Finish) (o : Outcome) (x : Act)
    → IncarnationsIncrease w.next_inc w.rows
    → act_of w.acts a ≡ Some x
    → IsReported w (record { caller = caller; event = End a finish; reply = reply.Ended o })
    (goes_some_by o (rows_by x.inc w.next_inc finish o w.rows) x.inc)
