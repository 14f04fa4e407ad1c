-- Inside.
-- What the deciders of a realm answer to a begin, an exit, and the steps of creations and shutdowns.
-- An answer is quiet where it changes nothing but the count of entries, and busy where an action has
-- to be waited for.
use Rattle.std.specs.Prelude.{◌≡◌, ℕ, List, Bool, false, Some, None, map, IsTrue}
use Rattle.cm_decl.specs.declared.rows.Give.{Give}
use Rattle.cm_world.specs.declared.row.Row.{Row}
use Rattle.cm_world.specs.declared.action.ActKind.{ActKind}
use Rattle.cm_world.specs.declared.reply.Reply.{Reply}
use Rattle.cm_world.specs.declared.reply.Reply.TheVariants as reply
use Rattle.cm_world.specs.declared.event.Event.TheVariants.{Begin, Create, Mark, Exited}
use Rattle.cm_world.specs.declared.event.NewChild.{NewChild}
use Rattle.cm_world.specs.Rows.{is_live, subtree, is_subtree_shut}
use Rattle.cm_world.specs.Begin.{begin_reply, begin_idle}
use Rattle.cm_world.specs.Reports.{exit_reply}
use Rattle.cm_world.specs.Create.{IsCreateReply}
use Rattle.cm_world.specs.Marks.{lost_of, mark_reply}
use Rattle.cm_world.specs.Expiring.{reaped}
use Rattle.cm_world.specs.Step.{PicksOn, PicksOff}
use Rattle.cm_world.specs.World.{World}
use Rattle.cm_world.specs.AfterInside.{moves}
use Rattle.cm_order.specs.Picking.{PickWaitsFor}
use Rattle.cm_dynamic.specs.Laws.{CanTakeChild}
use Rattle.cm_dynamic.specs.declared.create.MayCreate.{MayCreate}
use Rattle.cm_dynamic.specs.declared.create.MayCreate.TheVariants.{Yes}
use Rattle.cm_dynamic.specs.Replies.{create_reply}
use Rattle.cm_steps.specs.Tasks.{IsPendingAs}
use Rattle.cm_steps.specs.Steps.{WaitsToBegin, WaitsToExit, WaitsToPick}
use Rattle.cm_steps.specs.declared.replies.beginning.BeginAnswer.{BeginAnswer}
use Rattle.cm_steps.specs.declared.replies.beginning.BeginAnswer.TheVariants as begin
use Rattle.cm_steps.specs.declared.replies.showing.ExitAnswer.{ExitAnswer}
use Rattle.cm_steps.specs.declared.replies.showing.ExitAnswer.TheVariants as exit
use Rattle.cm_steps.specs.declared.replies.creating.CreateAnswer.{CreateAnswer}
use Rattle.cm_steps.specs.declared.replies.creating.CreateAnswer.TheVariants as create
use Rattle.cm_steps.specs.declared.replies.marking.MarkAnswer.{MarkAnswer}
use Rattle.cm_steps.specs.declared.replies.marking.MarkAnswer.TheVariants as mark
use Rattle.cm_steps.specs.declared.replies.purging.PurgeAnswer.{PurgeAnswer}
use Rattle.cm_steps.specs.declared.replies.purging.PurgeAnswer.TheVariants as purge
use Rattle.cm_steps.specs.declared.replies.picking.PickAnswer.{PickAnswer}
use Rattle.cm_steps.specs.declared.replies.picking.PickAnswer.TheVariants as pick

-- the answer to a begin is right for these rows: busy with the action that is pending there, or the
-- defined reply
abbrev pub AnswersBegin : List Row → ℕ → ActKind → ℕ → BeginAnswer → Type 0
AnswersBegin rows next kind i (begin.Busy a) = (begin_reply rows next kind i ≡ None) × IsPendingAs rows i a
AnswersBegin rows next kind i (begin.Quiet r) =
    (begin_reply rows next kind i ≡ Some r) × (moves (Begin kind i) r ≡ false)
AnswersBegin rows next kind i (begin.Joins a) = begin_reply rows next kind i ≡ Some (reply.Joined a)
AnswersBegin rows next kind i (begin.Begins work) = begin_reply rows next kind i ≡ Some (reply.Begun work)

-- the answer to a begin is right for a row at which no action is pending
abbrev pub AnswersIdle : List Row → ℕ → ActKind → Row → BeginAnswer → Type 0
AnswersIdle rows next kind r (begin.Quiet s) =
    (begin_idle rows next kind r ≡ s) × (moves (Begin kind r.inc) s ≡ false)
AnswersIdle rows next kind r (begin.Begins work) = begin_idle rows next kind r ≡ reply.Begun work
AnswersIdle rows next kind r _ = ⊥

-- the answer to an exit is right for these rows: busy with the action that is pending there, or the
-- defined reply
abbrev pub AnswersExit : List Row → ℕ → ExitAnswer → Type 0
AnswersExit rows i (exit.Busy a) = (exit_reply rows i ≡ None) × IsPendingAs rows i a
AnswersExit rows i (exit.Quiet r) = (exit_reply rows i ≡ Some r) × (moves (Exited i) r ≡ false)
AnswersExit rows i (exit.Leaves m) = exit_reply rows i ≡ Some (reply.Left m)

-- what a begin comes to in a world: it waits for a pending action, or gets the defined reply
abbrev pub BeginsOrWaits : World → ActKind → ℕ → BeginAnswer → Type 0
BeginsOrWaits w kind i (begin.Busy a) = WaitsToBegin w kind i a
BeginsOrWaits w kind i (begin.Quiet r) =
    (begin_reply w.rows w.next_action kind i ≡ Some r) × (moves (Begin kind i) r ≡ false)
BeginsOrWaits w kind i (begin.Joins a) = begin_reply w.rows w.next_action kind i ≡ Some (reply.Joined a)
BeginsOrWaits w kind i (begin.Begins work) = begin_reply w.rows w.next_action kind i ≡ Some (reply.Begun work)

-- what an exit comes to in a world: it waits for a pending action, or gets the defined reply
abbrev pub ExitsBy : World → ℕ → ExitAnswer → Type 0
ExitsBy w i (exit.Busy a) = WaitsToExit w i a
ExitsBy w i (exit.Quiet r) = (exit_reply w.rows i ≡ Some r) × (moves (Exited i) r ≡ false)
ExitsBy w i (exit.Leaves m) = exit_reply w.rows i ≡ Some (reply.Left m)

-- ---- creations

-- a reply to a create that changes nothing but the count of entries
abbrev pub IsQuietCreate : Reply → Type 0
IsQuietCreate r = (p : ℕ) (child : NewChild) → moves (Create p child) r ≡ false

-- the answer to a create, by whether the child may be created
abbrev pub IsAnswerOf : MayCreate → CreateAnswer → Type 0
IsAnswerOf may create.Creates = may ≡ Yes
IsAnswerOf may (create.Quiet r) = ((next : ℕ) → create_reply next may ≡ r) × IsQuietCreate r

-- what a create comes to in a tree: a child with the next incarnation, for whose row there is a place,
-- or a reply that changes nothing
abbrev pub CreatesBy : ℕ → List Row → ℕ → ℕ → List ℕ → List ℕ → List Give → CreateAnswer → Type 0
CreatesBy limit rows next p coll name gives create.Creates =
    IsCreateReply limit rows next p coll name gives (reply.Created next) × CanTakeChild rows p coll name
CreatesBy limit rows next p coll name gives (create.Quiet r) =
    IsCreateReply limit rows next p coll name gives r × IsQuietCreate r

-- ---- marks and purges

-- the answer to a mark is right for these rows: it marks something, or gets a reply that changes
-- nothing
abbrev pub AnswersMark : List Row → Bool → ℕ → MarkAnswer → Type 0
AnswersMark rows doom i mark.Marks = mark_reply rows doom i ≡ reply.Marked
AnswersMark rows doom i (mark.Quiet r) = (mark_reply rows doom i ≡ r) × (moves (Mark doom i) r ≡ false)

-- the answer to a purge is right for these rows: the row went before, or these are removed with it
abbrev pub AnswersPurge : List Row → ℕ → PurgeAnswer → Type 0
AnswersPurge rows i purge.Before = is_live rows i ≡ false
AnswersPurge rows i (purge.Removes lost) =
    IsTrue (is_live rows i) × (lost ≡ map (lost_of rows) (subtree rows i))

-- the list that answers a reap is the defined one
abbrev pub IsReaped : List Row → ℕ → List ℕ → Type 0
IsReaped rows i incs = incs ≡ reaped rows i

-- ---- picks

-- the answer to a pick is right for these rows: busy with the action that blocks the shutdown, or a
-- reply that it may get
abbrev pub AnswersPick : List Row → ℕ → ℕ → PickAnswer → Type 0
AnswersPick rows next target (pick.Busy a) = PickWaitsFor rows target a
AnswersPick rows next target pick.Done = IsTrue (is_subtree_shut rows target)
AnswersPick rows next target (pick.Shuts i) = PicksOff rows target i
AnswersPick rows next target (pick.Stops work) = PicksOn rows next target work

-- what a pick comes to in a world: it waits for an action that blocks the shutdown, or gets a reply
-- that it may get
abbrev pub PicksOrWaits : World → ℕ → PickAnswer → Type 0
PicksOrWaits w target (pick.Busy a) = WaitsToPick w target a
PicksOrWaits w target pick.Done = IsTrue (is_subtree_shut w.rows target)
PicksOrWaits w target (pick.Shuts i) = PicksOff w.rows target i
PicksOrWaits w target (pick.Stops work) = PicksOn w.rows w.next_action target work
