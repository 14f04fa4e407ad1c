-- Promised.
-- Which events a caller may make, and the replies that they may get.
use Rattle.std.specs.Prelude.{◌≡◌, ℕ, List, [], Bool, false, true, not, ◌&&◌, ◌||◌, ◌==◌, Some, None}
use Rattle.std.specs.Prelude.{option_map, is_some, IsTrue, ◌⊎◌}
use Rattle.std.specs.List.{list_any}
use Rattle.cm_world.specs.declared.row.Row.{Row}
use Rattle.cm_world.specs.declared.action.Act.{Act}
use Rattle.cm_world.specs.declared.action.Join.{Join}
use Rattle.cm_world.specs.declared.action.ActKind.TheVariants.{Stop}
use Rattle.cm_world.specs.declared.action.Finish.{Finish}
use Rattle.cm_world.specs.declared.action.Work.{Work}
use Rattle.cm_world.specs.declared.route.Start.TheVariants.{UseAt, ExposeAt}
use Rattle.cm_world.specs.declared.reply.Reply.{Reply}
use Rattle.cm_world.specs.declared.reply.Reply.TheVariants as reply
use Rattle.cm_world.specs.declared.event.Event.{Event}
use Rattle.cm_world.specs.declared.event.Event.TheVariants.{Find, Begin, End, Await, Create, Mark, Pick}
use Rattle.cm_world.specs.declared.event.Event.TheVariants.{Purge, Route, OpenUse, OpenExposed, Listing, Show}
use Rattle.cm_world.specs.declared.event.Event.TheVariants.{Survey, Exited, Tail, Reap}
use Rattle.cm_world.specs.Rows.{is_live, has_doomed, is_closing, is_subtree_shut}
use Rattle.cm_world.specs.World.{World, act_of, outcome_of}
use Rattle.cm_world.specs.Work.{work_of}
use Rattle.cm_world.specs.Find.{found_from}
use Rattle.cm_world.specs.Begin.{begin_reply}
use Rattle.cm_world.specs.End.{fits_kind, HasValid, outcome_by}
use Rattle.cm_world.specs.Create.{IsCreateReply}
use Rattle.cm_world.specs.Stopping.{MayPick, CanPick}
use Rattle.cm_world.specs.Openings.{unready, unopened, routed, opened, WalksUnless}
use Rattle.cm_world.specs.Marks.{mark_reply, purge_reply}
use Rattle.cm_world.specs.Reports.{list_reply, show_reply, survey_reply, exit_reply, tail_reply}
use Rattle.cm_world.specs.Expiring.{reap_reply}

-- ---- enabled

-- the caller may end the action so: it began it, the action has no outcome yet, and the end fits its
-- kind; a declaration that it brings is valid
pub record MayEnd (acts : List Act) (caller action : ℕ) (finish : Finish) : Type 0 where
  pub act : Act
  pub there : act_of acts action ≡ Some act
  pub pending : act.outcome ≡ None
  pub own : act.by ≡ caller
  pub fitting : IsTrue (fits_kind act.kind finish)
  pub valid : HasValid finish

-- whether a join is that of this caller with this action
abbrev pub is_join : ℕ → ℕ → Join → Bool
is_join caller action j = (j.caller == caller) && (j.action == action)

-- the caller may await the action: it joined it and hasn't awaited it since, and the action has an
-- outcome
pub record MayAwait (acts : List Act) (joins : List Join) (caller action : ℕ) : Type 0 where
  pub joined : IsTrue (list_any (is_join caller action) joins)
  pub ended : IsTrue (is_some (outcome_of acts action))

-- whether a shutdown of t may go on: t doesn't live any more, or is being shut down
abbrev pub may_close : List Row → ℕ → Bool
may_close rows t = not (is_live rows t) || is_closing rows t

-- whether a row may be removed: it doesn't live any more, or it is doomed, and shut with all below it
abbrev pub may_purge : List Row → ℕ → Bool
may_purge rows i = not (is_live rows i) || (has_doomed rows i && is_subtree_shut rows i)

-- the caller may make this event now; one that has to wait for a pending action isn't enabled
abbrev pub IsEnabled : World → ℕ → Event → Type 0
IsEnabled w caller (Begin kind i) = IsTrue (is_some (begin_reply w.rows w.next_action kind i))
IsEnabled w caller (End a finish) = MayEnd w.acts caller a finish
IsEnabled w caller (Await a) = MayAwait w.acts w.joins caller a
IsEnabled w caller (Pick t) =
    IsTrue (may_close w.rows t) × (IsTrue (is_subtree_shut w.rows t) ⊎ CanPick w.rows t)
IsEnabled w caller (Purge i) = IsTrue (may_purge w.rows i)
IsEnabled w caller (Exited i) = IsTrue (is_some (exit_reply w.rows i))
IsEnabled w caller _ = Unit {0}

-- ---- the replies to a pick

-- a pick names the stop of a row: not all of the target is shut, and the row may be picked and is on
pub record PicksOn (rows : List Row) (next_action target : ℕ) (work : Work) : Type 0 where
  pub undone : is_subtree_shut rows target ≡ false
  pub row : Row
  pub may : MayPick rows target work.inc row
  pub on : row.on ≡ true
  pub same : work ≡ work_of rows next_action Stop row

-- a pick shuts a row at once: not all of the target is shut, and the row may be picked and is off
pub record PicksOff (rows : List Row) (target inc : ℕ) : Type 0 where
  pub undone : is_subtree_shut rows target ≡ false
  pub row : Row
  pub may : MayPick rows target inc row
  pub off : row.on ≡ false

-- the replies to a pick, a step of a shutdown: all is shut; an instance is to be stopped; or one that
-- is off was shut
abbrev pub IsPickReply : List Row → ℕ → ℕ → Reply → Type 0
IsPickReply rows next_action t reply.Done = IsTrue (is_subtree_shut rows t)
IsPickReply rows next_action t (reply.Stopping work) = PicksOn rows next_action t work
IsPickReply rows next_action t (reply.ShutDown i) = PicksOff rows t i
IsPickReply rows next_action t _ = ⊥

-- ---- allowed

-- the replies that a caller's event may get in a world. There is one, but for a pick, which may choose
-- among rows
abbrev pub Allowed : World → ℕ → Event → Reply → Type 0
Allowed w caller (Find m) r = r ≡ found_from w.rows 0 [] m.parts
Allowed w caller (Begin kind i) r = begin_reply w.rows w.next_action kind i ≡ Some r
Allowed w caller (End a finish) r = r ≡ reply.Ended (outcome_by w.frame.limits.rows w.rows w.next_inc finish)
Allowed w caller (Await a) r = option_map reply.Ended (outcome_of w.acts a) ≡ Some r
Allowed w caller (Create p child) r =
    IsCreateReply w.frame.limits.rows w.rows w.next_inc p child.coll child.name child.gives r
Allowed w caller (Mark doom i) r = r ≡ mark_reply w.rows doom i
Allowed w caller (Pick t) r = IsPickReply w.rows w.next_action t r
Allowed w caller (Purge i) r = r ≡ purge_reply w.rows i
Allowed w caller (Route i path) r =
    WalksUnless w.rows w.frame.builtins (UseAt i path) (routed w.rows) (unready w.rows i) r
Allowed w caller (OpenUse i path) r =
    WalksUnless w.rows w.frame.builtins (UseAt i path) (opened w.rows) (unopened w.rows i) r
Allowed w caller (OpenExposed i name) r =
    WalksUnless w.rows w.frame.builtins (ExposeAt i name) (opened w.rows) (unready w.rows i) r
Allowed w caller (Listing i coll) r = r ≡ list_reply w.rows i coll
Allowed w caller (Show i) r = r ≡ show_reply w.rows i
Allowed w caller (Survey i) r = r ≡ survey_reply w.rows i
Allowed w caller (Exited i) r = exit_reply w.rows i ≡ Some r
Allowed w caller (Tail i from) r = r ≡ tail_reply w.rows w.entries i
Allowed w caller (Reap i) r = r ≡ reap_reply w.rows i
