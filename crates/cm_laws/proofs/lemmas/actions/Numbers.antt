-- The numbers of the actions of a world that a history leaves.
use Rattle.std.proofs.Common.{◌≡◌, ℕ, ◌+◌, List, [], ◌∷◌, length, length-append, Option, Some, None, refl, sym, ◌∙◌, ap, subst, arith, ◌==◌}
use Rattle.cm_world.specs.declared.action.Act.{Act}
use Rattle.cm_world.specs.declared.action.ActKind.{ActKind}
use Rattle.cm_world.specs.declared.action.ActKind.TheVariants.{Stop}
use Rattle.cm_world.specs.declared.action.Finish.{Finish}
use Rattle.cm_world.specs.declared.action.Outcome.{Outcome}
use Rattle.cm_world.specs.declared.frame.Frame.{Frame}
use Rattle.cm_world.specs.declared.event.Event.{Event}
use Rattle.cm_world.specs.declared.event.Event.TheVariants.{Begin, End, Await, Create, Mark, Pick, Purge, Exited}
use Rattle.cm_world.specs.declared.reply.Reply.{Reply}
use Rattle.cm_world.specs.declared.reply.Reply.TheVariants as reply
use Rattle.cm_world.specs.declared.reply.Entry.{Entry}
use Rattle.cm_world.specs.World.{World, start, act_of}
use Rattle.cm_world.specs.End.{put_outcome}
use Rattle.cm_world.specs.After.{new_act, with_action, with_end_of, moved, after}
use Rattle.cm_world.specs.Legal.{replay}
use Rattle.cm_trees.proofs.rows.Edits.{length-edit_first}
use Rattle.cm_laws.specs.Tasks.{IsNumbered}
use Rattle.cm_laws.proofs.lemmas.actions.Tasks.{numbered_more, numbered_ended}

-- they are numbered from 1 on, and the next has the number behind the last
pub record IsCounted (w : World) : Type 0 where
  pub numbers : IsNumbered 1 w.acts
  pub next : w.next_action ≡ length w.acts + 1

-- The actions are still numbered from 1 on with one that begins.
begun : (w : World) (caller i : ℕ) (kind : ActKind) → IsCounted w → IsCounted (with_action w caller kind i)
begun w caller i kind it =
    let next = it.next in
    let long = length-append w.acts (new_act w.next_action kind i caller ∷ []) in
    record { numbers = numbered_more 1 w.acts (new_act w.next_action kind i caller) it.numbers (omega arith); next = omega arith }

-- The actions are still numbered from 1 on once one has ended.
ended_by : (w : World) (a : ℕ) (finish : Finish) (o : Outcome) (x : Option Act) → IsCounted w → IsCounted (with_end_of w a finish o x)
ended_by w a finish o None it = it
ended_by w a finish o (Some y) it = record {
  numbers = numbered_ended 1 a o w.acts it.numbers;
  next = it.next ∙ sym (ap (λ n. n + 1) (length-edit_first (λ x. x.action == a) (put_outcome o) w.acts));
}

-- A world with the same actions and next number has them numbered from 1 on too.
kept : (w v : World) → v.acts ≡ w.acts → v.next_action ≡ w.next_action → IsCounted w → IsCounted v
kept w v acts next it = record {
  numbers = subst (IsNumbered 1) (sym acts) it.numbers;
  next = next ∙ it.next ∙ sym (ap (λ xs. length xs + 1) acts);
}

-- The actions are still numbered from 1 on behind an event.
counted_moved : (w : World) (caller : ℕ) (e : Event) (r : Reply) → IsCounted w → IsCounted (moved w caller e r)
counted_moved w caller (Begin kind i) (reply.Begun work) it = begun w caller i kind it
counted_moved w caller (Begin kind i) (reply.Joined a) it = kept w _ refl refl it
counted_moved w caller (End a finish) (reply.Ended o) it = ended_by w a finish o (act_of w.acts a) it
counted_moved w caller (Await a) (reply.Ended o) it = kept w _ refl refl it
counted_moved w caller (Create p child) (reply.Created i) it = kept w _ refl refl it
counted_moved w caller (Mark doom i) reply.Marked it = kept w _ refl refl it
counted_moved w caller (Pick t) (reply.Stopping work) it = begun w caller work.inc Stop it
counted_moved w caller (Pick t) (reply.ShutDown i) it = kept w _ refl refl it
counted_moved w caller (Purge i) (reply.Purged lost) it = kept w _ refl refl it
counted_moved w caller (Exited i) (reply.Left m) it = kept w _ refl refl it
counted_moved w caller e r it = it

-- Actions are still numbered from 1 on, without a gap, behind one more entry.
pub counted_after : (w : World) (e : Entry) → IsCounted w → IsCounted (after w e)
unfolding after
counted_after w e it = kept (moved w e.caller e.event e.reply) _ refl refl (counted_moved w e.caller e.event e.reply it)

-- The actions are still numbered from 1 on behind all entries.
counted_replay : (w : World) (es : List Entry) → IsCounted w → IsCounted (replay w es)
counted_replay w [] it = it
counted_replay w (e ∷ es) it = counted_replay (after w e) es (counted_after w e it)

-- The actions of the world that a history leaves are numbered from 1 on, without a gap.
pub counted_history : (f : Frame) (es : List Entry) → IsCounted (replay (start f) es)
counted_history f es = counted_replay (start f) es (record { numbers = tt; next = refl })
