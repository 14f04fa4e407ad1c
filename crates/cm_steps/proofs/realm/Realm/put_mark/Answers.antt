use Rattle.std.proofs.Common.{◌≡◌, cond, refl, sym, ◌∙◌, ap, subst}
use Rattle.cm_world.specs.declared.row.Row.{Row}
use Rattle.cm_world.specs.declared.reply.Entry.{Entry}
use Rattle.cm_world.specs.declared.event.Event.TheVariants as event
use Rattle.cm_world.specs.declared.reply.Reply.TheVariants as reply
use Rattle.cm_world.specs.World.{World}
use Rattle.cm_world.specs.End.{changed, set_closing, set_doomed}
use Rattle.cm_world.specs.Marks.{mark_reply}
use Rattle.cm_laws.specs.Story.{world_of, entry_of}
use Rattle.cm_steps.specs.Inside.{world_in}
use Rattle.cm_steps.proofs.lemmas.steps.Stepping.{one_pushed, kept_rows}
use Rattle.cm_steps.proofs.lemmas.expiries.Removing.{tasked_marked}
use Rattle.cm_cache.proofs.lemmas.histories.Dooming.{marks_doom}
use Rattle.cm_steps.proofs.realm.Realm.put_mark.Goals as goal

pub invariant_of-self-2 : goal.invariant_of-self-2
invariant_of-self-2 c =
    let w : World = world_in c.self.inside in
    let here : world_of c.args.self.now ≡ w = ap world_of (sym c.self.view_is) ∙ c.self.invariant.stands.world in
    let e : Entry = entry_of c.args.caller (event.Mark c.args.doom c.args.inc) reply.Marked in
    let mark : Row → Row = cond c.args.doom set_doomed set_closing in
    let marked : mark_reply w.rows c.args.doom c.args.inc ≡ reply.Marked = subst (λ (v : World). mark_reply v.rows c.args.doom c.args.inc ≡ reply.Marked) here c.requires in
    kept_rows c.self.inside _ e (changed c.args.inc mark w.rows) w.next_inc c.self.invariant
    (record { enabled = tt; allowed = sym marked })
    refl
    (tasked_marked w.rows w.acts c.args.inc c.args.doom c.self.invariant.tasks)
    (record {
      frame = refl;
      table = c.set_mark.ensures;
      acts = refl;
      resolves = refl;
      joins = refl;
      book = one_pushed _ _ _ e c.in_ok-reserve.ensures.ok c.put_down.ensures.book;
      doomed = c.args.doom;
      unasked = refl;
      told = marks_doom w c.args.caller c.args.inc c.args.doom marked;
      keeper = c.put_down.ensures.keeper;
      plan = c.put_down.ensures.plan;
      last = c.put_down.ensures.last;
    })
