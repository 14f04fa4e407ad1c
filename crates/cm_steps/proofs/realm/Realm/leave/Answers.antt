use Rattle.std.proofs.Common.{◌≡◌, List, false, refl, ap, sym, ◌∙◌, subst, Some, is_some}
use Rattle.cm_table.specs.Tree.{Tree}
use Rattle.cm_world.specs.declared.row.Row.{Row}
use Rattle.cm_world.specs.declared.reply.Entry.{Entry}
use Rattle.cm_world.specs.declared.event.Event.TheVariants as event
use Rattle.cm_world.specs.declared.reply.Reply.TheVariants as reply
use Rattle.cm_world.specs.World.{World}
use Rattle.cm_world.specs.Reports.{exit_reply}
use Rattle.cm_world.specs.End.{changed, set_on}
use Rattle.cm_world.specs.Expiring.{expired}
use Rattle.cm_laws.specs.Story.{world_of, entry_of}
use Rattle.cm_laws.proofs.lemmas.actions.Tasks.{tasked_changed}
use Rattle.cm_laws.proofs.lemmas.sound.Expiries.{tasked_expired}
use Rattle.cm_steps.specs.Inside.{world_in}
use Rattle.cm_steps.proofs.lemmas.steps.Stepping.{one_pushed, kept_rows}
use Rattle.cm_cache.specs.Beside.{IsReported, goes_some}
use Rattle.cm_cache.proofs.lemmas.histories.Dooming.{exits_doom}
use Rattle.cm_steps.proofs.lemmas.asked.Keepers.{increasing_in}
use Rattle.cm_steps.proofs.realm.Realm.leave.Goals as goal

pub invariant_of-self-2 : goal.invariant_of-self-2
invariant_of-self-2 c =
    let w : World = world_in c.self.inside in
    let here : world_of c.args.self.now ≡ w = ap world_of (sym c.self.view_is) ∙ c.self.invariant.stands.world in
    let e : Entry = entry_of c.args.caller (event.Exited c.args.inc) (reply.Left c.in_ok-kept.kept) in
    let off : List Row = changed c.args.inc (set_on false) w.rows in
    let reply_is =
    subst (λ (v : World). exit_reply v.rows c.args.inc ≡ Some (reply.Left c.args.moniker)) here c.requires
    ∙ ap (λ m. Some (reply.Left m)) (sym c.in_ok-kept.ensures.copy) in
    kept_rows c.self.inside _ e (expired c.args.inc off) w.next_inc c.self.invariant
    (record { enabled = ap is_some reply_is; allowed = reply_is })
    refl
    (tasked_expired off c.args.inc w.acts
    (tasked_changed w.rows w.acts c.args.inc (set_on false) (λ r. refl) (λ r. refl) (λ r. refl) c.self.invariant.tasks))
    (record {
      frame = refl;
      table = c.expire-doomed.ensures.rows ∙ ap (λ (t : Tree). record t { rows = expired c.args.inc t.rows }) c.set_on.ensures;
      acts = refl;
      resolves = refl;
      joins = refl;
      book = one_pushed _ _ _ e c.in_ok-kept.ensures.book c.put_down.ensures.book;
      doomed = c.expire-doomed.result;
      unasked = refl;
      told =
          subst (IsReported w e) (sym (c.expire-doomed.ensures.goes ∙ ap (λ (t : Tree). goes_some t.rows c.args.inc) c.set_on.ensures))
          (exits_doom w c.args.caller c.args.inc c.in_ok-kept.kept (increasing_in c.self.inside c.self.invariant.stands));
      keeper = c.put_down.ensures.keeper;
      plan = c.put_down.ensures.plan;
      last = c.put_down.ensures.last;
    })
