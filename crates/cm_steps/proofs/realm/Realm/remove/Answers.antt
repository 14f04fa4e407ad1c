use Rattle.std.proofs.Common.{◌≡◌, false, true, cond, map, refl, sym, ◌∙◌, ap, subst, IsTrue}
use Rattle.cm_world.specs.declared.reply.Entry.{Entry}
use Rattle.cm_world.specs.declared.event.Event.TheVariants as event
use Rattle.cm_world.specs.declared.reply.Reply.TheVariants as reply
use Rattle.cm_world.specs.World.{World}
use Rattle.cm_world.specs.Rows.{is_live, has_doomed, subtree, is_subtree_shut}
use Rattle.cm_world.specs.Marks.{lost_of}
use Rattle.cm_world.specs.Step.{may_purge}
use Rattle.cm_world.specs.After.{others_than}
use Rattle.cm_laws.specs.Story.{world_of, entry_of}
use Rattle.cm_steps.specs.Inside.{world_in}
use Rattle.cm_steps.proofs.lemmas.steps.Stepping.{one_pushed, kept_rows, sound_in}
use Rattle.cm_laws.proofs.lemmas.sound.Tasks.{tasked_purged}
use Rattle.cm_steps.proofs.lemmas.expiries.Removing.{purge_shut}
use Rattle.cm_cache.proofs.lemmas.histories.Dooming.{others_doom_none}
use Rattle.cm_steps.proofs.realm.Realm.remove.Goals as goal

pub invariant_of-self-2 : goal.invariant_of-self-2
invariant_of-self-2 c =
    let w : World = world_in c.self.inside in
    let i = c.args.inc in
    let here : world_of c.args.self.now ≡ w = ap world_of (sym c.self.view_is) ∙ c.self.invariant.stands.world in
    let e : Entry = entry_of c.args.caller (event.Purge i) (reply.Purged c.in_ok-kept.kept) in
    let may : may_purge w.rows i ≡ true = subst (λ (v : World). IsTrue (may_purge v.rows i)) here c.requires.purgeable in
    let lives : is_live w.rows i ≡ true = subst (λ (v : World). IsTrue (is_live v.rows i)) here c.requires.lives in
    let lost : c.in_ok-kept.kept ≡ map (lost_of w.rows) (subtree w.rows i) = c.in_ok-kept.ensures.copy ∙ subst (λ (v : World). c.args.lost ≡ map (lost_of v.rows) (subtree v.rows i)) here c.requires.lost in
    kept_rows c.self.inside _ e (others_than w.rows i) w.next_inc c.self.invariant
    (record {
      enabled = may;
      allowed = ap reply.Purged lost ∙ sym (ap (λ b. cond b (reply.Purged (map (lost_of w.rows) (subtree w.rows i))) reply.PurgedBefore) lives);
    })
    refl
    (tasked_purged w.rows w.next_inc i w.acts (sound_in c.trees_stay_sound.ensures.sound c.self.inside c.self.invariant) (purge_shut (is_live w.rows i) (has_doomed w.rows i) (is_subtree_shut w.rows i) lives may) c.self.invariant.tasks)
    (record {
      frame = refl;
      table = c.remove_below.ensures;
      acts = refl;
      resolves = refl;
      joins = refl;
      book = one_pushed _ _ _ e c.in_ok-kept.ensures.book c.put_down.ensures.book;
      doomed = false;
      unasked = refl;
      told = others_doom_none w e refl;
      keeper = c.put_down.ensures.keeper;
      plan = c.put_down.ensures.plan;
      last = c.put_down.ensures.last;
    })
