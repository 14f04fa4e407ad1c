use Rattle.std.proofs.Common.{◌≡◌, false, refl, sym, ◌∙◌, ap, subst, inr, IsTrue}
use Rattle.cm_world.specs.declared.reply.Entry.{Entry}
use Rattle.cm_world.specs.declared.event.Event.TheVariants as event
use Rattle.cm_world.specs.declared.reply.Reply.TheVariants as reply
use Rattle.cm_world.specs.World.{World}
use Rattle.cm_world.specs.End.{changed, set_shut}
use Rattle.cm_world.specs.Step.{PicksOff, may_close}
use Rattle.cm_laws.specs.Story.{world_of, entry_of}
use Rattle.cm_steps.specs.Inside.{world_in}
use Rattle.cm_laws.proofs.lemmas.actions.Tasks.{tasked_changed}
use Rattle.cm_steps.proofs.lemmas.steps.Stepping.{one_pushed, kept_rows}
use Rattle.cm_cache.proofs.lemmas.histories.Dooming.{others_doom_none}
use Rattle.cm_steps.proofs.realm.Realm.shut.Goals as goal

pub invariant_of-self-2 : goal.invariant_of-self-2
invariant_of-self-2 c =
    let w : World = world_in c.self.inside in
    let here : world_of c.args.self.now ≡ w = ap world_of (sym c.self.view_is) ∙ c.self.invariant.stands.world in
    let e : Entry = entry_of c.args.caller (event.Pick c.args.target) (reply.ShutDown c.args.inc) in
    let closing = subst (λ (v : World). IsTrue (may_close v.rows c.args.target)) here c.requires.closing in
    let picks : PicksOff w.rows c.args.target c.args.inc = subst (λ (v : World). PicksOff v.rows c.args.target c.args.inc) here c.requires.picks in
    kept_rows c.self.inside _ e (changed c.args.inc set_shut w.rows) w.next_inc c.self.invariant
    (record { enabled = (closing, inr (record { inc = c.args.inc; row = picks.row; may = picks.may })); allowed = picks })
    refl
    (tasked_changed w.rows w.acts c.args.inc set_shut (λ r. refl) (λ r. refl) (λ r. refl) c.self.invariant.tasks)
    (record { frame = refl; table = c.set_shut.ensures; acts = refl; resolves = refl; joins = refl; book = one_pushed _ _ _ e c.in_ok-reserve.ensures.ok c.put_down.ensures.book; doomed = false; unasked = refl; told = others_doom_none w e refl; keeper = c.put_down.ensures.keeper; plan = c.put_down.ensures.plan; last = c.put_down.ensures.last })
