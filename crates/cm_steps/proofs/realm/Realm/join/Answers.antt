use Rattle.std.proofs.Common.{◌≡◌, false, ℕ, ◌+◌, ◌-◌, ◌++◌, ◌∷◌, [], List, refl, ap, sym, ◌∙◌, subst, arith, length, Some, is_some}
use Rattle.cm_book.specs.History.{History}
use Rattle.cm_world.specs.declared.action.Join.{Join}
use Rattle.cm_world.specs.declared.reply.Entry.{Entry}
use Rattle.cm_world.specs.declared.event.Event.TheVariants as event
use Rattle.cm_world.specs.declared.reply.Reply.TheVariants as reply
use Rattle.cm_world.specs.World.{World}
use Rattle.cm_world.specs.Begin.{begin_reply}
use Rattle.cm_world.specs.After.{after}
use Rattle.cm_laws.specs.Story.{world_of, entry_of}
use Rattle.cm_steps.specs.Inside.{world_in}
use Rattle.cm_steps.proofs.lemmas.steps.Going.{goes_on, one_longer}
use Rattle.cm_steps.proofs.lemmas.actions.Joined.{length-joined}
use Rattle.cm_cache.proofs.lemmas.histories.Dooming.{others_doom_none}
use Rattle.cm_steps.proofs.lemmas.asked.Keepers.{goes_beside}
use Rattle.cm_cache.specs.Beside.{is_emptied}
use Rattle.cm_steps.proofs.lemmas.Planning.{planned_same}
use Rattle.cm_steps.proofs.lemmas.steps.Telling.{told_none}
use Rattle.cm_steps.proofs.realm.Realm.join.Goals as goal

pub invariant_of-self-2 : goal.invariant_of-self-2
unfolding after
invariant_of-self-2 c =
    let w : World = world_in c.self.inside in
    let e : Entry = entry_of c.args.caller (event.Begin c.args.kind c.args.inc) (reply.Joined c.args.action) in
    let pushed : History → History = λ t. record { entries = t.entries ++ e ∷ []; reserved = t.reserved - 1; limit = t.limit } in
    let book = c.put_down.ensures.book ∙ ap pushed c.in_ok-add_join.ensures.book in
    let more = ap (λ (t : History). t.entries) book in
    let moved : List Join → ℕ → World = λ js n. record w { joins = js; entries = n } in
    let reply_is = subst (λ v. begin_reply v.rows v.next_action c.args.kind c.args.inc ≡ Some (reply.Joined c.args.action)) (ap world_of (sym c.self.view_is) ∙ c.self.invariant.stands.world) c.requires in
    record {
      stands =
          goes_on _ _ w _ e c.self.invariant.stands refl more
          (record { enabled = ap is_some reply_is; allowed = reply_is })
          (ap (λ js. moved js (length c.self.inside.records.book.entries + 1)) (sym c.in_ok-add_join.ensures.joins)
          ∙ ap (moved c.add_join.new.joins.items) (one_longer _ _ _ more));
      owes =
          let r = ap (λ (t : History). t.reserved) book in
          let grows = length-joined c.args.caller c.args.action c.self.inside.joins.items in
          let long = ap length c.in_ok-add_join.ensures.joins in
          let was = c.self.invariant.owes in
          omega arith;
      counted = c.self.invariant.counted;
      spare = c.self.invariant.spare;
      rows = c.self.invariant.rows;
      entries = ap (λ (t : History). t.limit) book ∙ c.self.invariant.entries;
      builtins = c.self.invariant.builtins;
      numbers = c.self.invariant.numbers;
      tasks = c.self.invariant.tasks;
      beside = goes_beside c.self.inside e false _ _ c.self.invariant.stands c.self.invariant.beside more refl (others_doom_none w e refl) c.put_down.ensures.keeper;
      planned = planned_same c.self.inside.table.rows (is_emptied e.event e.reply false) c.self.inside.records.plan c.put_down.new.self.plan c.self.invariant.planned c.put_down.ensures.plan;
      told = told_none c.self.inside.table.rows c.put_down.new.self.last c.put_down.ensures.last;
    }
