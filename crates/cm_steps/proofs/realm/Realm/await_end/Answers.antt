use Rattle.std.proofs.Common.{◌≡◌, false, ℕ, ◌+◌, List, is_some, refl, ap, sym, ◌∙◌, subst, arith, length}
use Rattle.std.specs.Prelude.{IsTrue, option_map}
use Rattle.std.specs.List.{list_any}
use Rattle.cm_book.specs.History.{History}
use Rattle.cm_world.specs.declared.action.Join.{Join}
use Rattle.cm_world.specs.declared.reply.Reply.TheVariants as reply
use Rattle.cm_world.specs.World.{World, outcome_of}
use Rattle.cm_world.specs.Step.{is_join}
use Rattle.cm_world.specs.After.{after}
use Rattle.cm_world.specs.declared.event.Event.TheVariants as event
use Rattle.cm_world.specs.declared.reply.Entry.{Entry}
use Rattle.cm_laws.specs.Story.{world_of, entry_of}
use Rattle.cm_laws.specs.Tasks.{IsNumbered}
use Rattle.cm_steps.specs.Inside.{world_in}
use Rattle.cm_steps.proofs.lemmas.steps.Counts.{length-unjoined}
use Rattle.cm_steps.proofs.lemmas.steps.Going.{goes_on, one_longer}
use Rattle.cm_cache.proofs.lemmas.histories.Dooming.{others_doom_none}
use Rattle.cm_steps.proofs.lemmas.asked.Keepers.{goes_beside}
use Rattle.cm_cache.specs.Beside.{is_emptied}
use Rattle.cm_steps.proofs.lemmas.Planning.{planned_same}
use Rattle.cm_steps.proofs.lemmas.steps.Telling.{told_none}
use Rattle.cm_steps.proofs.realm.Realm.await_end.Goals as goal

pub outcome_at-requires : goal.outcome_at-requires
outcome_at-requires c = subst (IsNumbered 1) (sym c.as_slice.ensures.value) c.self.invariant.numbers

pub invariant_of-self : goal.invariant_of-self
unfolding after
invariant_of-self c =
    let e : Entry = entry_of c.args.caller (event.Await c.args.action) (reply.Ended c.in_ok-outcome.outcome) in
    let more = ap (λ (t : History). t.entries) c.put_down.ensures.book in
    let has = subst (λ (w : World). IsTrue (list_any (is_join c.args.caller c.args.action) w.joins)) (ap world_of (sym c.self.view_is) ∙ c.self.invariant.stands.world) c.requires.joined in
    let found = sym (c.outcome_at.ensures ∙ ap (λ xs. outcome_of xs c.args.action) c.as_slice.ensures.value) ∙ c.in_ok-outcome.was in
    let moved : List Join → ℕ → World = λ js n. record (world_in c.self.inside) { joins = js; entries = n } in
    record {
      stands =
          goes_on _ _ _ _ _ c.self.invariant.stands refl more
          (record { enabled = record { joined = has; ended = ap is_some found }; allowed = ap (option_map reply.Ended) found })
          (ap (λ js. moved js (length c.self.inside.records.book.entries + 1)) (sym c.take_join.ensures) ∙ ap (moved c.take_join.new.joins.items) (one_longer _ _ _ more));
      owes =
          let r = ap (λ (t : History). t.reserved) c.put_down.ensures.book in
          let less : length c.take_join.new.joins.items + 1 ≡ length c.self.inside.joins.items = ap (λ js. length js + 1) c.take_join.ensures ∙ length-unjoined c.args.caller c.args.action c.self.inside.joins.items has in
          let was = c.self.invariant.owes in
          omega arith;
      counted = c.self.invariant.counted;
      spare = c.self.invariant.spare;
      rows = c.self.invariant.rows;
      entries = ap (λ (t : History). t.limit) c.put_down.ensures.book ∙ c.self.invariant.entries;
      builtins = c.self.invariant.builtins;
      numbers = c.self.invariant.numbers;
      tasks = c.self.invariant.tasks;
      beside = goes_beside c.self.inside e false _ _ c.self.invariant.stands c.self.invariant.beside more refl (others_doom_none (world_in c.self.inside) e refl) c.put_down.ensures.keeper;
      planned = planned_same c.self.inside.table.rows (is_emptied e.event e.reply false) c.self.inside.records.plan c.put_down.new.self.plan c.self.invariant.planned c.put_down.ensures.plan;
      told = told_none c.self.inside.table.rows c.put_down.new.self.last c.put_down.ensures.last;
    }
