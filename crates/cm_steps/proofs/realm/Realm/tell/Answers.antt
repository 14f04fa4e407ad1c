use Rattle.std.proofs.Common.{◌≡◌, false, None, ◌-◌, ◌++◌, ◌∷◌, [], refl, ap, sym, ◌∙◌, subst, arith}
use Rattle.cm_book.specs.History.{History}
use Rattle.cm_world.specs.declared.reply.Entry.{Entry}
use Rattle.cm_world.specs.AfterInside.{moves}
use Rattle.cm_world.specs.Legal.{IsStep}
use Rattle.cm_laws.specs.Story.{world_of, entry_of}
use Rattle.cm_steps.specs.Inside.{world_in}
use Rattle.cm_world.specs.World.{World}
use Rattle.cm_steps.proofs.lemmas.steps.Going.{goes_on, one_longer, after-quiet}
use Rattle.cm_cache.specs.Keeping.{asked_by}
use Rattle.cm_cache.proofs.lemmas.histories.Dooming.{others_doom_none}
use Rattle.cm_steps.proofs.lemmas.asked.Keepers.{quiet_dooms, goes_beside}
use Rattle.cm_cache.specs.Beside.{is_emptied}
use Rattle.cm_steps.proofs.lemmas.Planning.{planned_same}
use Rattle.cm_steps.proofs.lemmas.steps.Telling.{told_same}
use Rattle.cm_steps.proofs.realm.Realm.tell.Goals as goal

pub invariant_of-self : goal.invariant_of-self
invariant_of-self c =
    let w : World = world_in c.self.inside in
    let here : world_of c.args.self.now ≡ w = ap world_of (sym c.self.view_is) ∙ c.self.invariant.stands.world in
    let same : c.in-Ok.kept ≡ c.args.reply = c.in-Ok.ensures.copy in
    let e : Entry = entry_of c.args.caller c.args.event c.in-Ok.kept in
    let quiet = ap (moves c.args.event) same ∙ c.requires.quiet in
    let pushed : History → History = λ t. record { entries = t.entries ++ e ∷ []; reserved = t.reserved - 1; limit = t.limit } in
    let book = c.put_quiet.ensures.book ∙ ap pushed c.in-Ok.ensures.book in
    let more = ap (λ (t : History). t.entries) book in
    record {
      stands =
          goes_on _ _ _ _ _ c.self.invariant.stands refl more
          (subst (λ r. IsStep w (entry_of c.args.caller c.args.event r)) (sym same)
          (subst (λ v. IsStep v (entry_of c.args.caller c.args.event c.args.reply)) here c.requires.step))
          (after-quiet w c.args.caller c.args.event c.in-Ok.kept quiet ∙ ap (λ n. record w { entries = n }) (one_longer _ _ _ more));
      owes = let r = ap (λ (t : History). t.reserved) book in let was = c.self.invariant.owes in omega arith;
      counted = c.self.invariant.counted;
      spare = c.self.invariant.spare;
      rows = c.self.invariant.rows;
      entries = ap (λ (t : History). t.limit) book ∙ c.self.invariant.entries;
      builtins = c.self.invariant.builtins;
      numbers = c.self.invariant.numbers;
      tasks = c.self.invariant.tasks;
      beside =
          goes_beside c.self.inside e false _ _ c.self.invariant.stands c.self.invariant.beside more
          (subst (λ (v : World). asked_by v c.args.event ≡ None) here c.requires.unasked)
          (others_doom_none w e (quiet_dooms c.args.event c.in-Ok.kept quiet)) c.put_quiet.ensures.keeper;
      planned = planned_same c.self.inside.table.rows (is_emptied e.event e.reply false) c.self.inside.records.plan c.put_quiet.new.self.plan c.self.invariant.planned c.put_quiet.ensures.plan;
      told = told_same c.self.inside.table.rows c.self.inside.records.last c.put_quiet.new.self.last c.put_quiet.ensures.last c.self.invariant.told;
    }
