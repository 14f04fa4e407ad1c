use Rattle.std.proofs.Common.{◌≡◌, List, true, ◌++◌, ◌∷◌, [], IsTrue, ap, refl, sym, ◌∙◌, subst}
use Rattle.cm_book.specs.History.{History}
use Rattle.cm_world.specs.declared.reply.Entry.{Entry}
use Rattle.cm_world.specs.declared.event.Event.{Event}
use Rattle.cm_world.specs.declared.route.Start.TheVariants.{UseAt}
use Rattle.cm_world.specs.declared.route.Walked.{Walked}
use Rattle.cm_world.specs.World.{World}
use Rattle.cm_world.specs.Route.{IsWalked}
use Rattle.cm_world.specs.Legal.{IsStep}
use Rattle.cm_laws.specs.Story.{Story, world_of, entry_of}
use Rattle.cm_cache.proofs.lemmas.histories.Going.{beside_is_few, asked_after}
use Rattle.cm_steps.specs.Asking.{may_ask, event_of, reply_of, IsRightAt}
use Rattle.cm_steps.specs.Inside.{world_in}
use Rattle.cm_steps.proofs.lemmas.asked.Askers.{asks_for, asks_step}
use Rattle.cm_steps.proofs.lemmas.steps.Going.{goes_on, one_longer}
use Rattle.cm_steps.proofs.lemmas.asked.Keepers.{asks_beside, right_in}
use Rattle.cm_steps.proofs.realm.Realm.answer.Goals as goal

pub answer-requires : goal.answer-requires
answer-requires c =
    subst (λ bs. IsRightAt c.self.inside.table.rows bs c.self.inside.records.keeper.answers c.args.inc c.args.path) (sym c.self.invariant.builtins)
    (λ v is. right_in c.self.inside c.args.inc c.args.path v c.self.invariant.stands c.self.invariant.beside is)

pub tell_found-requires : goal.tell_found-requires
tell_found-requires c = beside_is_few c.self.inside.frame c.self.inside.records.book.entries c.self.inside.records.keeper c.self.invariant.beside

pub invariant_of-self-2 : goal.invariant_of-self-2
invariant_of-self-2 c =
    let w : World = world_in c.self.inside in
    let here : world_of c.args.self.now ≡ w = ap world_of (sym c.self.view_is) ∙ c.self.invariant.stands.world in
    let v : Walked = c.in_ok-answered.answered.walked in
    let event : Event = event_of c.args.asking c.args.inc c.args.path in
    let e : Entry = entry_of c.args.caller event (reply_of c.args.asking w.rows v) in
    let pushed : Entry → History = λ x. record c.self.inside.records.book { entries = c.self.inside.records.book.entries ++ x ∷ [] } in
    let book =
    c.in_ok-told.ensures.book
    ∙ ap (λ x. pushed (entry_of c.args.caller x c.reply_of-reply.result)) c.event_of-event.ensures
    ∙ ap (λ r. pushed (entry_of c.args.caller event r)) c.reply_of-reply.ensures in
    let more = ap (λ (t : History). t.entries) book in
    let may : may_ask c.args.asking w.rows c.args.inc ≡ true = subst (λ (x : World). IsTrue (may_ask c.args.asking x.rows c.args.inc)) here c.requires in
    let walked : IsWalked w.rows w.frame.builtins (UseAt c.args.inc c.args.path) v =
    subst (λ bs. IsWalked w.rows bs (UseAt c.args.inc c.args.path) v) c.self.invariant.builtins c.in_ok-answered.ensures.walked in
    let asks = asks_for c.args.asking w c.args.inc c.args.path may in
    record {
      stands =
          goes_on _ _ _ _ e c.self.invariant.stands refl more
          (asks_step c.args.asking w c.args.caller c.args.inc c.args.path v may walked)
          (asked_after w e (record { inc = c.args.inc; path = c.args.path }) asks ∙ ap (λ n. record w { entries = n }) (one_longer _ _ _ more));
      owes = ap (λ (t : History). t.reserved) book ∙ c.self.invariant.owes;
      counted = c.self.invariant.counted;
      spare = c.self.invariant.spare;
      rows = c.self.invariant.rows;
      entries = ap (λ (t : History). t.limit) book ∙ c.self.invariant.entries;
      builtins = c.self.invariant.builtins;
      numbers = c.self.invariant.numbers;
      tasks = c.self.invariant.tasks;
      beside =
          asks_beside c.self.inside e c.args.inc c.args.path v _ _ c.self.invariant.stands c.self.invariant.beside more asks walked
          (c.in_ok-told.ensures.keeper ∙ c.in_ok-answered.ensures.found);
      planned = c.self.invariant.planned;
      told = c.self.invariant.told;
    }

pub returns-clause-step : goal.returns-clause-step
returns-clause-step c =
    let w : World = world_in c.self.inside in
    let here : world_of c.args.self.now ≡ w = ap world_of (sym c.self.view_is) ∙ c.self.invariant.stands.world in
    let v : Walked = c.in_ok-answered.answered.walked in
    let event : Event = event_of c.args.asking c.args.inc c.args.path in
    let made : c.in_ok-told.told ≡ reply_of c.args.asking w.rows v = c.in_ok-told.ensures.told ∙ c.reply_of-reply.ensures in
    let may : may_ask c.args.asking w.rows c.args.inc ≡ true = subst (λ (x : World). IsTrue (may_ask c.args.asking x.rows c.args.inc)) here c.requires in
    let walked : IsWalked w.rows w.frame.builtins (UseAt c.args.inc c.args.path) v =
    subst (λ bs. IsWalked w.rows bs (UseAt c.args.inc c.args.path) v) c.self.invariant.builtins c.in_ok-answered.ensures.walked in
    let told = c.in_ok-told.told in
    let old : List Entry = c.self.inside.records.book.entries in
    record {
      entries =
          ap (λ (t : History). t.entries) c.in_ok-told.ensures.book
          ∙ ap (λ x. old ++ entry_of c.args.caller x c.reply_of-reply.result ∷ []) c.event_of-event.ensures
          ∙ ap (λ r. old ++ entry_of c.args.caller event r ∷ []) (sym c.in_ok-told.ensures.told)
          ∙ ap (λ (s : Story). s.entries ++ entry_of c.args.caller event told ∷ []) c.self.view_is;
      frame = ap (λ (s : Story). s.frame) c.self.view_is;
      step =
          subst (λ x. IsStep x (entry_of c.args.caller event told)) (sym here)
          (subst (λ r. IsStep w (entry_of c.args.caller event r)) (sym made)
          (asks_step c.args.asking w c.args.caller c.args.inc c.args.path v may walked));
    }
