use Rattle.std.proofs.Common.{◌≡◌, IsTrue, IfOk, None, sym, ◌∙◌, ap, subst}
use Rattle.cm_world.specs.Legal.{IsStep}
use Rattle.cm_world.specs.declared.route.Start.TheVariants.{UseAt}
use Rattle.cm_world.specs.Openings.{WalksUnless}
use Rattle.cm_world.specs.World.{World}
use Rattle.cm_world.specs.AfterInside.{moves}
use Rattle.cm_laws.specs.Story.{world_of, entry_of, AddsEntry}
use Rattle.cm_cache.specs.Keeping.{asked_by}
use Rattle.cm_steps.specs.Asking.{may_ask, event_of, reply_of, refusal_of}
use Rattle.cm_steps.specs.Inside.{world_in}
use Rattle.cm_steps.proofs.lemmas.asked.Askers.{asks_none, asks_quiet, refused_step}
use Rattle.cm_steps.proofs.realm.Realm.ask.Goals as goal

pub answer-requires : goal.answer-requires
answer-requires c =
    subst (λ (w : World). IsTrue (may_ask c.args.asking w.rows c.args.inc)) (sym (ap world_of (sym c.self.view_is) ∙ c.self.invariant.stands.world))
    (sym c.asks.ensures ∙ c.if-asks.true)

pub tell-requires-clause-quiet : goal.tell-requires-clause-quiet
tell-requires-clause-quiet c =
    ap (λ e. moves e c.in_ok-reply.reply) c.event_of-event.ensures ∙ asks_quiet c.args.asking c.args.inc c.in_ok-path.path c.in_ok-reply.reply

pub tell-requires-clause-unasked : goal.tell-requires-clause-unasked
tell-requires-clause-unasked c =
    ap (asked_by (world_of c.args.self.now)) c.event_of-event.ensures
    ∙ subst (λ (w : World). asked_by w (event_of c.args.asking c.args.inc c.in_ok-path.path) ≡ None) (sym (ap world_of (sym c.self.view_is) ∙ c.self.invariant.stands.world))
    (asks_none c.args.asking (world_in c.self.inside) c.args.inc c.in_ok-path.path (sym c.asks.ensures ∙ c.if-asks.false))

pub tell-requires-clause-step : goal.tell-requires-clause-step
tell-requires-clause-step c =
    let w : World = world_in c.self.inside in
    let rows = c.self.inside.table.rows in
    let reply = c.in_ok-reply.reply in
    let told : WalksUnless rows w.frame.builtins (UseAt c.args.inc c.in_ok-path.path) (reply_of c.args.asking rows) (refusal_of c.args.asking rows c.args.inc) reply =
    subst (λ bs. WalksUnless rows bs (UseAt c.args.inc c.in_ok-path.path) (reply_of c.args.asking rows) (refusal_of c.args.asking rows c.args.inc) reply) c.self.invariant.builtins c.in_ok-reply.ensures in
    subst (λ e. IsStep (world_of c.args.self.now) (entry_of c.args.caller e reply)) (sym c.event_of-event.ensures)
    (subst (λ v. IsStep v (entry_of c.args.caller (event_of c.args.asking c.args.inc c.in_ok-path.path) reply)) (sym (ap world_of (sym c.self.view_is) ∙ c.self.invariant.stands.world))
    (refused_step c.args.asking w c.args.caller c.args.inc c.in_ok-path.path reply told))

pub returns-clause-step : goal.returns-clause-step
returns-clause-step c =
    subst (λ e. IfOk c.tell.result (λ told. AddsEntry c.args.self.now c.tell.new.self c.args.caller e told))
    (c.event_of-event.ensures ∙ ap (event_of c.args.asking c.args.inc) c.in_ok-path.ensures.cases) c.tell.ensures.step
