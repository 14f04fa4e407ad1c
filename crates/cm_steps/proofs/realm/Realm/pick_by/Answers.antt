use Rattle.std.proofs.Common.{subst, sym, ap, inl, inr}
use Rattle.cm_world.specs.declared.action.ActKind.TheVariants.{Stop}
use Rattle.cm_world.specs.declared.action.Work.{Work}
use Rattle.cm_world.specs.After.{with_action}
use Rattle.cm_world.specs.World.{World}
use Rattle.cm_world.specs.Step.{PicksOn}
use Rattle.cm_laws.specs.Story.{world_of}
use Rattle.cm_steps.specs.Answers.{PicksOrWaits}
use Rattle.cm_steps.specs.Tasks.{IsIdleAt}
use Rattle.cm_steps.proofs.lemmas.actions.Begun.{idle_picked}
use Rattle.cm_steps.proofs.realm.Realm.pick_by.Goals as goal

pub tell-requires-clause-step : goal.tell-requires-clause-step
tell-requires-clause-step c =
    let done = subst (PicksOrWaits (world_of c.args.self.now) c.args.target) c.in-Done.is c.requires.answer in
    record { enabled = (c.requires.closing, inl done); allowed = done }

pub begin_action-requires-clause-step : goal.begin_action-requires-clause-step
begin_action-requires-clause-step c =
    let w : World = world_of c.args.self.now in
    let picks : PicksOn w.rows w.next_action c.args.target c.in-Stops.work = subst (PicksOrWaits w c.args.target) c.in-Stops.is c.requires.answer in
    record { enabled = (c.requires.closing, inr (record { inc = c.in-Stops.work.inc; row = picks.row; may = picks.may })); allowed = picks }

pub begin_action-requires-clause-idle : goal.begin_action-requires-clause-idle
begin_action-requires-clause-idle c =
    let w : World = world_of c.args.self.now in
    let idle : IsIdleAt w.rows Stop c.in-Stops.work.inc = idle_picked w.rows w.next_action c.args.target c.in-Stops.work (subst (PicksOrWaits w c.args.target) c.in-Stops.is c.requires.answer) in
    subst (λ (v : Work). IsIdleAt w.rows Stop v.inc) (sym c.get.ensures) idle

pub begin_action-requires-clause-begins : goal.begin_action-requires-clause-begins
begin_action-requires-clause-begins c =
    ap (λ (v : Work). with_action (world_of c.args.self.now) c.args.caller Stop v.inc) (sym c.get.ensures)
