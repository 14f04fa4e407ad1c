use Rattle.std.proofs.Common.{◌≡◌, Some, ap, is_some, subst}
use Rattle.cm_world.specs.declared.reply.Reply.TheVariants.{Begun}
use Rattle.cm_world.specs.Begin.{begin_reply}
use Rattle.cm_world.specs.World.{World}
use Rattle.cm_laws.specs.Story.{world_of}
use Rattle.cm_steps.specs.Answers.{BeginsOrWaits}
use Rattle.cm_steps.proofs.lemmas.actions.Begun.{idle_begun}
use Rattle.cm_steps.proofs.realm.Realm.begin_by.Goals as goal

pub begin_action-requires-clause-step : goal.begin_action-requires-clause-step
begin_action-requires-clause-step c =
    let w : World = world_of c.args.self.now in
    let is : begin_reply w.rows w.next_action c.args.kind c.args.inc ≡ Some (Begun c.in-Begins.work) = subst (BeginsOrWaits w c.args.kind c.args.inc) c.in-Begins.is c.requires.answer in
    record { enabled = ap is_some is; allowed = is }

pub begin_action-requires-clause-idle : goal.begin_action-requires-clause-idle
begin_action-requires-clause-idle c =
    let w : World = world_of c.args.self.now in
    idle_begun w.rows w.next_action c.args.inc c.args.kind c.in-Begins.work (subst (BeginsOrWaits w c.args.kind c.args.inc) c.in-Begins.is c.requires.answer)
