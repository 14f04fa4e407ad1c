use Rattle.std.proofs.Common.{◌≡◌, Option, IfNone, IfSome, subst, sym}
use Rattle.cm_world.specs.declared.reply.Reply.{Reply}
use Rattle.cm_order.specs.Picking.{MayBePicked}
use Rattle.cm_steps.specs.Chosen.{PicksThis}
use Rattle.cm_laws.specs.Story.{Story, world_of}
use Rattle.cm_audit.specs.Reading.{TellsNoPick}
use Rattle.cm_audit.proofs.lemmas.Judged.{judged_this_by, tells_other, unclosing_by}
use Rattle.cm_audit.proofs.picks.judge_told_pick.Goals as goal

pub judge_own_pick-requires : goal.judge_own_pick-requires
judge_own_pick-requires c =
    subst (λ (s : Story). TellsNoPick (world_of s) c.args.target c.args.given.now) (sym (subst (λ (o : Option Reply). IfNone o (c.pick_this.new.self ≡ c.args.realm.now)) c.in-None.is c.in-Ok.ensures.same))
    (tells_other c.args.realm.now c.requires.legal c.args.target c.args.row c.args.given.now c.requires.told
    (subst (λ (o : Option Reply). IfNone o (MayBePicked (world_of c.args.realm.now).rows c.args.target c.args.row → ⊥)) c.in-None.is c.in-Ok.ensures.none))

pub returns-in-Some : goal.returns-in-Some
returns-in-Some c =
    judged_this_by c.args.realm.now _ c.args.caller c.args.target c.args.row c.args.given.now c.in-Some.reply c.other_pick.result
    c.requires.legal (subst (λ (o : Option Reply). IfSome o (PicksThis c.args.realm.now c.pick_this.new.self c.args.caller c.args.target c.args.row)) c.in-Some.is c.in-Ok.ensures.some) c.requires.told c.other_pick.ensures

pub returns-then-not-may_close : goal.returns-then-not-may_close
returns-then-not-may_close c = unclosing_by _ _ _ _ _ _ _ c.if-not-may_close.true c.may_close.ensures c.in_ok-no_such_step.ensures
