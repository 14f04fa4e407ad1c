use Rattle.std.proofs.Common.{ℕ, subst, sym}
use Rattle.cm_world.specs.Step.{MayEnd}
use Rattle.cm_laws.specs.Story.{world_of}
use Rattle.cm_steps.specs.Ends.{finish_of}
use Rattle.cm_manager.proofs.lemmas.onward.Turning.{entered_by, may_end, may_leave, took_by, same_pass, tells_on, told_as}
use Rattle.cm_manager.proofs.manager.Manager.end_turn.Goals as goal

pub finish-outcome-requires : goal.finish-outcome-requires
finish-outcome-requires g c = λ legal.
    subst (λ (n : ℕ). MayEnd (world_of c.state.result.now).acts n c.args.action (finish_of c.args.ending)) (sym c.caller-caller.ensures)
    (may_end _ _ _ _ (entered_by _ _ _ c.enter-held.ensures c.state.ensures.value legal) c.requires.may)

pub leave-requires-clause-entries : goal.leave-requires-clause-entries
leave-requires-clause-entries g c =
    may_leave _ _ _ _ _ _ c.enter-held.ensures c.state.ensures.value c.caller-caller.ensures (tells_on _ _ _ _ _ c.finish-outcome.ensures.legal c.finish-outcome.ensures.tells)

pub returns : goal.returns
returns g c =
    let it = c.finish-outcome.ensures in
    let took = took_by _ _ _ _ _ _ _ c.enter-held.ensures c.state.ensures.value it.legal c.caller-caller.ensures (tells_on _ _ _ _ _ it.legal it.tells) c.leave.ensures in
    record { same = same_pass _ _ _ _ _ took; told = told_as _ _ _ _ _ _ _ c.caller-caller.ensures took }
