use Rattle.cm_manager.proofs.lemmas.left.Due.{open_at}
use Rattle.cm_manager.proofs.lemmas.onward.Turning.{entered_by, may_leave, took_by, same_pass, turned_as, busy_by, steps_on}
use Rattle.cm_manager.proofs.manager.Manager.ask_once.Goals as goal

pub step-went-requires : goal.step-went-requires
step-went-requires g c =
    open_at c.due_events_stay.ensures.stays c.due_events_stay.ensures.allowed _ _ _ (entered_by _ _ _ c.enter-held.ensures c.state-realm.ensures.value c.check_history.ensures) c.requires.due

pub leave-requires-clause-entries : goal.leave-requires-clause-entries
leave-requires-clause-entries g c =
    may_leave _ _ _ _ _ _ c.enter-held.ensures c.state-realm.ensures.value c.caller-caller.ensures (steps_on _ _ _ _ _ c.check_history.ensures c.step-went.ensures)

pub returns : goal.returns
returns g c =
    let legal = c.check_history.ensures in
    let step = c.step-went.ensures in
    let took = took_by _ _ _ _ _ _ _ c.enter-held.ensures c.state-realm.ensures.value legal c.caller-caller.ensures (steps_on _ _ _ _ _ legal step) c.leave.ensures in
    record {
      same = same_pass _ _ _ _ _ took;
      turned = turned_as _ _ _ _ _ _ _ c.caller-caller.ensures took step;
      busy = busy_by _ _ _ _ _ _ _ took step;
    }
