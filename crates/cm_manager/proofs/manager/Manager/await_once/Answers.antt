use Rattle.std.proofs.Common.{ℕ, subst, sym}
use Rattle.cm_laws.specs.Story.{world_of}
use Rattle.cm_laws.specs.Laws.{IsJoined}
use Rattle.cm_manager.proofs.lemmas.onward.Turning.{entered_by, may_await, may_leave, took_by, same_pass, awaits_on, awaited_as, unended_by}
use Rattle.cm_manager.proofs.manager.Manager.await_once.Goals as goal

pub outcome_at-outcome-requires : goal.outcome_at-outcome-requires
outcome_at-outcome-requires g c = λ legal.
    subst (λ (n : ℕ). IsJoined (world_of c.state.result.now) n c.args.action) (sym c.caller-caller.ensures)
    (may_await _ _ _ (entered_by _ _ _ c.enter-held.ensures c.state.ensures.value legal) c.requires.joined)

pub leave-requires-clause-entries : goal.leave-requires-clause-entries
leave-requires-clause-entries g c =
    may_leave _ _ _ _ _ _ c.enter-held.ensures c.state.ensures.value c.caller-caller.ensures (awaits_on _ _ _ _ _ c.outcome_at-outcome.ensures.legal c.outcome_at-outcome.ensures.awaits)

pub returns : goal.returns
returns g c =
    let it = c.outcome_at-outcome.ensures in
    let took = took_by _ _ _ _ _ _ _ c.enter-held.ensures c.state.ensures.value it.legal c.caller-caller.ensures (awaits_on _ _ _ _ _ it.legal it.awaits) c.leave.ensures in
    record {
      same = same_pass _ _ _ _ _ took;
      awaited = awaited_as _ _ _ _ _ _ _ c.caller-caller.ensures took;
      none = unended_by _ _ _ _ _ _ _ took it.none;
    }
