use Rattle.std.proofs.Common.{subst, sym}
use Rattle.cm_manager.specs.Streaming.{StreamedBy}
use Rattle.cm_manager.proofs.lemmas.onward.Turning.{may_leave, took_by, same_pass}
use Rattle.cm_manager.proofs.lemmas.onward.Streaming.{streams_on, streamed_as}
use Rattle.cm_manager.proofs.manager.Manager.events_at.Goals as goal

pub leave-requires-clause-entries : goal.leave-requires-clause-entries
leave-requires-clause-entries g c =
    may_leave _ _ _ _ _ _ c.enter-held.ensures c.state.ensures.value c.caller-caller.ensures (streams_on _ _ _ _ _ _ c.stream_at-went.ensures.legal c.stream_at-went.ensures.streams)

pub returns : goal.returns
returns g c =
    let it = c.stream_at-went.ensures in
    let took = took_by _ _ _ _ _ _ _ c.enter-held.ensures c.state.ensures.value it.legal c.caller-caller.ensures (streams_on _ _ _ _ _ _ it.legal it.streams) c.leave.ensures in
    record {
      same = same_pass _ _ _ _ _ took;
      streamed = subst (StreamedBy c.args.inc c.args.from c.args.pass c.leave.result) (sym c.answer_in.ensures) (streamed_as _ _ _ _ _ _ _ _ c.caller-caller.ensures it.streams took);
    }
