use Rattle.cm_manager.proofs.lemmas.onward.BegunOnce.{begun_once}
use Rattle.cm_manager.proofs.lemmas.onward.Streaming.{streams_told}
use Rattle.cm_manager.proofs.streaming.stream_at.Goals as goal

pub returns-in-Tailed-clause-streams : goal.returns-in-Tailed-clause-streams
returns-in-Tailed-clause-streams c =
    streams_told c.args.realm.now _ c.args.caller c.args.inc c.args.from c.in-Tailed.next c.in_ok-other.other c.in_ok-told.told c.in_ok-scope.scope c.tree.result.now.rows c.entries.result.now
    c.in_ok-other.ensures.step c.in_ok-other.ensures.room c.in-Tailed.is c.tree.ensures.rows c.in_ok-scope.ensures c.entries.ensures.entries c.in_ok-told.ensures

pub follow-requires : goal.follow-requires
follow-requires c = begun_once c.outcomes_are_one.ensures.one c.args.realm.now.frame c.args.realm.now.entries c.entries.result.now c.entries.ensures.legal c.entries.ensures.entries
