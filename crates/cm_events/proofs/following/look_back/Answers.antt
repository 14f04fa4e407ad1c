use Rattle.std.proofs.Common.{◌+◌, ◌-◌, arith}
use Rattle.cm_events.proofs.lemmas.Seeking.{all_on, all_prefix, all_found}
use Rattle.cm_events.proofs.following.look_back.Goals.{then-loop-back-test+else-not-is_empty, else-loop-back-test}
use Rattle.cm_events.proofs.following.look_back.Goals as goal

pub loop-back-preserved : goal.loop-back-preserved
loop-back-preserved c =
    let left = c.loop-back-test.true in
    let early = c.loop-back.invariant.early in
    let within = c.requires.within in
    record {
      early = omega arith;
      stand = all_on c.args.entries.now c.args.start c.loop-back.back (c.loop-back.back - 1) c.index-entries-back.result c.loop-back.left c.find_work.new.left c.args.wanted c.loop-back.works c.find_work.new.works
          c.requires.once (omega arith) (omega arith) c.index-entries-back.is c.loop-back.invariant.stand c.in_ok-find_work.ensures;
    }

pub returns : goal.returns
returns c = elim c.loop-back-test.branch [
  | then-loop-back-test+else-not-is_empty w ↦
      all_found c.args.entries.now c.args.start c.loop-back.back c.loop-back.left c.args.wanted c.loop-back.works (w.is_empty.ensures.0 w.if-not-is_empty.false) c.loop-back.invariant.stand
  | else-loop-back-test w ↦
      let prefix = w.loop-back-test.false in
      all_prefix c.args.entries.now c.args.start c.loop-back.back c.loop-back.left c.args.wanted c.loop-back.works (omega arith) c.loop-back.invariant.stand
]
