use Rattle.std.proofs.Common.{◌∙◌, nat_eq, arith, sym}
use Rattle.std.specs.HashSet.{contains}
use Rattle.cm_events.proofs.lemmas.Keeping.{nothing_yet}
use Rattle.cm_events.proofs.lemmas.Finding.{wanted_found, wanted_on, told_on}
use Rattle.cm_events.proofs.following.follow.Goals as goal

pub loop-index-init : goal.loop-index-init
loop-index-init c =
    let before = c.if-from-entries.false in
    record {
      late = omega arith;
      within = omega arith;
      told_so_far = c.new-made.ensures ∙ sym (nothing_yet c.args.entries.now c.args.from c.args.from c.args.scope.now (omega arith));
      known = wanted_found c.args.entries.now c.args.from (contains nat_eq c.in_ok-wanted.wanted) c.in_ok-works.works c.in_ok-wanted.ensures c.in_ok-works.ensures;
    }

pub loop-index-preserved : goal.loop-index-preserved
loop-index-preserved c =
    let here = c.loop-index-test.true in
    let behind = c.loop-index.invariant.late in
    record {
      late = omega arith;
      within = omega arith;
      told_so_far = told_on c.args.entries.now c.args.from c.loop-index.index c.index-entries-index.result c.args.scope.now c.loop-index.works c.loop-index.made c.tell.new.made
          here c.index-entries-index.is behind c.loop-index.invariant.known c.in_ok-tell.ensures c.loop-index.invariant.told_so_far;
      known = wanted_on c.args.entries.now c.loop-index.index c.index-entries-index.result c.loop-index.works c.keep_work.new.works
          c.requires here c.index-entries-index.is c.loop-index.invariant.known c.in_ok-keep_work.ensures;
    }
