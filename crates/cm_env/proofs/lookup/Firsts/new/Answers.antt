use Rattle.std.proofs.Common.{◌≡◌, ◌+◌, ◌-◌, drop, subst, arith}
use Rattle.cm_env.specs.Firsts.{HasFirsts}
use Rattle.cm_env.proofs.lemmas.Firsting.{firsts_more}
use Rattle.cm_env.proofs.lookup.Firsts.new.Goals as goal

pub loop-left-preserved : goal.loop-left-preserved
loop-left-preserved g c =
    let left = c.loop-left.left - 1 in
    let same : c.loop-left.left ≡ left + 1 = omega (arith, c.loop-left-test.true) in record {
      within = omega (arith, c.loop-left.invariant.within);
      firsts =
          firsts_more g.T.TextKeyed.key c.args.rows.now left c.key.result _ c.loop-left.firsts c.insert.new.self
          (omega (arith, c.loop-left.invariant.within, c.loop-left-test.true)) c.index-rows-left.is c.key.ensures
          (subst (λ n. HasFirsts g.T.TextKeyed.key (drop n c.args.rows.now) c.loop-left.firsts) same c.loop-left.invariant.firsts)
          c.in_ok-insert.ensures.updates;
    }
