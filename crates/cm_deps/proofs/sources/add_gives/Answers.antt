use Rattle.std.proofs.Common.{◌≡◌, true, false, sym, subst, take, ◌+◌}
use Rattle.cm_decl.specs.declared.rows.Give.{Give}
use Rattle.cm_decl.specs.Graph.{is_strong}
use Rattle.cm_deps.specs.Sources.{ListsMore, strong_sources}
use Rattle.cm_deps.proofs.lemmas.given.Sourcing.{more_passes, more_fails}
use Rattle.cm_deps.proofs.sources.add_gives.Goals as goal
use Rattle.cm_deps.proofs.sources.add_gives.Goals.{then-is_strong+in_ok-add_source, else-is_strong}

pub loop-give-preserved : goal.loop-give-preserved
loop-give-preserved c =
    elim c.if-is_strong.branch as (λ _. ListsMore c.args.nodes.now (strong_sources (take (c.loop-give.give-index + 1) c.args.gives.now)) c.args.numbers.now c.if-is_strong.numbers) [
      | then-is_strong+in_ok-add_source w ↦
          (let strong : is_strong c.give-item.result.dependency ≡ true = cc in
          subst (λ l. ListsMore c.args.nodes.now (strong_sources (take (c.loop-give.give-index + 1) c.args.gives.now)) c.args.numbers.now l) (sym w.numbers-is)
          (more_passes (λ (g : Give). is_strong g.dependency) (λ (g : Give). g.from) c.args.nodes.now c.args.gives.now c.loop-give.give-index c.give-item.result c.args.numbers.now c.loop-give.numbers w.add_source.new.numbers
          c.loop-give-test.true c.give-item.is strong c.loop-give.invariant w.in_ok-add_source.ensures))
      | else-is_strong w ↦
          (let weak : is_strong c.give-item.result.dependency ≡ false = cc in
          subst (λ l. ListsMore c.args.nodes.now (strong_sources (take (c.loop-give.give-index + 1) c.args.gives.now)) c.args.numbers.now l) (sym w.numbers-is)
          (more_fails (λ (g : Give). is_strong g.dependency) (λ (g : Give). g.from) c.args.nodes.now c.args.gives.now c.loop-give.give-index c.give-item.result c.args.numbers.now c.loop-give.numbers
          c.loop-give-test.true c.give-item.is weak c.loop-give.invariant))
    ]
