use Rattle.std.proofs.Common.{is_some, refl, sym, ap, ◌∙◌, ◌<◌, length, drop, arith}
use Rattle.std.proofs.lemmas.List.{length-drop}
use Rattle.cm_world.specs.Located.{located_from}
use Rattle.cm_world.proofs.lemmas.trees.Walks.{child_lives}
use Rattle.cm_walk.proofs.lemmas.ways.Leading.{leads_on, two_more, stuck}
use Rattle.cm_walk.proofs.locating.locate_below.Goals as goal

pub loop-depth-preserved : goal.loop-depth-preserved
loop-depth-preserved g c =
    let rows = g.S.Store.rows c.args.store.now in
    let next = g.S.Store.next_inc c.args.store.now in
    let child = c.in-Some.ensures.child in (
      leads_on rows c.args.moniker.now.parts c.args.moniker.now.parts c.loop-depth.at c.in-Some.next c.loop-depth.depth c.at.result.now (located_from rows c.args.from c.args.count (drop c.args.count c.args.moniker.now.parts)) refl (omega (arith, c.loop-depth-test.true, c.len-depth-end.ensures)) c.at.ensures c.if-not-is_resolved.ensures.resolved child c.loop-depth.invariant.0,
      ap is_some (child_lives rows next c.loop-depth.at c.in-Some.next c.at.result.now c.requires.orderly.increasing (sym child)).1,
      two_more c.child.new.steps c.is_resolved.new.steps c.loop-depth.steps c.args.steps.now c.loop-depth.depth c.args.count c.child.ensures.cost c.is_resolved.ensures.cost c.loop-depth.invariant.2,
    )

pub returns-then-not-is_resolved-clause-located : goal.returns-then-not-is_resolved-clause-located
returns-then-not-is_resolved-clause-located g c =
    let rows = g.S.Store.rows c.args.store.now in
    let left = drop c.loop-depth.depth c.args.moniker.now.parts in
    let some : 0 < length left = omega (arith, c.loop-depth-test.true, c.len-depth-end.ensures, length-drop c.loop-depth.depth c.args.moniker.now.parts) in
    sym (stuck rows left c.loop-depth.at c.loop-depth.depth some c.if-not-is_resolved.ensures.resolved) ∙ c.loop-depth.invariant.0
