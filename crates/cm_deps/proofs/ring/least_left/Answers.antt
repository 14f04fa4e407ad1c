use Rattle.std.proofs.Common.{get_or}
use Rattle.cm_deps.proofs.lemmas.listed.Listing.{holds_at}
use Rattle.cm_deps.proofs.ring.least_left.Goals as goal

pub bounds-listed-node : goal.bounds-listed-node
bounds-listed-node c = c.requires.inside (get_or c.args.nodes.now c.loop-node.node-index 0) (holds_at c.args.nodes.now c.loop-node.node-index c.loop-node-test.true)
