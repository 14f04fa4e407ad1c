use Rattle.std.proofs.Common.{get_or}
use Rattle.cm_deps.proofs.lemmas.listed.Listing.{holds_at}
use Rattle.cm_deps.proofs.outcome.cycle_at.Goals as goal

pub node_at-requires : goal.node_at-requires
node_at-requires c = c.requires.inside (get_or c.args.ring.now 0 0) (holds_at c.args.ring.now 0 c.requires.some)
