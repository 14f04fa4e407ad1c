use Rattle.std.proofs.Common.{◌≡◌, ℕ, ◌<◌, length, Some, arith}
use Rattle.std.specs.Prelude.{slice_get}
use Rattle.std.proofs.lemmas.Option.{get_or_from_slice_get}
use Rattle.cm_deps.proofs.lemmas.loops.Cores.{held_at}
use Rattle.cm_deps.proofs.ring.place_of.Goals as goal

pub returns-clause-there : goal.returns-clause-there
returns-clause-there c =
    let found : (k : ℕ) × (k < length c.args.nodes.now) × (slice_get c.args.nodes.now k ≡ Some c.args.node) = held_at c.args.nodes.now c.args.node c.requires.there in
    absurd (c.loop-place.invariant found.0 (omega arith) (get_or_from_slice_get c.args.nodes.now found.0 c.args.node 0 found.2))
