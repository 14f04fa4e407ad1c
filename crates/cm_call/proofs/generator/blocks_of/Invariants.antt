use Rattle.std.proofs.Common.{◌≡◌, map}
use Rattle.std.specs.List.{range_with_len}
use Rattle.cm_call.specs.Generated.{block_of}
use Rattle.cm_call.proofs.generator.blocks_of.Given as goal

abbrev pub invariant-loop-instance : goal.invariant-loop-instance
invariant-loop-instance l = l.blocks ≡ map (block_of l.size) (range_with_len 0 l.instance)
