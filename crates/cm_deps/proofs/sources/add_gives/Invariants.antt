use Rattle.std.proofs.Common.{take}
use Rattle.cm_deps.specs.Sources.{ListsMore, strong_sources}
use Rattle.cm_deps.proofs.sources.add_gives.Given as goal

abbrev pub invariant-loop-give : goal.invariant-loop-give
invariant-loop-give l = ListsMore l.nodes (strong_sources (take l.give-index l.gives)) l.initial.numbers l.numbers
