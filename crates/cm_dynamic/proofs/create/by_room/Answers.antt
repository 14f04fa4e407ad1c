use Rattle.std.proofs.Common.{arith}
use Rattle.cm_dynamic.proofs.lemmas.graphs.Graphs.{full_without, be_without}
use Rattle.cm_dynamic.proofs.create.by_room.Goals as goal

pub returns-then-free-eq0 : goal.returns-then-free-eq0
returns-then-free-eq0 c = λ d dynamic acyclic. full_without d dynamic c.args.free acyclic (omega arith)

pub returns : goal.returns
returns c = λ d dynamic acyclic. be_without d dynamic c.args.free acyclic (omega arith)
