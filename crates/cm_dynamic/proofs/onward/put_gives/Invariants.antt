use Rattle.std.proofs.Common.{take}
use Rattle.cm_dynamic.proofs.lemmas.graphs.Walking.{IsPutting}
use Rattle.cm_dynamic.proofs.onward.put_gives.Given as goal

-- the offers so far lead past the new name
abbrev pub invariant-loop-give : goal.invariant-loop-give
invariant-loop-give g l = IsPutting (g.V.View.rows l.view) l.parent l.name (take l.give-index l.gives) l.initial.seen l.initial.ahead l.seen l.ahead
