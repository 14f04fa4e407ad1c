use Rattle.std.proofs.Common.{take}
use Rattle.cm_table.proofs.lemmas.tree.Wanting.{IsWanting}
use Rattle.cm_table.proofs.wanted.want_all.Given as goal

-- the set has what it had, and the sources of the gives so far
abbrev pub invariant-loop-give : goal.invariant-loop-give
invariant-loop-give l = IsWanting l.initial.wanted l.wanted (take l.give-index l.gives)
