use Rattle.std.proofs.Common.{take, map}
use Rattle.std.specs.List.{Contains}
use Rattle.cm_command.specs.Counts.{CountsPrefixes}
use Rattle.cm_command.proofs.tokens.literal_prefixes.Given as goal

-- the count of the literals so far
abbrev pub invariant-loop-literal : goal.invariant-loop-literal
invariant-loop-literal l = CountsPrefixes (Contains (take l.literal-index (map (λ x. x.now) l.literals))) l.word l.prefixes
