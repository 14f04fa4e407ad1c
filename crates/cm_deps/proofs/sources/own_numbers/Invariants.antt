use Rattle.std.proofs.Common.{take, [], ◌&&◌}
use Rattle.cm_decl.specs.declared.rows.Usage.{Usage}
use Rattle.cm_decl.specs.Graph.{is_strong, is_from_child}
use Rattle.cm_deps.specs.Sources.{ListsMore}
use Rattle.cm_deps.proofs.lemmas.given.Sourcing.{passing}
use Rattle.cm_deps.proofs.sources.own_numbers.Given as goal

abbrev pub invariant-loop-usage : goal.invariant-loop-usage
invariant-loop-usage l = ListsMore l.nodes (passing (λ (u : Usage). is_strong u.dependency && is_from_child u.from) (λ (u : Usage). u.from) (take l.usage-index l.usage-items)) [] l.numbers
