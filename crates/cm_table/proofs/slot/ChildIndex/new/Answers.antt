use Rattle.std.proofs.Common.{◌+◌, ap}
use Rattle.std.specs.Prelude.{option_map}
use Rattle.cm_table.proofs.slot.ChildIndex.new.Goals as goal

pub returns-clause-names : goal.returns-clause-names
returns-clause-names c = λ n. ap (option_map (λ k. 0 + k)) (c.new-names.ensures n)
