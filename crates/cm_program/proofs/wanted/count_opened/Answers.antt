use Rattle.std.proofs.Common.{rules, tests, ◌∙◌}
use Rattle.std.proofs.lemmas.Iterator.{YieldsList-from_slice}
use Rattle.std.proofs.lemmas.Iterator.Consumers.{YieldsList-from_filter, count_from_yields_List}
use Rattle.std.proofs.lemmas.List.Sums.{length-filter}
use Rattle.cm_lanes.specs.declared.said.Said.{Said}
use Rattle.cm_program.specs.Printed.{is_opened}
use Rattle.cm_program.proofs.wanted.count_opened.Goals as goal

pub returns : goal.returns
returns c =
    count_from_yields_List c.filter.result c.count.result c.count.ensures.ran
    (YieldsList-from_filter _ (λ (s : Said). is_opened s.result) (YieldsList-from_slice c.args.said.now cc) c.filter.ensures.closure (λ x b q k. search (rules, tests)))
    ∙ length-filter (λ (s : Said). is_opened s.result) c.args.said.now
