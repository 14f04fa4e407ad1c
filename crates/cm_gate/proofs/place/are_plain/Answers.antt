use Rattle.std.proofs.Common.{rules, arith}
use Rattle.std.proofs.lemmas.Iterator.Search.{all_from_yields_List}
use Rattle.std.proofs.lemmas.Iterator.Splits.{YieldsList-from_str_split}
use Rattle.cm_gate.specs.Places.{is_plain}
use Rattle.cm_gate.proofs.place.are_plain.Goals as goal

pub returns : goal.returns
returns c =
    all_from_yields_List is_plain _ _ _ c.all.ensures.ran
    (YieldsList-from_str_split 47 c.args.parts.now (omega arith) c.split.ensures.text c.split.ensures.has_more c.split.ensures.pattern)
    (λ x b q k. search rules)
