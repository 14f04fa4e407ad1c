use Rattle.std.proofs.Common.{◌≡◌, length, arith}
use Rattle.cm_plain.specs.JsonTree.{view}
use Rattle.cm_plain.proofs.lemmas.Loose.{text_gives}
use Rattle.cm_plain.proofs.relaxed.read_relaxed.Goals as goal

pub returns : goal.returns
returns c =
    let none : length c.in_ok-value.rest.now ≡ 0 = grind arith in
    text_gives c.args.text.now c.behind_gap.result.now c.in_ok-value.rest.now (view c.in_ok-value.value)
    c.behind_gap.ensures.passed c.in_ok-value.ensures.value none
