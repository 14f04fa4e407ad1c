use Rattle.cm_text.specs.Json.{is_comma}
use Rattle.cm_plain.proofs.lemmas.Piece.{passes_mark, passes_then}
use Rattle.cm_plain.proofs.plain.behind_mark.Goals as goal

pub returns-clause-passed : goal.returns-clause-passed
returns-clause-passed c = λ b stays.
    passes_then b b (is_comma c.args.mark) c.args.text.now c.behind_space.result.now c.in_ok-rest.rest.now
    (c.behind_space.ensures.passed b)
    (passes_mark b c.args.mark c.behind_space.result.now c.in_ok-rest.rest.now c.requires.operates c.in_ok-rest.ensures stays)
