use Rattle.std.proofs.Common.{false}
use Rattle.cm_plain.proofs.lemmas.Piece.{passes_string, passes_then}
use Rattle.cm_plain.proofs.lemmas.Plain.{string_passed}
use Rattle.cm_plain.proofs.plain.read_string.Goals as goal

pub returns-clause-lexed : goal.returns-clause-lexed
returns-clause-lexed c =
    string_passed c.args.text.now c.behind_space.result.now c.in_ok-inside.inside.now c.in_ok-plain.rest.now
    c.in_ok-plain.plain.now c.behind_space.ensures.lexed c.in_ok-inside.ensures
    c.in_ok-plain.ensures.parts c.in_ok-plain.ensures.plain

pub returns-clause-passed : goal.returns-clause-passed
returns-clause-passed c = λ b.
    passes_then b b false c.args.text.now c.behind_space.result.now c.in_ok-plain.rest.now
    (c.behind_space.ensures.passed b)
    (passes_string b c.behind_space.result.now c.in_ok-inside.inside.now c.in_ok-plain.plain.now c.in_ok-plain.rest.now
    c.in_ok-inside.ensures c.in_ok-plain.ensures.parts c.in_ok-plain.ensures.plain)
