use Rattle.std.proofs.Common.{◌≡◌, length, false, arith}
use Rattle.cm_plain.specs.JsonTree.{view}
use Rattle.cm_plain.proofs.lemmas.Piece.{passes_then, reads_as_json}
use Rattle.cm_plain.proofs.lemmas.Plain.{text_read}
use Rattle.cm_plain.proofs.plain.read_plain.Goals as goal

pub returns-clause-value : goal.returns-clause-value
returns-clause-value c =
    let none : length c.behind_space.result.now ≡ 0 = grind arith in
    text_read c.args.text.now c.in_ok-value.rest.now c.behind_space.result.now (view c.in_ok-value.value)
    c.in_ok-value.ensures.value c.behind_space.ensures.lexed none

pub returns-clause-json : goal.returns-clause-json
returns-clause-json c =
    let none : length c.behind_space.result.now ≡ 0 = grind arith in
    reads_as_json c.args.text.now c.behind_space.result.now false
    (passes_then false false false c.args.text.now c.in_ok-value.rest.now c.behind_space.result.now
    (c.in_ok-value.ensures.passed false) (c.behind_space.ensures.passed false))
    none
