use Rattle.std.proofs.Common.{arith}
use Rattle.cm_text.proofs.lemmas.found.Outline.{close_in, string_found, string_unclosed, string_place, quote_start, quote_end}
use Rattle.cm_text.proofs.scan.string_piece.Goals as goal

pub overflow_add-len : goal.overflow_add-len
overflow_add-len c =
    let close = close_in _ c.args.text.now _ c.as_bytes-bytes.ensures.value c.in-Some.ensures in
    let there = string_place c.args.text.now _ close in
    let h = there.0 in
    omega (arith, c.as_bytes-bytes.ensures.len, h)

pub range-inside-requires-clause-start_boundary : goal.range-inside-requires-clause-start_boundary
range-inside-requires-clause-start_boundary c = λ _. quote_start _ c.utf8.text c.requires

pub range-inside-requires-clause-end_boundary : goal.range-inside-requires-clause-end_boundary
range-inside-requires-clause-end_boundary c = quote_end c.args.text.now _ c.requires (close_in _ c.args.text.now _ c.as_bytes-bytes.ensures.value c.in-Some.ensures)

pub returns-in-Some : goal.returns-in-Some
returns-in-Some c = string_found _ c.args.text.now _ _ _ c.as_bytes-bytes.ensures.value c.requires (close_in _ c.args.text.now _ c.as_bytes-bytes.ensures.value c.in-Some.ensures) c.range-inside.ensures.value

pub returns-in-None : goal.returns-in-None
returns-in-None c = string_unclosed c.args.text.now _ c.requires (close_in _ c.args.text.now _ c.as_bytes-bytes.ensures.value c.in-None.ensures)
