use Rattle.cm_text.proofs.lemmas.found.Outline.{word_in, word_cut}
use Rattle.cm_text.proofs.scan.word_piece.Goals as goal

pub range-requires-clause-end_boundary : goal.range-requires-clause-end_boundary
range-requires-clause-end_boundary c = word_cut _ c.args.text.now _ c.as_bytes.ensures.value c.utf8.text c.requires c.word_len-len.ensures

pub returns : goal.returns
returns c = word_in _ c.args.text.now _ 0 _ c.as_bytes.ensures.value c.requires c.word_len-len.ensures c.range.ensures.value
