use Rattle.std.proofs.Common.{◌∙◌, string_bytes}
use Rattle.serde_json.specs.View.{view}
use Rattle.cm_read.proofs.lemmas.back.Pair.{text_is}
use Rattle.cm_read.proofs.writing.write_decl.Goals as goal

pub returns-clause-text : goal.returns-clause-text
returns-clause-text c =
    c.in_ok-text.ensures ∙ text_is c.args.decl.now (view c.in_ok-value.value) (string_bytes c.in_ok-to_string.field-0) c.in_ok-value.ensures c.in_ok-to_string.ensures.text
