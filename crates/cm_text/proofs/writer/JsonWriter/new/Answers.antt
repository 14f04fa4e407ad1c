use Rattle.std.proofs.Common.{◌∙◌, ◌++◌, None, ap}
use Rattle.cm_text.specs.Writing.{json_behind}
use Rattle.cm_text.proofs.lemmas.Json.{behind_nothing}
use Rattle.cm_text.proofs.writer.JsonWriter.new.Goals as goal

pub returns : goal.returns
returns c ts = ap (λ xs. xs ++ json_behind None ts) c.new.ensures.bytes ∙ behind_nothing ts
