use Rattle.std.proofs.Common.{◌≡◌, drop}
use Rattle.cm_plain.specs.JsonTree.{items_view}
use Rattle.cm_read.specs.Fields.{texts_in_at}
use Rattle.cm_read.specs.FieldsInside.{map_now}
use Rattle.cm_read.proofs.lemmas.Row.{with_prefix}
use Rattle.cm_read.proofs.fields.words_in.Given as goal

abbrev pub invariant-loop-value : goal.invariant-loop-value
invariant-loop-value l = with_prefix (map_now l.words.items) (texts_in_at l.at l.key (items_view (drop l.value-index l.values))) ≡ texts_in_at l.at l.key (items_view l.values)
