use Rattle.std.proofs.Common.{◌≡◌, drop}
use Rattle.cm_read.specs.Fields.{each, reference_from}
use Rattle.cm_read.specs.FieldsInside.{map_now}
use Rattle.cm_read.proofs.lemmas.Row.{with_prefix}
use Rattle.cm_read.proofs.fields.each_reference.Given as goal

abbrev pub invariant-loop-text : goal.invariant-loop-text
invariant-loop-text l = with_prefix l.names (each (reference_from l.at l.key) (map_now (drop l.text-index l.texts))) ≡ each (reference_from l.at l.key) (map_now l.texts)
