use Rattle.std.proofs.Common.{◌≡◌, drop, option_map}
use Rattle.cm_plain.specs.JsonTree.{members_view}
use Rattle.cm_read.specs.Fields.{unknown_in}
use Rattle.cm_read.specs.FieldsInside.{map_now}
use Rattle.cm_read.proofs.lemmas.reading.Keys.{least_in}
use Rattle.cm_read.proofs.fields.unknown_key.Given as goal

abbrev pub invariant-loop-member : goal.invariant-loop-member
invariant-loop-member l =
    least_in l.known (option_map (λ s. s.now) l.least) (drop l.member-index l.members)
    ≡ unknown_in (map_now l.known) (members_view l.members)
