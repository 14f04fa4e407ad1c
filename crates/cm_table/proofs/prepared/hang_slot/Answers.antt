use Rattle.std.proofs.Common.{rules}
use Rattle.std.specs.Option.{option_copied}
use Rattle.cm_table.proofs.lemmas.monikers.Hanging.{hung_below}
use Rattle.cm_table.proofs.prepared.hang_slot.Goals as goal

pub returns-clause-below : goal.returns-clause-below
returns-clause-below c =
    hung_below (option_copied c.args.above) c.take-own.result c.hung.result c.args.slot.now c.hung.ensures (search rules) c.requires
