use Rattle.std.proofs.Common.{◌≡◌, ◌<◌, Some, length, refl, arith}
use Rattle.std.specs.List.{slice_get}
use Rattle.std.proofs.lemmas.Option.{slice_get_read}
use Rattle.cm_call.specs.Generated.{parent_of}
use Rattle.cm_call.proofs.lemmas.texts.Generator.{stands_at}
use Rattle.cm_call.proofs.workload.moniker_behind.Goals as goal

pub moniker_below-requires-clause-parent : goal.moniker_below-requires-clause-parent
moniker_below-requires-clause-parent c =
    let monikers = c.args.monikers.now in
    let within : parent_of c.args.instance < length monikers = omega (arith, c.requires.count) in
    let at : slice_get monikers (parent_of c.args.instance) ≡ Some c.index-monikers-instance.result = slice_get_read monikers (length monikers) (parent_of c.args.instance) c.index-monikers-instance.result refl within c.index-monikers-instance.is in
    stands_at c.args.instance (parent_of c.args.instance) monikers c.index-monikers-instance.result c.requires.before at
