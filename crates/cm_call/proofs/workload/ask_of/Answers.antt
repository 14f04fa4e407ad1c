use Rattle.std.proofs.Common.{◌≡◌, ◌<◌, Some, ◌∙◌, length, refl, arith, rules}
use Rattle.std.specs.List.{slice_get}
use Rattle.std.proofs.lemmas.Option.{slice_get_read}
use Rattle.cm_call.proofs.lemmas.texts.Generator.{asks_use, stands_at}
use Rattle.cm_call.proofs.workload.ask_of.Goals as goal

pub returns : goal.returns
returns c =
    let monikers = c.args.monikers.now in
    let some : 0 < c.args.instance = omega arith in
    let at : slice_get monikers c.args.instance ≡ Some c.index-monikers-instance.result = slice_get_read monikers (length monikers) c.args.instance c.index-monikers-instance.result refl c.requires.within c.index-monikers-instance.is in
    let same : c.in_ok-clone.field-0 ≡ c.index-monikers-instance.result = search rules in
    asks_use c.args.instance c.in_ok-clone.field-0 c.in_ok-path.path some (same ∙ stands_at (length monikers) c.args.instance monikers c.index-monikers-instance.result c.requires.known at) c.in_ok-path.ensures
