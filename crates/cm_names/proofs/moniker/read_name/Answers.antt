use Rattle.std.proofs.Common.{sym, ◌∙◌}
use Rattle.std.proofs.lemmas.Option.{none-some}
use Rattle.cm_names.proofs.lemmas.texts.Name.{name_faultless}
use Rattle.cm_names.proofs.moniker.read_name.Goals as goal

pub unreachable-requires : goal.unreachable-requires
unreachable-requires c =
    let fault = c.in-Err.ensures.fault c.in_default.not-Memory in
    none-some _ (sym (name_faultless c.args.text.now c.requires) ∙ fault)
