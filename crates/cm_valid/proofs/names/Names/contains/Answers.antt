use Rattle.std.proofs.Common.{◌∙◌, ap}
use Rattle.cm_valid.specs.Lookup.{has}
use Rattle.cm_valid.proofs.lemmas.Name.{found_by_bytes}
use Rattle.cm_valid.proofs.names.Names.contains.Goals as goal

pub returns : goal.returns
returns c =
    c.contains.ensures ∙ found_by_bytes c.args.name.now c.self.inside.set.keys ∙ ap (λ names. has names c.args.name.now) c.self.view_is
