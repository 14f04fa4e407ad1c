use Rattle.std.proofs.Common.{◌∙◌, ap}
use Rattle.cm_names.specs.Rights as spec
use Rattle.cm_names.specs.RightBits.{set_of_bits}
use Rattle.cm_names.proofs.lemmas.sets.Bit.{contains_bits}
use Rattle.cm_names.proofs.rights.Rights.contains.Goals as goal

pub returns : goal.returns
returns c =
    contains_bits c.self.inside.bits c.other.inside.bits c.other.invariant ∙ ap (λ s. spec.contains s (set_of_bits c.other.inside.bits)) c.self.view_is ∙ ap (λ o. spec.contains c.args.self o) c.other.view_is
