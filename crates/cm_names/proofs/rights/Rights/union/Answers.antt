use Rattle.std.proofs.Common.{◌∙◌, ap}
use Rattle.cm_names.specs.Rights as spec
use Rattle.cm_names.specs.RightBits.{set_of_bits}
use Rattle.cm_names.proofs.lemmas.sets.Bit.{or_below, set_of_bits-or}
use Rattle.cm_names.proofs.rights.Rights.union.Goals as goal

pub invariant_of-result : goal.invariant_of-result
invariant_of-result c = or_below c.self.inside.bits c.other.inside.bits c.self.invariant c.other.invariant

pub returns : goal.returns
returns c =
    set_of_bits-or c.self.inside.bits c.other.inside.bits ∙ ap (λ s. spec.union s (set_of_bits c.other.inside.bits)) c.self.view_is ∙ ap (λ o. spec.union c.args.self o) c.other.view_is
