use Rattle.std.proofs.Common.{◌≡◌, ◌==◌, ap, sym, ◌∙◌}
use Rattle.cm_names.specs.RightBits.{bits_of_set, bits_back}
use Rattle.cm_names.proofs.rights.RightsPartialEq.eq.Goals as goal

pub returns : goal.returns
returns c =
    let mine : c.self.inside.bits ≡ bits_of_set c.args.self.now = sym (bits_back c.self.inside.bits c.self.invariant) ∙ ap bits_of_set c.self.view_is in
    let its : c.other.inside.bits ≡ bits_of_set c.args.other.now = sym (bits_back c.other.inside.bits c.other.invariant) ∙ ap bits_of_set c.other.view_is in
    ap (λ n. n == c.other.inside.bits) mine ∙ ap (λ n. bits_of_set c.args.self.now == n) its
