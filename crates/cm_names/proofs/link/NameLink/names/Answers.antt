use Rattle.std.proofs.Common.{◌++◌, map, reverse, sym, ap, ◌∙◌}
use Rattle.cm_names.specs.Chains.{names_of}
use Rattle.cm_names.proofs.lemmas.Ends.{map-reverse}
use Rattle.cm_names.proofs.link.NameLink.names.Goals as goal

pub returns : goal.returns
returns c =
    ap (map (λ x. x.now)) c.reverse.ensures.items
    ∙ map-reverse (λ x. x.now) c.loop-at.found.items
    ∙ sym (ap (λ a. names_of a ++ reverse (map (λ x. x.now) c.loop-at.found.items)) c.in_default.is)
    ∙ c.loop-at.invariant
