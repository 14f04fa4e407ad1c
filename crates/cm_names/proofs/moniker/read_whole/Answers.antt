use Rattle.std.proofs.Common.{◌∙◌, rules, subst, sym}
use Rattle.cm_names.specs.Moniker.{IsMonikerTextOf}
use Rattle.cm_names.proofs.lemmas.texts.MonikerParts.{pieces, made}
use Rattle.cm_names.proofs.moniker.read_whole.Goals as goal

pub read_parts-requires : goal.read_parts-requires
read_parts-requires c =
    rw c.behind_slash.ensures (pieces c.args.text.now c.requires (search rules) (search rules))

pub returns : goal.returns
returns c =
    subst (λ names. IsMonikerTextOf c.args.text.now (record { parts = names })) (sym (c.from_list.ensures ∙ c.in_ok-new.ensures))
    (made c.args.text.now c.in_ok-parts.parts c.in_ok-parts.ensures.names (c.in_ok-parts.ensures.texts ∙ search rules))
