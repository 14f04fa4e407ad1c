use Rattle.std.proofs.Common.{◌∙◌, ap, sym}
use Rattle.std.specs.Option.{option_copied}
use Rattle.cm_walk.proofs.lemmas.routes.Offers.{no_capability_by_index, capability_index_is}
use Rattle.cm_walk.proofs.next.provided.Goals as goal

pub returns-in_err-index : goal.returns-in_err-index
returns-in_err-index g c =
    ap option_copied c.from_residual.ensures
    ∙ no_capability_by_index c.args.kind c.args.name.now (g.V.View.rows c.args.view.now) c.args.inc c.args.decl.now c.requires (sym c.capability_at.ensures ∙ c.in_err-index.was)

pub returns : goal.returns
returns g c =
    c.capability.ensures (sym (capability_index_is c.args.kind c.args.name.now (g.V.View.rows c.args.view.now) c.args.inc c.args.decl.now c.requires) ∙ sym c.capability_at.ensures ∙ c.in_ok-index.was)
