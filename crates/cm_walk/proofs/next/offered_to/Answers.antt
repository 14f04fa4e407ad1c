use Rattle.std.proofs.Common.{◌∙◌, ap, sym}
use Rattle.std.specs.Option.{option_copied}
use Rattle.cm_walk.proofs.lemmas.routes.Offers.{no_offer_by_index, index_is}
use Rattle.cm_walk.proofs.next.offered_to.Goals as goal

pub returns-in_err-index : goal.returns-in_err-index
returns-in_err-index g c = λ r lives named declared.
    let index = index_is (g.V.View.rows c.args.view.now) c.args.inc c.args.kind c.args.name.now c.args.decl.now c.args.child.now r lives named declared in
    ap option_copied c.from_residual.ensures
    ∙ no_offer_by_index c.args.decl.now c.args.child.now c.args.kind c.args.name.now (sym index ∙ sym c.offer_at.ensures ∙ c.in_err-index.was)
