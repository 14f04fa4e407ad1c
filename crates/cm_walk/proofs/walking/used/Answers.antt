use Rattle.std.proofs.Common.{◌∙◌, ap, sym}
use Rattle.std.specs.Option.{option_copied}
use Rattle.cm_walk.proofs.lemmas.routes.Offers.{no_use_by_index, use_index_is}
use Rattle.cm_walk.proofs.walking.used.Goals as goal

pub returns-in_err-index : goal.returns-in_err-index
returns-in_err-index g c =
    ap option_copied c.from_residual.ensures
    ∙ no_use_by_index (g.V.View.rows c.args.view.now) c.args.inc c.args.path.now c.args.decl.now c.requires (sym c.use_at.ensures ∙ c.in_err-index.was)

pub returns : goal.returns
returns g c =
    c.usage.ensures (sym (use_index_is (g.V.View.rows c.args.view.now) c.args.inc c.args.path.now c.args.decl.now c.requires) ∙ sym c.use_at.ensures ∙ c.in_ok-index.was)
