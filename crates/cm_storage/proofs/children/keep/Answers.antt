use Rattle.std.proofs.Common.{refl}
use Rattle.cm_storage.proofs.lemmas.Lines.{keeps}
use Rattle.cm_storage.proofs.children.keep.Goals as goal

pub returns : goal.returns
returns g c =
    keeps (g.V.View.rows c.args.view.now) (g.V.View.builtins c.args.view.now) c.args.handed c.args.top.now _ c.requires.top c.requires.handed refl refl refl c.in_ok-push.ensures.items
