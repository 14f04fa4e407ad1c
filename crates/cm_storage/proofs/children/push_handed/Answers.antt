use Rattle.std.proofs.lemmas.Result.{on_ok_weaker}
use Rattle.cm_storage.proofs.lemmas.Lines.{kept_told}
use Rattle.cm_storage.proofs.children.push_handed.Goals as goal

pub returns-in-Some-clause-told : goal.returns-in-Some-clause-told
returns-in-Some-clause-told g c =
    on_ok_weaker c.push_below.result (kept_told (g.V.View.rows c.args.view.now) (g.V.View.builtins c.args.view.now) c.args.top.now c.args.own c.args.name.now c.in-Some.known.now c.args.child.now c.args.text.now c.push_below.new.text c.requires.top c.in-Some.ensures) c.push_below.ensures
