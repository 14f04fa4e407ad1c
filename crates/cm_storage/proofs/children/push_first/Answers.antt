use Rattle.std.proofs.Common.{sym, subst}
use Rattle.std.specs.Option.{option_copied}
use Rattle.std.specs.Prelude.{OnOk}
use Rattle.std.proofs.lemmas.Result.{on_ok_weaker}
use Rattle.cm_storage.specs.Telling.{TellsPlace}
use Rattle.cm_storage.proofs.lemmas.Lines.{no_use_told, place_told}
use Rattle.cm_storage.proofs.children.push_first.Goals as goal

pub returns-in-None-clause-told : goal.returns-in-None-clause-told
returns-in-None-clause-told g c =
    subst (λ o. OnOk c.push_refused.result (TellsPlace (g.V.View.rows c.args.view.now) (g.V.View.builtins c.args.view.now) c.args.told.now.inc (option_copied o) c.args.text.now c.push_refused.new.text)) (sym c.in-None.is)
    (on_ok_weaker c.push_refused.result (no_use_told (g.V.View.rows c.args.view.now) (g.V.View.builtins c.args.view.now) c.args.told.now.inc c.args.text.now c.push_refused.new.text) c.push_refused.ensures)

pub returns-in-Some-clause-told : goal.returns-in-Some-clause-told
returns-in-Some-clause-told g c =
    subst (λ o. OnOk c.push_named.result (TellsPlace (g.V.View.rows c.args.view.now) (g.V.View.builtins c.args.view.now) c.args.told.now.inc (option_copied o) c.args.text.now c.push_named.new.text)) (sym c.in-Some.is)
    (on_ok_weaker c.push_named.result (place_told (g.V.View.rows c.args.view.now) (g.V.View.builtins c.args.view.now) c.args.told.now.inc c.args.top.now.inc c.args.told.now.name.now c.args.top.now.offers c.in-Some.usage.now c.args.text.now c.push_named.new.text c.requires.child c.requires.top.decl) c.push_named.ensures.told)
