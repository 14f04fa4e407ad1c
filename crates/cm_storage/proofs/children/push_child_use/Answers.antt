use Rattle.std.proofs.Common.{◌++◌, subst}
use Rattle.std.specs.Prelude.{codes}
use Rattle.cm_names.specs.Child.{child_text}
use Rattle.cm_reply.specs.ListsInside.{GainsText}
use Rattle.std.specs.Option.{option_copied}
use Rattle.cm_storage.proofs.lemmas.Lines.{line_told}
use Rattle.cm_storage.proofs.children.push_child_use.Goals as goal

pub returns-clause-told : goal.returns-clause-told
returns-clause-told g c =
    line_told (g.V.View.rows c.args.view.now) (g.V.View.builtins c.args.view.now) c.args.told.now.inc c.args.top.now.inc c.args.told.now.name.now c.args.top.now.prefix c.args.usage.now.path c.args.told.now.decl.now (option_copied c.use_at.result) c.args.text.now c.push_front.new.text c.push_first.new.text c.push.new.text c.requires.child c.requires.top.prefix c.requires.decl c.use_at.ensures (subst (λ p. GainsText c.args.text.now c.push_front.new.text (c.args.top.now.prefix ++ (child_text c.args.told.now.name.now ++ (codes " storage " ++ p)))) c.as_str.ensures.text c.in_ok-push_front.ensures) c.in_ok-push_first.ensures.told c.in_ok-push.ensures
