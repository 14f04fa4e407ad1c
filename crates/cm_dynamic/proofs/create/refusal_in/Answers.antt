use Rattle.std.proofs.Common.{Option, IfOk, sym, ◌∙◌, subst}
use Rattle.cm_world.specs.declared.reply.Reply.{Reply}
use Rattle.cm_dynamic.specs.Replies.{RefusesChange}
use Rattle.cm_dynamic.proofs.lemmas.children.Refusing.{unnamed}
use Rattle.cm_dynamic.proofs.create.refusal_in.Goals as goal

pub returns-in-None : goal.returns-in-None
returns-in-None g c =
    subst (λ (o : Option Reply). IfOk c.refused_gives.result (λ refusal. RefusesChange refusal o))
    (unnamed (g.V.View.rows c.args.view.now) c.args.parent c.args.decl.now c.args.collection.now c.args.name.now c.args.gives.now (sym c.child.ensures ∙ c.in-None.is)) c.refused_gives.ensures
