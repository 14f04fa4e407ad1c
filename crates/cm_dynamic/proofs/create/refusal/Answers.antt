use Rattle.std.proofs.Common.{Option, IfOk, sym, ◌∙◌, subst}
use Rattle.cm_world.specs.declared.reply.Reply.{Reply}
use Rattle.cm_dynamic.specs.Replies.{RefusesChange}
use Rattle.cm_dynamic.proofs.lemmas.children.Refusing.{resolved}
use Rattle.cm_dynamic.proofs.create.refusal.Goals as goal

pub returns-in-Some : goal.returns-in-Some
returns-in-Some g c =
    subst (λ (o : Option Reply). IfOk c.refusal_by.result (λ refusal. RefusesChange refusal o))
    (resolved (g.V.View.rows c.args.view.now) c.args.parent c.in-Some.decl.now c.args.coll.now c.args.child.now c.args.gives.now (sym c.is_gone.ensures ∙ c.if-is_gone.false) (sym c.is_closed.ensures ∙ c.if-is_closed.false) (sym c.in-Some.ensures.decl)) c.refusal_by.ensures
