use Rattle.std.proofs.Common.{Option, IfOk, sym, ◌∙◌, ap, subst}
use Rattle.cm_world.specs.declared.reply.Reply.{Reply}
use Rattle.cm_world.specs.Create.{refused_name}
use Rattle.cm_dynamic.specs.Replies.{RefusesChange}
use Rattle.cm_dynamic.proofs.lemmas.children.Refusing.{collected}
use Rattle.cm_dynamic.proofs.create.refusal_by.Goals as goal

pub returns-in_ok-name-in-Some : goal.returns-in_ok-name-in-Some
returns-in_ok-name-in-Some g c =
    let rows = g.V.View.rows c.args.view.now in
    subst (λ (o : Option Reply). IfOk c.refusal_in.result (λ refusal. RefusesChange refusal o))
    (ap (λ n. refused_name rows c.args.parent c.args.decl.now c.in-Some.collection.now n c.args.gives.now) c.in_ok-name-in-Some.ensures
    ∙ collected rows c.args.parent c.args.decl.now c.in-Some.collection.now c.args.coll.now c.args.child.now c.args.gives.now (sym c.in-Some.ensures)) c.refusal_in.ensures
