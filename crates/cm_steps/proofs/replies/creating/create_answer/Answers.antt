use Rattle.std.proofs.Common.{arith}
use Rattle.cm_steps.proofs.lemmas.read.Creations.{creates_by, siblings_acyclic}
use Rattle.cm_steps.proofs.replies.creating.create_answer.Goals as goal

pub may_create_acyclic-requires : goal.may_create_acyclic-requires
may_create_acyclic-requires c = λ d found.
    siblings_acyclic c.args.table.now.rows c.args.table.now.next_inc c.args.parent d c.requires found

pub returns : goal.returns
returns c =
    let t = c.args.table.now in
    creates_by t.limit t.next_inc c.free.result c.args.parent t.rows c.args.coll.now c.args.name.now c.args.gives.now c.in_ok-may.may c.answer_of.result c.parents_can_take.ensures (c.free.ensures 1 (omega arith)) c.in_ok-may.ensures c.answer_of.ensures
