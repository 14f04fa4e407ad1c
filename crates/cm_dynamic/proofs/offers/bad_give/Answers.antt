use Rattle.std.proofs.Common.{sym, ◌∙◌, arith}
use Rattle.cm_world.specs.Create.{is_child_there}
use Rattle.cm_dynamic.proofs.lemmas.children.Bad.{first_bad, none_more}
use Rattle.cm_dynamic.proofs.offers.bad_give.Goals as goal

pub returns-in-Some : goal.returns-in-Some
returns-in-Some g c =
    sym (first_bad c.args.decl.now (is_child_there (g.V.View.rows c.args.view.now) c.args.parent) c.args.coll.now c.args.gives.now c.loop-index.index c.index-gives-index.result c.in-Some.number c.loop-index.invariant (omega arith) c.index-gives-index.is c.in-Some.ensures)

pub loop-index-preserved : goal.loop-index-preserved
loop-index-preserved g c =
    none_more c.args.decl.now (is_child_there (g.V.View.rows c.args.view.now) c.args.parent) c.args.coll.now c.args.gives.now c.loop-index.index c.index-gives-index.result c.loop-index.invariant (omega arith) c.index-gives-index.is (sym c.in_default.is ∙ c.give_fault.ensures)
