use Rattle.cm_world.specs.Create.{is_child_there}
use Rattle.cm_dynamic.specs.Offers.{NoneBad}
use Rattle.cm_dynamic.proofs.offers.bad_give.Given as goal

-- none of the offers so far is bad
abbrev pub invariant-loop-index : goal.invariant-loop-index
invariant-loop-index g l = NoneBad l.decl (is_child_there (g.V.View.rows l.view) l.parent) l.coll l.gives l.index
