use Rattle.std.proofs.Common.{◌≡◌, ◌++◌}
use Rattle.cm_world.specs.Create.{dynamic_children}
use Rattle.cm_dynamic.specs.Siblings.{siblings_behind}
use Rattle.cm_dynamic.proofs.lemmas.children.Following.{ahead}
use Rattle.cm_dynamic.proofs.siblings.siblings.Given as goal

-- those so far and those behind them are all
abbrev pub invariant-children : goal.invariant-children
invariant-children g l =
    let rows = g.V.View.rows l.view in
    l.children.items ++ siblings_behind rows l.parent l.after ≡ dynamic_children rows l.parent

abbrev pub decreases-children : goal.decreases-children
decreases-children g l = ahead (g.V.View.next_inc l.view) l.after
