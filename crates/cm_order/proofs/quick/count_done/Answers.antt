use Rattle.std.proofs.Common.{rules, ◌≡◌, Some, IsTrue, subst}
use Rattle.std.specs.Prelude.{IfSome}
use Rattle.cm_world.specs.Rows.{is_subtree_shut}
use Rattle.cm_world.specs.RowsInside.{child_behind}
use Rattle.cm_order.proofs.lemmas.levels.Glancing.{shut_more}
use Rattle.cm_order.proofs.quick.count_done.Goals as goal

pub returns-then-next-child-clause-known : goal.returns-then-next-child-clause-known
returns-then-next-child-clause-known g c =
    let found : Some c.in-Some.child ≡ child_behind (g.V.View.rows c.args.view.now) c.args.stand.now.inc c.args.stand.now.done = search rules in
    record {
      done =
          shut_more (g.V.View.rows c.args.view.now) (g.V.View.next_inc c.args.view.now) c.requires.sound c.args.stand.now.inc c.in-Some.child c.args.stand.now.done c.requires.known.done found
          (subst (λ o. IfSome o (λ k. IsTrue (is_subtree_shut (g.V.View.rows c.args.view.now) k))) c.in-Some.is c.requires.closed);
      below = c.requires.known.below;
    }
