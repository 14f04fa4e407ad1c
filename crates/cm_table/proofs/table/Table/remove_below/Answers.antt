use Rattle.std.proofs.Common.{◌≡◌, None, ◌∙◌, sym, ap, subst}
use Rattle.cm_world.specs.Rows.{row_of}
use Rattle.cm_table.specs.Tree.{Tree}
use Rattle.cm_table.specs.Leaf.{Continues}
use Rattle.cm_table.proofs.lemmas.tree.Leaves.{others_than_none}
use Rattle.cm_table.proofs.table.Table.remove_below.Goals as goal

pub prune-at-requires : goal.prune-at-requires
prune-at-requires c = subst (Continues c.loop-at.self c.args.inc) c.in-Some.is c.loop-at.invariant.next

pub loop-at-preserved : goal.loop-at-preserved
loop-at-preserved c = record {
  others = c.prune-at.ensures.others ∙ c.loop-at.invariant.others;
  same = c.prune-at.ensures.same ∙ ap (λ (t : Tree). record t { rows = c.prune-at.new.self.rows }) c.loop-at.invariant.same;
  next = c.prune-at.ensures.next;
}

pub returns : goal.returns
returns c =
    let none : row_of c.loop-at.self.rows c.args.inc ≡ None = subst (Continues c.loop-at.self c.args.inc) c.in_default.is c.loop-at.invariant.next in
    c.loop-at.invariant.same
    ∙ ap (λ rs. record c.args.self.now { rows = rs }) (sym (others_than_none c.loop-at.self.rows c.args.inc none) ∙ c.loop-at.invariant.others)
