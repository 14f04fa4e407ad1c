use Rattle.std.proofs.Common.{sym, ◌∙◌}
use Rattle.cm_order.proofs.lemmas.levels.Glancing.{here_last}
use Rattle.cm_order.proofs.glance.is_last.Goals as goal

pub returns-clause-last : goal.returns-clause-last
returns-clause-last g c = λ last.
    here_last (g.V.View.rows c.args.view.now) (g.V.View.next_inc c.args.view.now) c.requires.sound c.args.stand.now.inc (sym c.is_idle.ensures ∙ c.if-not-is_idle.false) (c.in_ok-kids.ensures.all last)

pub returns-clause-known : goal.returns-clause-known
returns-clause-known g c = record {
  done = c.in_ok-kids.ensures.done;
  below = c.in_ok-kids.ensures.all;
}
