use Rattle.std.proofs.Common.{None, refl, sym, ◌∙◌}
use Rattle.cm_trees.proofs.levels.Kids.{no_kids}
use Rattle.cm_order.proofs.lemmas.levels.Glancing.{here_last}
use Rattle.cm_order.proofs.glance.leaf.Goals as goal

pub returns-then-is_idle-clause-glance : goal.returns-then-is_idle-clause-glance
returns-then-is_idle-clause-glance g c =
    here_last (g.V.View.rows c.args.view.now) (g.V.View.next_inc c.args.view.now) c.requires.sound c.args.stand.now.inc (sym c.is_idle.ensures ∙ c.if-is_idle.true)
    (λ i kid. absurd (no_kids (g.V.View.rows c.args.view.now) c.args.stand.now.inc None i c.requires.none kid refl))

pub returns-then-is_idle-clause-known : goal.returns-then-is_idle-clause-known
returns-then-is_idle-clause-known g c = record {
  done = c.requires.known.done;
  below = λ yes i kid. absurd (no_kids (g.V.View.rows c.args.view.now) c.args.stand.now.inc None i c.requires.none kid refl);
}

pub returns-clause-known : goal.returns-clause-known
returns-clause-known g c = record {
  done = c.requires.known.done;
  below = λ yes i kid. absurd (no_kids (g.V.View.rows c.args.view.now) c.args.stand.now.inc None i c.requires.none kid refl);
}
