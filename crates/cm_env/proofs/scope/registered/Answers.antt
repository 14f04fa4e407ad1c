use Rattle.cm_env.proofs.scope.registered.Goals as goal

pub registered_by-requires-clause-reaches : goal.registered_by-requires-clause-reaches
registered_by-requires-clause-reaches g c = c.unknown.ensures.reaches (g.V.View.rows c.args.view.now)
