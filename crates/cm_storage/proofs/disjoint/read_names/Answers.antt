use Rattle.std.proofs.Common.{subst}
use Rattle.cm_names.specs.Moniker.{IsChildName}
use Rattle.cm_env.proofs.lemmas.Steps.{parent_lower}
use Rattle.cm_storage.proofs.lemmas.Named.{named_more, named_all}
use Rattle.cm_storage.proofs.disjoint.read_names.Goals as goal

pub up-smaller : goal.up-smaller
up-smaller g c =
    parent_lower (g.V.View.rows c.args.view.now) (g.V.View.next_inc c.args.view.now) c.up.at c.in-Some.place.parent c.place.ensures.orderly c.in-Some.ensures.parent

pub up-preserved : goal.up-preserved
up-preserved g c =
    named_more (g.V.View.rows c.args.view.now) (g.V.View.next_inc c.args.view.now) c.args.inc c.up.at c.in-Some.place.parent c.in-Some.place.name.now c.place.ensures.orderly c.in-Some.ensures.parent c.in-Some.ensures.name (subst IsChildName c.get.ensures c.read_name.ensures) c.up.invariant

pub returns-in_default-clause-named : goal.returns-in_default-clause-named
returns-in_default-clause-named g c =
    named_all (g.V.View.rows c.args.view.now) (g.V.View.next_inc c.args.view.now) c.args.inc c.up.at c.place.ensures.orderly c.in_default.ensures.parent c.in_default.ensures.name c.up.invariant
