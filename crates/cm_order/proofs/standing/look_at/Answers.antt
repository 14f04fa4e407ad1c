use Rattle.std.proofs.Common.{subst}
use Rattle.cm_order.specs.Standing.{IsClientLeft}
use Rattle.cm_order.proofs.lemmas.levels.Standing.{look_told}
use Rattle.cm_order.proofs.standing.look_at.Goals as goal

pub returns-in-None-clause-look : goal.returns-in-None-clause-look
returns-in-None-clause-look g c = subst (IsClientLeft c.next_client.new.known c.args.at) c.in-None.is c.in_ok-next_client.ensures.client

pub returns-in_ok-look-in-Some-clause-look : goal.returns-in_ok-look-in-Some-clause-look
returns-in_ok-look-in-Some-clause-look g c =
    look_told (g.V.View.rows c.args.view.now) c.args.parent c.args.at c.in-Some.client c.next_client.new.known c.in_ok-look-in-Some.look (c.in_ok-next_client.ensures.known (g.V.View.rows c.args.view.now) c.args.parent c.requires.known)
    (subst (IsClientLeft c.next_client.new.known c.args.at) c.in-Some.is c.in_ok-next_client.ensures.client) c.in_ok-look-in-Some.ensures

pub returns-in-None-clause-known : goal.returns-in-None-clause-known
returns-in-None-clause-known g c = c.in_ok-next_client.ensures.known (g.V.View.rows c.args.view.now) c.args.parent c.requires.known

pub returns-in_ok-look-in-Some-clause-known : goal.returns-in_ok-look-in-Some-clause-known
returns-in_ok-look-in-Some-clause-known g c = c.in_ok-next_client.ensures.known (g.V.View.rows c.args.view.now) c.args.parent c.requires.known
