use Rattle.std.proofs.Common.{◌≡◌, ◌-◌, length, take, rules}
use Rattle.cm_walk.proofs.lemmas.ways.Placed.{names_above}
use Rattle.cm_walk.proofs.hop.moniker_above.Goals as goal

pub returns : goal.returns
returns g c =
    let cut : c.in_ok-above.above ≡ take (length c.args.here.now.moniker.parts - 1) c.args.here.now.moniker.parts = search rules in
    names_above (g.V.View.rows c.args.view.now) (g.V.View.next_inc c.args.view.now) c.args.here.now.inc c.args.parent c.args.here.now.moniker c.in_ok-above.above c.requires.orderly c.requires.placed c.requires.parent cut
