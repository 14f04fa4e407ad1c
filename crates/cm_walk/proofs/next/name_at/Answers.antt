use Rattle.std.proofs.Common.{◌≡◌, ◌-◌, length, Some, slice_get, rules}
use Rattle.cm_walk.proofs.lemmas.ways.Placed.{last_name}
use Rattle.cm_walk.proofs.next.name_at.Goals as goal

pub returns-in-Some : goal.returns-in-Some
returns-in-Some g c =
    let last : slice_get c.args.here.now.moniker.parts (length c.args.here.now.moniker.parts - 1) ≡ Some c.in-Some.name.now = search rules in
    last_name (g.V.View.rows c.args.view.now) (g.V.View.next_inc c.args.view.now) c.args.here.now.inc c.args.parent c.args.here.now.moniker c.in-Some.name.now c.requires.orderly c.requires.placed c.requires.parent last
