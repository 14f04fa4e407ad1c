use Rattle.std.proofs.Common.{◌≡◌, ◌≤◌, ◌+◌, ◌*◌, drop, IsTrue}
use Rattle.cm_world.specs.Rows.{is_live}
use Rattle.cm_world.specs.Located.{located_from}
use Rattle.cm_walk.proofs.locating.locate_below.Given as goal

-- the names so far lead here, by two steps each, and the rest decides
abbrev pub invariant-loop-depth : goal.invariant-loop-depth
invariant-loop-depth g l =
    let rows = g.S.Store.rows l.store in
    (located_from rows l.at l.depth (drop l.depth l.moniker.parts) ≡ located_from rows l.from l.count (drop l.count l.moniker.parts))
    × IsTrue (is_live rows l.at) × (l.steps + 2 * l.count ≤ l.initial.steps + 2 * l.depth)
