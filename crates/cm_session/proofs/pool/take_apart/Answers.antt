use Rattle.std.proofs.Common.{ap, map, subst, sym, All, ◌∙◌}
use Rattle.std.proofs.lemmas.List.Elements.{All-map}
use mathlib.Core.List.{map-map}
use Rattle.cm_session.specs.Pool.{Worker}
use Rattle.cm_session.specs.PoolParts.{HasDoorPass}
use Rattle.cm_session.specs.declared.workers.DoorWork.{DoorWork}
use Rattle.cm_session.proofs.pool.take_apart.Goals as goal

pub clear_desks-passes-requires-clause-passes : goal.clear_desks-passes-requires-clause-passes
clear_desks-passes-requires-clause-passes g c k d lt = (let has = c.requires.passes k d lt in record { pass = has.pass; there = has.there })

pub part_works-requires-clause-passes : goal.part_works-requires-clause-passes
part_works-requires-clause-passes g c =
    subst (All HasDoorPass) (sym c.clear_desks-passes.ensures.works) (All-map HasDoorPass (λ (w : Worker g.row.G.Denot g.row.L.Denot). w.work) _ (λ k d lt. (c.requires.passes k d lt).door))

pub returns : goal.returns
returns g c =
    let parts = c.clear_desks-passes.ensures in
    record {
      passes = parts.passes;
      at_door = c.part_works.ensures.at_door ∙ ap (map (λ w. w.at_door)) parts.works ∙ map-map (λ (w : DoorWork g.row.L.Denot). w.at_door) (λ (w : Worker g.row.G.Denot g.row.L.Denot). w.work) _;
      gates = parts.gates;
      links = c.part_works.ensures.links ∙ ap (map (λ w. w.links)) parts.works ∙ map-map (λ (w : DoorWork g.row.L.Denot). w.links) (λ (w : Worker g.row.G.Denot g.row.L.Denot). w.work) _;
      well = parts.well;
      lost = parts.lost;
    }
