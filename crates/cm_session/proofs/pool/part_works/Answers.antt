use Rattle.std.proofs.Common.{◌∷◌, Some, ap, map, ◌∙◌}
use Rattle.std.proofs.lemmas.List.Elements.{All-rest}
use Rattle.cm_manager.proofs.lemmas.desked.Moving.{fits_still, moved, moved_as}
use Rattle.cm_session.specs.PoolParts.{HasDoorPass}
use Rattle.cm_session.specs.declared.workers.DoorWork.{DoorWork}
use Rattle.cm_session.proofs.pool.part_works.Goals as goal

pub loop-work-preserved : goal.loop-work-preserved
loop-work-preserved g c =
    let is = c.loop-work.invariant in
    record {
      at_door = moved_as Some _ _ _ _ _ c.in-Some-at_door.at_door is.at_door c.push_reserved.ensures.items
          (ap (map (λ w. w.at_door)) c.in-Some.ensures.steps.0 ∙ ap (λ p. p ∷ map (λ (w : DoorWork g.row.L.Denot). w.at_door) c.next.new.self.rest.items) c.in-Some-at_door.is);
      links = moved _ _ _ _ _ c.in-Some.work.links is.links c.push_reserved-in-loop-work.ensures.items (ap (map (λ w. w.links)) c.in-Some.ensures.steps.0);
      passes = All-rest HasDoorPass _ _ _ c.in-Some.ensures.steps.0 is.passes;
      room = fits_still _ _ _ _ _ _ _ _ is.room c.push_reserved.ensures.items c.in-Some.ensures.steps.0 c.push_reserved.ensures.capacity;
      link_room = fits_still _ _ _ _ _ _ _ _ is.link_room c.push_reserved-in-loop-work.ensures.items c.in-Some.ensures.steps.0 c.push_reserved-in-loop-work.ensures.capacity;
    }
