use Rattle.std.proofs.Common.{Some, ap, map, sym, ◌∙◌}
use Rattle.std.proofs.lemmas.List.{length-map}
use Rattle.cm_manager.proofs.lemmas.desked.Moving.{all_moved, fits_still, moved_as, shorter}
use Rattle.cm_session.specs.declared.workers.DoorWork.{DoorWork}
use Rattle.cm_session.proofs.pool.make_works.Goals as goal

pub loop-pass-preserved : goal.loop-pass-preserved
loop-pass-preserved g c =
    let is = c.loop-pass.invariant in
    record {
      at_door = moved_as (λ (w : DoorWork g.row.L.Denot). w.at_door) _ _ _ _ _ _ is.at_door c.push_reserved.ensures.items (ap (map Some) c.in-Some.ensures.steps.0);
      links = moved_as (λ (w : DoorWork g.row.L.Denot). w.links) _ _ _ _ _ _ is.links c.push_reserved.ensures.items c.in-Some-next.ensures.cases.0;
      as_many = shorter _ _ _ _ _ _ is.as_many c.in-Some-next.ensures.cases.0 c.in-Some.ensures.steps.0;
      room = fits_still _ _ _ _ _ _ _ _ is.room c.push_reserved.ensures.items c.in-Some.ensures.steps.0 c.push_reserved.ensures.capacity;
    }

pub returns : goal.returns
returns g c =
    let is = c.loop-pass.invariant in
    let none = sym c.loop-pass.pass-iterator.rest.ok.0 ∙ c.in-None.ensures.steps.0 in
    record {
      at_door = all_moved _ _ _ is.at_door (length-map _ Some ∙ none);
      links = all_moved _ _ _ is.links (is.as_many ∙ none);
    }
