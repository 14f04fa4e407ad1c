use Rattle.std.proofs.Common.{◌≡◌, All, Some, ap, false, map, refl, subst, sym, ◌∙◌}
use Rattle.std.proofs.lemmas.List.{length-map}
use Rattle.std.proofs.lemmas.List.Elements.{All-push}
use Rattle.cm_manager.specs.declared.desks.Desk.{Desk}
use Rattle.cm_manager.proofs.lemmas.desked.Moving.{all_moved, fits_still, moved_as, shorter}
use Rattle.cm_manager.proofs.desks.make_desks.Goals as goal

pub loop-pass-preserved : goal.loop-pass-preserved
loop-pass-preserved g c =
    let is = c.loop-pass.invariant in
    record {
      passes_are = moved_as (λ (d : Desk g.row.G.Denot g.row.W.Denot). d.pass) _ _ _ _ _ _ is.passes_are c.push_reserved.ensures.items (ap (map Some) c.in-Some.ensures.steps.0);
      gates_are = moved_as (λ (d : Desk g.row.G.Denot g.row.W.Denot). d.gates) _ _ _ _ _ _ is.gates_are c.push_reserved.ensures.items c.in-Some-next.ensures.cases.0;
      works_are = moved_as (λ (d : Desk g.row.G.Denot g.row.W.Denot). d.work) _ _ _ _ _ _ is.works_are c.push_reserved.ensures.items c.in-Some-next-2.ensures.cases.0;
      as_many_gates = shorter _ _ _ _ _ _ is.as_many_gates c.in-Some-next.ensures.cases.0 c.in-Some.ensures.steps.0;
      as_many_works = shorter _ _ _ _ _ _ is.as_many_works c.in-Some-next-2.ensures.cases.0 c.in-Some.ensures.steps.0;
      well = subst (All (λ (d : Desk g.row.G.Denot g.row.W.Denot). d.lost ≡ false)) (sym c.push_reserved.ensures.items) (All-push (λ (d : Desk g.row.G.Denot g.row.W.Denot). d.lost ≡ false) _ _ is.well refl);
      room = fits_still _ _ _ _ _ _ _ _ is.room c.push_reserved.ensures.items c.in-Some.ensures.steps.0 c.push_reserved.ensures.capacity;
    }

pub returns : goal.returns
returns g c =
    let is = c.loop-pass.invariant in
    let none = sym c.loop-pass.pass-iterator.rest.ok.0 ∙ c.in-None.ensures.steps.0 in
    record {
      passes_are = all_moved _ _ _ is.passes_are (length-map _ Some ∙ none);
      gates_are = all_moved _ _ _ is.gates_are (is.as_many_gates ∙ none);
      works_are = all_moved _ _ _ is.works_are (is.as_many_works ∙ none);
      well = is.well;
    }
