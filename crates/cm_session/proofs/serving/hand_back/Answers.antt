use Rattle.std.proofs.Common.{◌∙◌, List, sym, subst}
use Rattle.cm_turn.specs.Passes.{AreAll}
use Rattle.cm_session.specs.Doorway.{DoorPass}
use Rattle.cm_session.proofs.lemmas.ends.Closed.{fit_closed, closed_door}
use Rattle.cm_session.proofs.serving.hand_back.Goals as goal

pub close-doorway-requires : goal.close-doorway-requires
close-doorway-requires g c = subst (λ (l : List DoorPass). AreAll c.args.turn l) (sym c.from_vec.ensures) c.requires.all

pub all_links-requires-clause-room : goal.all_links-requires-clause-room
all_links-requires-clause-room g c = fit_closed c.args.parts.works.at_door.items _ c.from_vec.ensures c.args.parts.works.links.items _ c.requires.counts c.close-doorway.result.opening c.close-doorway.result.entries c.close-doorway.ensures.known c.close-doorway.ensures.callers c.into_door-door.ensures.few

pub returns-clause-closed : goal.returns-clause-closed
returns-clause-closed g c = closed_door c.args.parts.works.at_door.items _ c.from_vec.ensures c.args.parts.works.links.items _ c.requires.counts c.close-doorway.result.opening c.close-doorway.result.entries c.close-doorway.ensures.known c.close-doorway.ensures.callers _ _ _ c.args.parts.lost _ _ c.into_door-door.ensures.counts c.into_door-door.ensures.place c.into_door-door.ensures.few (c.from_vec-4.ensures ∙ c.all_links.ensures) c.into_door-door.ensures.failed c.into_door-door.ensures.sound c.cause_of.ensures
