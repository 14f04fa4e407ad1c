use Rattle.cm_session.proofs.lemmas.links.Putting.{gathering_none, gathering_room, gathering_more, gathering_all}
use Rattle.std.proofs.Common.{◌∙◌, sym}
use Rattle.cm_session.proofs.serving.all_links.Goals as goal

pub loop-part-init : goal.loop-part-init
loop-part-init g c = gathering_none _ _ _ _ c.into_iter-part-iterator.ensures.into_iter_gives.0 c.requires.none c.requires.count

pub put_links-requires : goal.put_links-requires
put_links-requires g c = record { room = gathering_room _ _ _ _ _ _ _ _ c.loop-part.invariant c.in-Some.ensures.steps.0 c.requires.room }

pub loop-part-preserved : goal.loop-part-preserved
loop-part-preserved g c = gathering_more _ _ _ _ _ _ _ _ _ _ c.loop-part.invariant c.in-Some.ensures.steps.0 c.put_links.ensures.items c.put_links.ensures.capacity

pub returns : goal.returns
returns g c = gathering_all _ _ _ _ _ _ c.loop-part.invariant (sym c.loop-part.part-iterator.rest.ok.0 ∙ c.in-None.ensures.steps.0)
