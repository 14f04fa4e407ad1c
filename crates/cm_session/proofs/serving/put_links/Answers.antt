use Rattle.cm_session.proofs.lemmas.links.Putting.{putting_none, putting_room, putting_more, putting_all}
use Rattle.std.proofs.Common.{◌∙◌, ◌<◌, ℕ, sym, subst, vec_capacity}
use Rattle.cm_session.proofs.serving.put_links.Goals as goal

pub loop-link-init : goal.loop-link-init
loop-link-init g c = putting_none _ _ _ _ _ c.into_iter-link-iterator.ensures.into_iter_gives.0 c.requires.room

pub push_reserved-requires : goal.push_reserved-requires
push_reserved-requires g c = subst (λ (n : ℕ). n < vec_capacity c.loop-link.back) (sym c.loop-link.back.ok.0) (putting_room _ _ _ _ _ _ _ _ _ c.loop-link.invariant c.in-Some.ensures.steps.0)

pub loop-link-preserved : goal.loop-link-preserved
loop-link-preserved g c = putting_more _ _ _ _ _ _ _ _ _ _ _ c.loop-link.invariant c.in-Some.ensures.steps.0 c.push_reserved.ensures.items c.push_reserved.ensures.capacity

pub returns-clause-items : goal.returns-clause-items
returns-clause-items g c = putting_all _ _ _ _ _ _ _ c.loop-link.invariant (sym c.loop-link.link-iterator.rest.ok.0 ∙ c.in-None.ensures.steps.0)
