use Rattle.std.proofs.Common.{subst, sym, List, ◌∙◌}
use Rattle.cm_manager.specs.declared.desks.Desk.{Desk}
use Rattle.cm_manager.proofs.lemmas.desked.Clearing.{Clearing, clearing_none, clearing_more, clearing_all}
use Rattle.cm_manager.proofs.desks.clear_desks.Goals as goal

pub loop-desk-init : goal.loop-desk-init
loop-desk-init g c = subst (λ (l : List (Desk g.row.G.Denot g.row.W.Denot)). Clearing c.args.desks.items l c.args.parts) (sym c.into_iter-desk-iterator.ensures.into_iter_gives.0) (clearing_none c.args.desks.items c.args.parts c.requires.empty c.requires.room)

pub loop-desk-preserved : goal.loop-desk-preserved
loop-desk-preserved g c = clearing_more c.args.desks.items _ _ c.in-Some.desk _ _ c.loop-desk.invariant c.in-Some.ensures.steps.0 c.put_parts.ensures

pub returns : goal.returns
returns g c = clearing_all _ _ _ c.loop-desk.invariant (sym c.loop-desk.desk-iterator.rest.ok.0 ∙ c.in-None.ensures.steps.0)
