use Rattle.std.proofs.Common.{◌∙◌, Some, ap}
use Rattle.cm_manager.proofs.lemmas.callers.CallerRuns.{caller_trans}
use Rattle.cm_session.proofs.lemmas.spoken.Callers.{same_caller, link_served_by}
use Rattle.cm_session.proofs.lemmas.work.Going.{going_none, on_closed, on_failed, on_room, on_served, on_lost, on_over}
use Rattle.cm_session.proofs.workers.serve_links.Goals as goal

pub loop-init : goal.loop-init
loop-init g c = record {
  same = same_caller _;
  going = going_none _ _ _ _ _ _ _ _ c.requires.door c.requires.new c.requires.none c.requires.room;
}

pub serve_link-ended-requires : goal.serve_link-ended-requires
serve_link-ended-requires g c = (c.type_bounds.sync-R, on_room _ _ _ _ _ _ _ _ _ _ _ _ c.loop.invariant.going _ c.take_turn-back.ensures.turn _ (c.in-Some-turned.is ∙ ap Some c.in-Link.is))

pub loop-preserved : goal.loop-preserved
loop-preserved g c = record {
  same = caller_trans _ _ _ c.loop.invariant.same c.serve_link-ended.ensures.same;
  going =
      on_served _ _ _ _ _ _ _ _ _ _ _ _ c.loop.invariant.going _ c.take_turn-back.ensures.turn _ _ _ _ _ c.serve_link-ended.result (c.in-Some-turned.is ∙ ap Some c.in-Link.is)
      c.take_turn-back.ensures.new (link_served_by _ c.args.caller.now c.loop.caller c.serve_link-ended.new.caller _ _ _ _ c.loop.invariant.same c.serve_link-ended.ensures.served) c.serve_link-ended.ensures.room (c.is_lost.ensures.well c.if-is_lost.false);
}

pub loop-preserved-in-Closed : goal.loop-preserved-in-Closed
loop-preserved-in-Closed g c = record {
  same = c.loop.invariant.same;
  going = on_closed _ _ _ _ _ _ _ _ _ _ _ _ c.loop.invariant.going _ c.take_turn-back.ensures.turn (c.in-Some-turned.is ∙ ap Some c.in-Closed.is);
}

pub loop-preserved-in-Failed : goal.loop-preserved-in-Failed
loop-preserved-in-Failed g c = record {
  same = c.loop.invariant.same;
  going = on_failed _ _ _ _ _ _ _ _ _ _ _ _ c.loop.invariant.going _ c.take_turn-back.ensures.turn (c.in-Some-turned.is ∙ ap Some c.in-Failed.is);
}

pub returns-in-None-turned : goal.returns-in-None-turned
returns-in-None-turned g c = record {
  same = c.loop.invariant.same;
  served = on_over _ _ _ _ _ _ _ _ _ _ _ _ c.loop.invariant.going _ c.take_turn-back.ensures.turn c.in-None-turned.is;
}

pub returns-then-is_lost : goal.returns-then-is_lost
returns-then-is_lost g c = record {
  same = caller_trans _ _ _ c.loop.invariant.same c.serve_link-ended.ensures.same;
  served =
      on_lost _ _ _ _ _ _ _ _ _ _ _ _ c.loop.invariant.going _ c.take_turn-back.ensures.turn _ _ _ _ c.serve_link-ended.result (c.in-Some-turned.is ∙ ap Some c.in-Link.is)
      c.take_turn-back.ensures.new (link_served_by _ c.args.caller.now c.loop.caller c.serve_link-ended.new.caller _ _ _ _ c.loop.invariant.same c.serve_link-ended.ensures.served) (c.is_lost.ensures.lost c.if-is_lost.true);
}
