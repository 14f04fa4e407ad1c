use Rattle.std.proofs.Common.{◌∙◌, sym}
use Rattle.cm_manager.proofs.lemmas.callers.CallerRuns.{known_run}
use Rattle.cm_manager.proofs.lemmas.callers.CallerStarts.{all_started, cut_among, wanting_among, settled_on, children_on}
use Rattle.cm_manager.proofs.lemmas.starts.Starts.{empty_by}
use Rattle.cm_manager.proofs.caller.Caller.start_all.Goals as goal

pub loop-init : goal.loop-init
loop-init g c = record { onward = record { rest = λ t end it. it }; known = c.requires.known }

pub returns-in_default : goal.returns-in_default
returns-in_default g c =
    c.loop.invariant.onward.rest _ _
    (all_started _ _ (empty_by _ _ c.in_default.ensures.items c.in_default.ensures.rest) c.loop.invariant.known)

pub returns-in-Some-ending_of_eager : goal.returns-in-Some-ending_of_eager
returns-in-Some-ending_of_eager g c =
    c.loop.invariant.onward.rest _ _
    (cut_among _ _ _ _ _ _ _ _ c.in-Some-pop_front.ensures.items c.in-Settled.is (sym c.in-Some-ending_of_eager.ensures) c.start_one.ensures)

pub loop-preserved-in_default-ending_of_eager : goal.loop-preserved-in_default-ending_of_eager
loop-preserved-in_default-ending_of_eager g c = record {
  onward =
      settled_on _ _ _ _ _ _ _ _ _ c.loop.invariant.onward c.in-Some-pop_front.ensures.items c.in-Settled.is
      (sym c.ending_of_eager.ensures ∙ c.in_default-ending_of_eager.is) c.start_one.ensures;
  known = known_run _ _ _ c.start_one.ensures;
}

pub loop-preserved : goal.loop-preserved
loop-preserved g c = record {
  onward =
      children_on _ _ _ _ _ _ _ _ _ _ _ c.loop.invariant.onward c.in-Some-pop_front.ensures.items c.in-Children.is c.in-Ok.ensures.all
      c.start_one.ensures;
  known = known_run _ _ _ c.start_one.ensures;
}

pub returns-in-Err : goal.returns-in-Err
returns-in-Err g c =
    c.loop.invariant.onward.rest _ _
    (wanting_among _ _ _ _ _ _ _ _ c.in-Some-pop_front.ensures.items c.in-Children.is c.in-Err.ensures.wanting c.start_one.ensures)
