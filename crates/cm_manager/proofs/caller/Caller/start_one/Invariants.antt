use Rattle.cm_manager.specs.Acting.{StartsBy}
use Rattle.cm_manager.proofs.lemmas.callers.CallerRuns.{CallerLoop}
use Rattle.cm_manager.proofs.caller.Caller.start_one.Given as goal

-- whatever the start comes to from here is what the whole comes to
abbrev pub invariant-loop : goal.invariant-loop
invariant-loop g l = CallerLoop (λ end f c a b. StartsBy f c l.inc end a b) (λ end f c a b. StartsBy f c l.inc end a b) l.fn.self l.self
