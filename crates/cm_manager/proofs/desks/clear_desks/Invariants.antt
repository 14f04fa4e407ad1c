use Rattle.cm_manager.proofs.lemmas.desked.Clearing.{Clearing}
use Rattle.cm_manager.proofs.desks.clear_desks.Given as goal

abbrev pub invariant-loop-desk : goal.invariant-loop-desk
invariant-loop-desk g l = Clearing l.fn.desks.items l.desk-iterator.rest.items l.parts
