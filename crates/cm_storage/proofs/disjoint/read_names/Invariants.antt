use Rattle.cm_storage.proofs.lemmas.Named.{AreNamedFrom}
use Rattle.cm_storage.proofs.disjoint.read_names.Given as goal

-- the names down to the instance are names if those down to where the loop is are
abbrev pub invariant-up : goal.invariant-up
invariant-up g l = AreNamedFrom (g.V.View.rows l.view) l.inc l.at

abbrev pub decreases-up : goal.decreases-up
decreases-up g l = l.at
