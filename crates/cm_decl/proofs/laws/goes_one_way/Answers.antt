use Rattle.std.proofs.Common.{refl}
use Rattle.cm_decl.proofs.lemmas.faults.FirstFaults.{computes_none}
use Rattle.cm_decl.proofs.lemmas.cycles.Ring.{weak_acyclic}
use Rattle.cm_decl.proofs.laws.goes_one_way.Goals as goal

pub returns : goal.returns
returns c = record { well_formed = refl; faultless = computes_none _ refl; acyclic = weak_acyclic }
