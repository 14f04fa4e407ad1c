use Rattle.std.proofs.Common.{refl, inr}
use Rattle.cm_decl.proofs.lemmas.faults.FirstFaults.{computes_none}
use Rattle.cm_decl.proofs.lemmas.cycles.Ring.{ring_is_picked}
use Rattle.cm_decl.proofs.laws.goes_two_ways.Goals as goal

pub returns : goal.returns
returns c = inr (record { faultless = computes_none _ refl; picked = ring_is_picked; whole = refl })
