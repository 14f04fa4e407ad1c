use Rattle.cm_names.proofs.lemmas.prefixes.MonikerPrefixes.{IsUnderWay}
use Rattle.cm_names.proofs.grammar.bad_place.Given as goal

-- the bytes so far lead to the place
abbrev pub invariant-loop-i : goal.invariant-loop-i
invariant-loop-i l = IsUnderWay l.bytes l.i l.place
