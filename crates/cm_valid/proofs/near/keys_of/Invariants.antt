use Rattle.cm_valid.proofs.lemmas.Near.{AreKeysBelow}
use Rattle.cm_valid.proofs.near.keys_of.Given as goal

abbrev pub invariant-loop-row : goal.invariant-loop-row
invariant-loop-row g l = AreKeysBelow g.T.Keyed.key l.rows l.row l.keys.items
