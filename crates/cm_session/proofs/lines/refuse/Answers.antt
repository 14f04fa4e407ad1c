use Rattle.std.proofs.Common.{inl, inr, refl, rules}
use Rattle.cm_session.proofs.lines.refuse.Goals as goal

pub returns-in-Ok-clause-answered : goal.returns-in-Ok-clause-answered
returns-in-Ok-clause-answered g c = inl (search rules, search rules)

pub returns-in-Err-clause-answered : goal.returns-in-Err-clause-answered
returns-in-Err-clause-answered g c = inr (refl, refl)
