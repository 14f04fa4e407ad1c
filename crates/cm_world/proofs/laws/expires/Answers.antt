use Rattle.cm_world.proofs.lemmas.examples.Expiries.{stopping_is_legal, expired_is_legal, closed_is_legal, once_is_legal}
use Rattle.cm_world.proofs.laws.expires.Goals as goal

pub returns : goal.returns
returns c = record { stopping = stopping_is_legal; expired = expired_is_legal; closed = closed_is_legal; once = once_is_legal }
