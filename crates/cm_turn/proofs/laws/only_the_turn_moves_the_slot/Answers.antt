use Rattle.cm_turn.proofs.lemmas.SlotMoves.{arrivals_move}
use Rattle.cm_turn.proofs.lemmas.SlotMoves.{only_turn_moves}
use Rattle.cm_turn.proofs.lemmas.SlotMoves.{steps_move}
use Rattle.cm_turn.proofs.laws.only_the_turn_moves_the_slot.Goals as goal

pub returns-clause-only : goal.returns-clause-only
returns-clause-only g c = only_turn_moves g.S.Storied.story g.S.Storied.frame g.S.Storied.by

pub returns-clause-steps : goal.returns-clause-steps
returns-clause-steps g c = λ s. steps_move s

pub returns-clause-arrivals : goal.returns-clause-arrivals
returns-clause-arrivals g c = λ s. arrivals_move s
