use Rattle.std.proofs.Common.{arith, ap, ◌∙◌, ◌+◌, ◌%◌, ◌^◌}
use Rattle.cm_turn.specs.Plays.{ticket_word}
use Rattle.cm_turn.proofs.lemmas.Calls.{passes_on}
use Rattle.cm_turn.proofs.lemmas.Tickets.{mod_suc}
use Rattle.cm_turn.proofs.steps.serve_next.Goals as goal

pub fetch_add-served-requires : goal.fetch_add-served-requires
fetch_add-served-requires g c = let r = c.requires in let words = r.lock.0.0 in let e = r.slot in (r.lock.1, omega arith, passes_on g.S.Storied.story g.S.Storied.frame g.S.Storied.by c.args.table.now.key _ _ c.args.seat.now.me e.0 e.1 r.turn e.2 e.3)

pub returns-clause-next : goal.returns-clause-next
returns-clause-next g c = λ t holds. ((λ k. ((c.fetch_add-served.ensures.2.0 ∙ ap ticket_word holds) k + 1) % 2 ^ 64) ∙ mod_suc t)
