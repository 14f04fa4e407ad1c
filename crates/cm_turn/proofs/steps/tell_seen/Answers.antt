use Rattle.std.proofs.Common.{arith, ap, ◌∙◌}
use Rattle.cm_turn.proofs.lemmas.RecordsState.{notes, tells}
use Rattle.cm_turn.proofs.steps.tell_seen.Goals as goal

pub split_seat-note-requires : goal.split_seat-note-requires
split_seat-note-requires g c = let r = c.requires in let words = r.lock.0.0 in (r.lock.1, omega arith, notes g.S.Storied.story g.S.Storied.frame g.S.Storied.by c.args.table.now.key _ c.args.from.now.me.0)

pub join_seat-requires : goal.join_seat-requires
join_seat-requires g c =
    let r = c.requires in
    let words = r.lock.0.0 in
    let e = c.split_seat-note.ensures in
    (r.lock.2, e.3 ∙ r.lock.1, ap (λ m. m.1) e.4, omega arith, tells g.S.Storied.story g.S.Storied.frame g.S.Storied.by c.args.table.now.key _ _ c.args.to.now.me.0 c.split_seat-note.result.me.0 r.idle (ap (λ m. m.0.turn) e.4) (ap (λ m. m.0.ticket) e.4) (ap (λ m. m.0.parts) e.4))
