use Rattle.std.proofs.Common.{rules}
use Rattle.cm_turn.specs.History.{StartsWith, longer}
use Rattle.cm_turn.proofs.lemmas.Histories.{longer-same}
use Rattle.cm_turn.proofs.turn.meet_seats.Goals as goal

pub returns-clause-same : goal.returns-clause-same
returns-clause-same g c =
    let xs = c.args.one.now.me.0.seen in
    let ys = c.args.other.now.me.0.seen in
    let p : StartsWith (longer xs ys) xs = search rules in
    let q : StartsWith (longer xs ys) ys = search rules in
    let r : StartsWith (longer ys xs) xs = search rules in
    let s : StartsWith (longer ys xs) ys = search rules in
    longer-same xs ys p q r s
