use Rattle.std.proofs.Common.{◌∙◌}
use Rattle.std.proofs.lemmas.Option.{MatchOption-at_some}
use Rattle.cm_order.specs.Picking.{PicksNow, MayBePicked}
use Rattle.cm_steps.proofs.lemmas.actions.Chosen.{stops_this}
use Rattle.cm_steps.proofs.replies.picking.this_answer.Goals as goal

pub returns-clause-some : goal.returns-clause-some
returns-clause-some c =
    let rows = c.args.table.now.rows in
    let it = MatchOption-at_some (MayBePicked rows c.args.target c.args.inc → ⊥) (PicksNow rows c.args.target c.args.inc) c.in-Some.on c.in-Some.is c.in_ok-on.ensures.chosen in
    stops_this rows c.args.next_action c.args.target c.args.inc c.in-Some.on c.in_ok-boxed.boxed c.new.result c.if-not-on.false it c.new.ensures (λ r lives. c.in_ok-boxed.ensures ∙ c.in_ok-work.ensures r lives)
