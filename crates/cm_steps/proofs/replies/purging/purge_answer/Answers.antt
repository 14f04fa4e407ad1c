use Rattle.std.proofs.Common.{sym, ◌∙◌}
use Rattle.cm_world.specs.Rows.{subtree}
use Rattle.cm_steps.proofs.lemmas.expiries.Removing.{lost_all}
use Rattle.cm_steps.proofs.replies.purging.purge_answer.Goals as goal

pub returns : goal.returns
returns c =
    (sym c.is_live.ensures ∙ c.if-not-is_live.false, c.in_ok-lost.ensures ∙ lost_all c.args.table.now.rows (subtree c.args.table.now.rows c.args.inc))
