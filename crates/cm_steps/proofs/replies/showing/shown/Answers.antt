use Rattle.std.proofs.Common.{◌≡◌, Some, sym, ◌∙◌}
use Rattle.std.proofs.lemmas.Result.{IfOk-weaker}
use Rattle.cm_world.specs.declared.row.Row.{Row}
use Rattle.cm_world.specs.declared.reply.Reply.TheVariants.{Shown}
use Rattle.cm_world.specs.Rows.{row_of}
use Rattle.cm_world.specs.RowsInside.{facts_of}
use Rattle.cm_world.specs.Reports.{look_at, show_reply}
use Rattle.cm_walk.proofs.lemmas.ways.Up.{Told, told}
use Rattle.cm_steps.proofs.lemmas.read.Reading.{shown_as}
use Rattle.cm_steps.proofs.replies.showing.shown.Goals as goal

pub returns-in-Some : goal.returns-in-Some
returns-in-Some c =
    let t : Told (row_of c.args.table.now.rows c.args.inc) c.in-Some.facts = told c.args.table.now.rows c.args.inc c.in-Some.facts c.in-Some.ensures.facts in
    IfOk-weaker c.shown_row.result (λ reply. (r : Row) → row_of c.args.table.now.rows c.args.inc ≡ Some r → c.in-Some.facts ≡ facts_of r → reply ≡ Shown (look_at r)) (λ reply. reply ≡ show_reply c.args.table.now.rows c.args.inc)
    (λ reply h. h t.row t.lives t.facts ∙ sym (shown_as c.args.table.now.rows c.args.inc t.row (sym c.is_gone.ensures ∙ c.if-is_gone.false) t.lives)) c.shown_row.ensures
