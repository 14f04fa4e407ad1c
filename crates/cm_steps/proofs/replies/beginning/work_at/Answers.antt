use Rattle.std.proofs.Common.{◌≡◌, Some}
use Rattle.std.proofs.lemmas.Result.{IfOk-weaker}
use Rattle.cm_world.specs.declared.row.Row.{Row}
use Rattle.cm_world.specs.Rows.{row_of}
use Rattle.cm_world.specs.Work.{program_work, work_of}
use Rattle.cm_steps.proofs.lemmas.read.Reading.{start_made}
use Rattle.cm_steps.proofs.replies.beginning.work_at.Goals as goal

pub returns-in_ok-eager-in-Start : goal.returns-in_ok-eager-in-Start
returns-in_ok-eager-in-Start c =
    IfOk-weaker c.program_work.result (λ work. (r : Row) → row_of c.args.table.now.rows c.args.inc ≡ Some r → work ≡ program_work c.args.table.now.rows c.args.action r c.in_ok-eager-in-Start.eager) (λ work. (r : Row) → row_of c.args.table.now.rows c.args.inc ≡ Some r → c.args.parent ≡ r.parent → work ≡ work_of c.args.table.now.rows c.args.action c.args.kind r)
    (λ work h. λ r lives up. start_made c.args.table.now.rows c.args.action c.args.inc c.args.kind c.in_ok-eager-in-Start.eager work r c.in-Start.is c.in_ok-eager-in-Start.ensures lives (h r lives)) c.program_work.ensures
