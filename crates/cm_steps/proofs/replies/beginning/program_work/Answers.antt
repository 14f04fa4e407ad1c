use Rattle.cm_steps.proofs.lemmas.read.Reading.{program_made}
use Rattle.cm_steps.proofs.replies.beginning.program_work.Goals as goal

pub returns : goal.returns
returns c = λ r lives.
    program_made c.args.table.now.rows c.args.action c.args.inc c.in_ok-moniker.moniker c.new.result c.in_ok-url.url c.args.eager c.in_ok-runner.runner _ r c.in_ok-moniker.ensures c.new.ensures c.in_ok-url.ensures c.absolute.ensures c.in_ok-runner.ensures lives
