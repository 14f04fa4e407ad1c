use Rattle.cm_steps.proofs.lemmas.read.Reading.{resolve_made}
use Rattle.cm_steps.proofs.replies.beginning.resolve_work.Goals as goal

pub returns : goal.returns
returns c = λ r lives up.
    resolve_made c.args.table.now.rows c.args.action c.args.inc c.args.parent c.in_ok-moniker.moniker c.in_ok-base.base c.in_ok-url.url c.new.result _ _ r c.in_ok-moniker.ensures c.in_ok-base.ensures c.absolute_of.ensures c.in_ok-url.ensures c.url.ensures c.new.ensures lives up
