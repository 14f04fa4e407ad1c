use Rattle.std.proofs.Common.{◌∙◌}
use Rattle.cm_steps.proofs.replies.finding.located.Goals as goal

pub returns : goal.returns
returns g c = c.locate_below.ensures.located ∙ c.in-Some-names_leading_to.ensures.on
