use Rattle.cm_steps.proofs.lemmas.actions.Enabled.{awaits_if}
use Rattle.cm_steps.proofs.enabling.may_await.Goals as goal
