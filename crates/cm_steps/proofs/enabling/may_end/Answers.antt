use Rattle.std.proofs.Common.{sym, ◌∙◌}
use Rattle.cm_steps.proofs.lemmas.actions.Enabled.{no_act, has_ended, not_own, ends_if}
use Rattle.cm_steps.proofs.enabling.may_end.Goals as goal
