use Rattle.cm_steps.proofs.enabling.may_purge.Goals as goal
