use Rattle.std.proofs.Common.{refl}
use Rattle.std.specs.Fmt.{digits}
use Rattle.cm_call.proofs.laws.small_workloads.Goals as goal

pub returns-clause-draws : goal.returns-clause-draws
returns-clause-draws c = refl

pub returns-clause-kids : goal.returns-clause-kids
returns-clause-kids c = refl

pub returns-clause-moniker : goal.returns-clause-moniker
unfolding digits
returns-clause-moniker c = refl

pub returns-clause-url : goal.returns-clause-url
unfolding digits
returns-clause-url c = refl
