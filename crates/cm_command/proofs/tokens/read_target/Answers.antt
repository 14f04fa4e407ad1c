use Rattle.cm_command.proofs.lemmas.counts.MonikerCounts.{target_fault}
use Rattle.cm_command.proofs.tokens.read_target.Goals as goal

pub returns-in-Err-read_moniker : goal.returns-in-Err-read_moniker
returns-in-Err-read_moniker c =
    target_fault c.args.word.now c.in-Err.fault c.in-Err-read_moniker.other c.fault_of_either.result c.fault_of_either.ensures c.in-Err.ensures c.in-Err-read_moniker.ensures
