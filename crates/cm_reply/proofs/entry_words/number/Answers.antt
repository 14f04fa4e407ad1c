use Rattle.cm_reply.proofs.lemmas.back.Cuts.{number_is, number_faults}
use Rattle.cm_reply.proofs.entry_words.number.Goals as goal

pub returns-in-Ok-clause-finds : goal.returns-in-Ok-clause-finds
returns-in-Ok-clause-finds c m small e = number_is c.args.word.now c.in-Ok.number m small e c.in-Ok.ensures

pub returns-in-Err-clause-finds : goal.returns-in-Err-clause-finds
returns-in-Err-clause-finds c m small e = number_faults c.args.word.now m c.in-Err.fault c.fault_of.result small e c.in-Err.ensures c.fault_of.ensures
