use Rattle.cm_manager.proofs.caller.Caller.purge.Goals as goal

pub ask-requires : goal.ask-requires
ask-requires g c = (c.type_bounds.sync-R, c.requires.due)

pub returns-in-Ok : goal.returns-in-Ok
returns-in-Ok g c = record { turns = c.ask.ensures.turns; purged = (c.in-Ok.reply, rw c.in-Ok.is at c.ask.ensures.asked) }

pub returns-in-Err : goal.returns-in-Err
returns-in-Err g c = record { turns = c.ask.ensures.turns; purged = rw c.in-Err.is at c.ask.ensures.asked }
