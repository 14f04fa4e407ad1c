use Rattle.cm_env.proofs.reach.stand_above.Goals as goal

pub returns-in_default : goal.returns-in_default
returns-in_default c = record { inc = c.unknown.ensures.inc; reaches = λ rows kept. c.unknown.ensures.reaches rows }

pub returns-in_default-get-clause-reaches : goal.returns-in_default-get-clause-reaches
returns-in_default-get-clause-reaches c = λ rows kept. c.unknown-in_default-get.ensures.reaches rows

pub returns-then-stand-inc-clause-reaches : goal.returns-then-stand-inc-clause-reaches
returns-then-stand-inc-clause-reaches c = λ rows kept. c.unknown-then-stand-inc.ensures.reaches rows
