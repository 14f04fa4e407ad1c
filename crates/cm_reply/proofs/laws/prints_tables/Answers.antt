use Rattle.cm_reply.proofs.lemmas.Written.{prints_refusals, prints_reasons, prints_outcomes, prints_events, prints_replies, prints_short_answers}
use Rattle.cm_reply.proofs.laws.prints_tables.Goals as goal

pub returns-clause-refusals : goal.returns-clause-refusals
returns-clause-refusals c = prints_refusals

pub returns-clause-reasons : goal.returns-clause-reasons
returns-clause-reasons c = prints_reasons

pub returns-clause-outcomes : goal.returns-clause-outcomes
returns-clause-outcomes c = prints_outcomes

pub returns-clause-events : goal.returns-clause-events
returns-clause-events c = prints_events

pub returns-clause-replies : goal.returns-clause-replies
returns-clause-replies c = prints_replies

pub returns-clause-short_answers : goal.returns-clause-short_answers
returns-clause-short_answers c = prints_short_answers
