use Rattle.cm_reply.proofs.lemmas.Written.{prints_route, prints_directory, prints_forced, prints_created, prints_children, prints_look, prints_survey, prints_doctor, prints_stream, prints_failure}
use Rattle.cm_reply.proofs.laws.prints_answers.Goals as goal

pub returns-clause-route : goal.returns-clause-route
returns-clause-route c = prints_route

pub returns-clause-rights : goal.returns-clause-rights
returns-clause-rights c = prints_directory

pub returns-clause-forced : goal.returns-clause-forced
returns-clause-forced c = prints_forced

pub returns-clause-created : goal.returns-clause-created
returns-clause-created c = prints_created

pub returns-clause-children : goal.returns-clause-children
returns-clause-children c = prints_children

pub returns-clause-look : goal.returns-clause-look
returns-clause-look c = prints_look

pub returns-clause-survey : goal.returns-clause-survey
returns-clause-survey c = prints_survey

pub returns-clause-doctor : goal.returns-clause-doctor
returns-clause-doctor c = prints_doctor

pub returns-clause-stream : goal.returns-clause-stream
returns-clause-stream c = prints_stream

pub returns-clause-failure : goal.returns-clause-failure
returns-clause-failure c = prints_failure
