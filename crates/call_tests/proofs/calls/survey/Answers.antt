use Rattle.call_tests.proofs.calls.survey.Goals as goal

pub returns : goal.returns
returns g c = c.survey.ensures.performs.same.lock
