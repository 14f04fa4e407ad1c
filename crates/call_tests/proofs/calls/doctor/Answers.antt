use Rattle.call_tests.proofs.calls.doctor.Goals as goal

pub returns : goal.returns
returns g c = c.doctor.ensures.performs.same.lock
