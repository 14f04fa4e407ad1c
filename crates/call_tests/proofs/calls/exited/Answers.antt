use Rattle.call_tests.proofs.calls.exited.Goals as goal

pub returns : goal.returns
returns g c = c.exited.ensures.performs.same.lock
