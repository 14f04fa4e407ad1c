use Rattle.call_tests.proofs.calls.show.Goals as goal

pub returns : goal.returns
returns g c = c.show.ensures.performs.same.lock
