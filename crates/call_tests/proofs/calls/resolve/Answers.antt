use Rattle.call_tests.proofs.calls.resolve.Goals as goal

pub returns : goal.returns
returns g c = c.resolve.ensures.performs.same.lock
