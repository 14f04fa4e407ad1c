use Rattle.call_tests.proofs.calls.open_use.Goals as goal

pub returns : goal.returns
returns g c = c.open_use.ensures.performs.same.lock
