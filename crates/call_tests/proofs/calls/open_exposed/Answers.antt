use Rattle.call_tests.proofs.calls.open_exposed.Goals as goal

pub returns : goal.returns
returns g c = c.open_exposed.ensures.performs.same.lock
