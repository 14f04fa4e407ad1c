use Rattle.call_tests.proofs.calls.route.Goals as goal

pub returns : goal.returns
returns g c = c.route.ensures.performs.same.lock
