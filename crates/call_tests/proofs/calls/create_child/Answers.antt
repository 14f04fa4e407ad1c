use Rattle.call_tests.proofs.calls.create_child.Goals as goal

pub returns : goal.returns
returns g c = c.create_child.ensures.performs.same.lock
