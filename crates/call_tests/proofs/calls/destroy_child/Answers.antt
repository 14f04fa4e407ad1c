use Rattle.call_tests.proofs.calls.destroy_child.Goals as goal

pub returns : goal.returns
returns g c = c.destroy_child.ensures.performs.same.lock
