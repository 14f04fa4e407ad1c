use Rattle.call_tests.proofs.calls.list_children.Goals as goal

pub returns : goal.returns
returns g c = c.list_children.ensures.performs.same.lock
