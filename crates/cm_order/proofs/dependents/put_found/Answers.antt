use Rattle.std.proofs.lemmas.Result.{on_ok_weaker}
use Rattle.cm_order.proofs.dependents.put_found.Goals as goal

pub returns-in-Some-clause-real : goal.returns-in-Some-clause-real
returns-in-Some-clause-real c =
    on_ok_weaker c.put_client.result (λ real. λ rows p more are. real rows p (more c.in-Some.source c.in-Some.is) are) c.put_client.ensures.real
