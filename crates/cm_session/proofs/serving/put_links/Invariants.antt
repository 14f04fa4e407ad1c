use Rattle.std.proofs.Common.{vec_capacity}
use Rattle.cm_session.proofs.lemmas.links.Putting.{Putting}
use Rattle.cm_session.proofs.serving.put_links.Given as goal

abbrev pub invariant-loop-link : goal.invariant-loop-link
invariant-loop-link g l = Putting l.worker l.fn.back.items l.fn.links.items (vec_capacity l.fn.back) l.back.items (vec_capacity l.back) l.link-iterator.rest.items
