use Rattle.std.proofs.Common.{vec_capacity}
use Rattle.cm_session.proofs.lemmas.links.Putting.{Gathering}
use Rattle.cm_session.proofs.serving.all_links.Given as goal

abbrev pub invariant-loop-part : goal.invariant-loop-part
invariant-loop-part g l = Gathering l.fn.links.items (vec_capacity l.fn.back) l.worker l.back.items (vec_capacity l.back) l.part-iterator.rest.items
