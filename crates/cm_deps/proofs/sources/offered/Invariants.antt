use Rattle.std.proofs.Common.{ℕ, List, take, ◌&&◌, bytes_eq}
use Rattle.cm_decl.specs.declared.rows.Offer.{Offer}
use Rattle.cm_decl.specs.Graph.{is_strong}
use Rattle.cm_deps.specs.Sources.{Lists, numbers_at}
use Rattle.cm_deps.proofs.lemmas.given.Sourcing.{passing}
use Rattle.cm_deps.proofs.sources.offered.Given as goal

abbrev pub invariant-loop-offer : goal.invariant-loop-offer
invariant-loop-offer l = (name : List ℕ) → Lists l.nodes (passing (λ (o : Offer). bytes_eq o.to name && is_strong o.give.dependency) (λ (o : Offer). o.give.from) (take l.offer-index l.offers)) (numbers_at l.numbers name)
