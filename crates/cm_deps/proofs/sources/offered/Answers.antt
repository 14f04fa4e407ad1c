use Rattle.std.proofs.Common.{◌≡◌, [], ◌∷◌, ◌+◌, ◌&&◌, true, false, sym, ap, subst, take, bytes_eq}
use Rattle.std.specs.Prelude.{unwrap_or}
use Rattle.std.specs.Ordering.{nat_cmp}
use Rattle.std.specs.Cmp.Lexicographic.{slice_cmp, bytes_decides}
use Rattle.std.specs.BTreeMap.{is_at}
use Rattle.std.specs.Map.{lookup}
use Rattle.cm_decl.specs.declared.rows.Offer.{Offer}
use Rattle.cm_decl.specs.Graph.{is_strong}
use Rattle.cm_deps.specs.Sources.{Lists, ListsMore, numbers_at}
use Rattle.cm_deps.proofs.lemmas.given.Sourcing.{passing, more_none, offered_strong, offered_weak, offered_all}
use Rattle.cm_deps.proofs.sources.offered.Goals as goal
use Rattle.cm_deps.proofs.sources.offered.Goals.{then-is_strong+in_ok-add_offer, else-is_strong}

pub loop-offer-init : goal.loop-offer-init
loop-offer-init c = λ name.
    subst (λ l. Lists c.args.nodes.now [] l) (sym (ap (λ es. unwrap_or (lookup (is_at (slice_cmp nat_cmp name)) es) []) c.new-numbers.ensures.empty)) (more_none c.args.nodes.now [])

pub loop-offer-preserved : goal.loop-offer-preserved
loop-offer-preserved c = λ name.
    elim c.if-is_strong.branch as (λ _. Lists c.args.nodes.now (passing (λ (o : Offer). bytes_eq o.to name && is_strong o.give.dependency) (λ (o : Offer). o.give.from) (take (c.loop-offer.offer-index + 1) c.args.offers.now)) (numbers_at c.if-is_strong.numbers name)) [
      | then-is_strong+in_ok-add_offer w ↦
          (let strong : is_strong c.offer-item.result.give.dependency ≡ true = cc in
          let new : numbers_at c.if-is_strong.numbers name ≡ numbers_at w.add_offer.new.numbers name = ap (λ m. numbers_at m name) w.numbers-is in
          subst (λ l. Lists c.args.nodes.now (passing (λ (o : Offer). bytes_eq o.to name && is_strong o.give.dependency) (λ (o : Offer). o.give.from) (take (c.loop-offer.offer-index + 1) c.args.offers.now)) l) (sym new)
          (offered_strong c.args.nodes.now c.args.offers.now c.loop-offer.offer-index c.offer-item.result name (numbers_at c.loop-offer.numbers name) (numbers_at w.add_offer.new.numbers name)
          c.loop-offer-test.true c.offer-item.is strong (c.loop-offer.invariant name)
          (λ same. subst (λ t. ListsMore c.args.nodes.now (c.offer-item.result.give.from ∷ []) (numbers_at c.loop-offer.numbers t) (numbers_at w.add_offer.new.numbers t)) ((bytes_decides c.offer-item.result.to name).0 same) w.in_ok-add_offer.ensures.here)
          (λ apart. w.in_ok-add_offer.ensures.others name apart)))
      | else-is_strong w ↦
          (let weak : is_strong c.offer-item.result.give.dependency ≡ false = cc in
          let new : numbers_at c.if-is_strong.numbers name ≡ numbers_at c.loop-offer.numbers name = ap (λ m. numbers_at m name) w.numbers-is in
          subst (λ l. Lists c.args.nodes.now (passing (λ (o : Offer). bytes_eq o.to name && is_strong o.give.dependency) (λ (o : Offer). o.give.from) (take (c.loop-offer.offer-index + 1) c.args.offers.now)) l) (sym new)
          (offered_weak c.args.nodes.now c.args.offers.now c.loop-offer.offer-index c.offer-item.result name (numbers_at c.loop-offer.numbers name) c.loop-offer-test.true c.offer-item.is weak (c.loop-offer.invariant name)))
    ]

pub returns : goal.returns
returns c = λ name.
    offered_all c.args.nodes.now c.args.offers.now c.loop-offer.offer-index name (numbers_at c.loop-offer.numbers name) c.loop-offer-test.false (c.loop-offer.invariant name)
