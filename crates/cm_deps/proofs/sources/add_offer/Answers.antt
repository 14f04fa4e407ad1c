use Rattle.std.proofs.Common.{◌≡◌, [], ◌∷◌, ◌||◌, Some, false, sym, ◌∙◌, ap, rules}
use Rattle.std.specs.Prelude.{unwrap_or}
use Rattle.std.specs.Ordering.{nat_cmp}
use Rattle.std.specs.Cmp.Lexicographic.{slice_cmp}
use Rattle.std.specs.BTreeMap.{get, is_at}
use Rattle.std.proofs.lemmas.Map.Text.{is_eq-slice_cmp}
use Rattle.cm_deps.specs.Edges.{holds}
use Rattle.cm_deps.specs.Sources.{is_source, numbers_at}
use Rattle.cm_deps.proofs.sources.add_offer.Goals as goal

pub returns-clause-here : goal.returns-clause-here
returns-clause-here c =
    let key : c.in_ok-clone.field-0 ≡ c.args.offer.now.to = search rules in
    let put : get (slice_cmp nat_cmp) c.insert.new.self c.in_ok-clone.field-0 ≡ Some c.add_source.new.numbers = c.in_ok-insert.ensures.updates.1 in
    let new : numbers_at c.insert.new.self c.args.offer.now.to ≡ c.add_source.new.numbers = ap (λ k. numbers_at c.insert.new.self k) (sym key) ∙ ap (λ o. unwrap_or o []) put in
    let old : c.unwrap_or-list.result ≡ numbers_at c.args.numbers.now c.args.offer.now.to = c.unwrap_or-list.ensures ∙ ap (λ l. unwrap_or c.remove.result l) c.new.ensures ∙ ap (λ o. unwrap_or o []) c.remove.ensures.value in
    λ j. ap (λ l. holds l j) new ∙ c.in_ok-add_source.ensures j ∙ ap (λ l. holds l j || is_source c.args.nodes.now (c.args.offer.now.give.from ∷ []) j) old

pub returns-clause-others : goal.returns-clause-others
returns-clause-others c = λ name apart.
    let key : c.in_ok-clone.field-0 ≡ c.args.offer.now.to = search rules in
    let away : is_at (slice_cmp nat_cmp c.args.offer.now.to) name ≡ false = is_eq-slice_cmp c.args.offer.now.to name ∙ apart in
    ap (λ o. unwrap_or o []) (c.in_ok-insert.ensures.updates.2 name (ap (λ k. is_at (slice_cmp nat_cmp k) name) key ∙ away)) ∙ ap (λ o. unwrap_or o []) (c.remove.ensures.updates.2 name away)
