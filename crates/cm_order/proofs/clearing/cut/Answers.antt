use Rattle.std.proofs.Common.{rules, ◌≡◌, [], ◌∷◌, ◌++◌, IsTrue, sym, ◌∙◌, subst, inl, inr, ◌⊎◌, append-nil}
use Rattle.cm_order.specs.Glances.{is_in_list, is_in_set}
use Rattle.cm_order.proofs.lemmas.levels.Lists.{listed_parts, listed_more, listed_last}
use Rattle.cm_order.proofs.clearing.cut.Goals as goal

pub loop-last-init : goal.loop-last-init
loop-last-init c = (
  λ z there. inl (subst (λ l. IsTrue (is_in_list l z)) (sym c.into_vec-left.ensures) there),
  λ z there. subst (λ l. IsTrue (is_in_list l z)) c.into_vec-left.ensures there,
)

pub returns-then-not-contains : goal.returns-then-not-contains
returns-then-not-contains c =
    let same : c.from_vec.result ≡ c.loop-last.left.items = c.from_vec.ensures ∙ c.in_ok-push.ensures.items ∙ sym c.in-Some.ensures.items in
    let ends : c.from_vec.result ≡ c.pop.new.self.items ++ c.in-Some.last ∷ [] = c.from_vec.ensures ∙ c.in_ok-push.ensures.items in
    record {
      last = (subst (λ l. IsTrue (is_in_list l c.in-Some.last)) (sym ends) (listed_last c.pop.new.self.items c.in-Some.last), sym c.contains.ensures ∙ c.if-not-contains.true);
      left = λ z there. subst (λ l. IsTrue (is_in_list l z) ⊎ IsTrue (is_in_set c.args.cleared.now z)) (sym same) (c.loop-last.invariant.0 z there);
      only = λ z there. c.loop-last.invariant.1 z (subst (λ l. IsTrue (is_in_list l z)) same there);
    }

pub loop-last-preserved : goal.loop-last-preserved
loop-last-preserved c = (
  λ z there. elim (c.loop-last.invariant.0 z there) [
    | inl on ↦ (elim (listed_parts c.pop.new.self.items c.in-Some.last z (subst (λ l. IsTrue (is_in_list l z)) c.in-Some.ensures.items on)) [
      | inl before ↦ inl before
      | inr same ↦ inr (subst (λ k. IsTrue (is_in_set c.args.cleared.now k)) (sym same) (sym c.contains.ensures ∙ c.if-not-contains.false))
    ])
    | inr out ↦ inr out
  ],
  λ z there. c.loop-last.invariant.1 z (subst (λ l. IsTrue (is_in_list l z)) (sym c.in-Some.ensures.items) (listed_more c.pop.new.self.items c.in-Some.last z there)),
)

pub returns : goal.returns
returns c =
    let none : c.loop-last.left.items ≡ [] = search rules in
    let same : c.from_vec-2.result ≡ c.loop-last.left.items = c.from_vec-2.ensures ∙ sym (append-nil c.pop.new.self.items) ∙ sym c.in_default.ensures.items in
    record {
      last = same ∙ none;
      left = λ z there. subst (λ l. IsTrue (is_in_list l z) ⊎ IsTrue (is_in_set c.args.cleared.now z)) (sym same) (c.loop-last.invariant.0 z there);
      only = λ z there. c.loop-last.invariant.1 z (subst (λ l. IsTrue (is_in_list l z)) same there);
    }
