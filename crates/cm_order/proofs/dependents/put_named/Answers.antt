use Rattle.std.proofs.Common.{[], IsTrue, sym, ◌∙◌, ap, subst}
use Rattle.std.specs.Prelude.{unwrap_or}
use Rattle.cm_decl.specs.Graph.{target_of}
use Rattle.cm_decl.proofs.lemmas.Sameness.{never}
use Rattle.cm_world.proofs.lemmas.trees.Finding.{none_some, some_same}
use Rattle.cm_order.specs.Glances.{is_in_list, is_offered}
use Rattle.cm_order.proofs.dependents.put_named.Goals as goal

pub returns-in_default : goal.returns-in_default
returns-in_default g c = record {
  put = λ n x named there. absurd (none_some n (c.in_default.ensures ∙ named));
  kept = λ x z there. there;
  real = λ p more are. are;
}

pub returns-in_default-get : goal.returns-in_default-get
returns-in_default-get g c = record {
  put = λ n x named there.
      let same = c.target_of.ensures ∙ ap target_of (some_same c.in-Some.name.now n (c.in-Some.ensures ∙ named)) in
      never (subst (λ o. IsTrue (is_in_list (unwrap_or o []) x)) (sym c.in_default-get.ensures.value) (subst (λ t. IsTrue (is_offered c.args.offered.now t x)) (sym same) there));
  kept = λ x z there. there;
  real = λ p more are. are;
}

pub returns : goal.returns
returns g c = record {
  put = λ n x named there.
      let same = c.target_of.ensures ∙ ap target_of (some_same c.in-Some.name.now n (c.in-Some.ensures ∙ named)) in
      let here = subst (λ o. IsTrue (is_in_list (unwrap_or o []) x)) (sym c.in-Some-get.ensures.value) (subst (λ t. IsTrue (is_offered c.args.offered.now t x)) (sym same) there) in
      c.in_ok-put_sources.ensures.all x (subst (λ l. IsTrue (is_in_list l x)) (sym c.as_slice.ensures) here);
  kept = c.in_ok-put_sources.ensures.kept;
  real = λ p more are. c.in_ok-put_sources.ensures.real (g.V.View.rows c.args.view.now) p (λ x there.
      more c.in-Some.name.now x (sym c.in-Some.ensures)
      (subst (λ t. IsTrue (is_offered c.args.offered.now t x)) c.target_of.ensures
      (subst (λ o. IsTrue (is_in_list (unwrap_or o []) x)) c.in-Some-get.ensures.value (subst (λ l. IsTrue (is_in_list l x)) c.as_slice.ensures there)))) are;
}
