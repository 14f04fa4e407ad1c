use Rattle.std.proofs.Common.{◌≡◌, ℕ, ◌+◌, List, [], ◌∷◌, ◌++◌, sym, ◌∙◌, ap, subst, inl, inr, arith}
use Rattle.std.proofs.lemmas.Bool.{cases_lt}
use Rattle.std.proofs.lemmas.List.{get_or_append_left, length-append}
use Rattle.std.proofs.Math.Seq.{get_or-append_seam}
use Rattle.cm_deps.specs.Edges.{row, IsReach}
use Rattle.cm_deps.specs.Closure.{IsClosure}

-- With the list of one node more at the end, the lists are the closure up to it.
pub closure_more : (after : List (List ℕ)) (count : ℕ) (all : List (List ℕ)) (new : List ℕ) → IsClosure after count all → IsReach after count new → IsClosure after (count + 1) (all ++ new ∷ [])
closure_more after count all new state is = record {
  size = omega (arith, length-append all (new ∷ []), state.size);
  reach = λ x low. elim (cases_lt x count) as (λ _. IsReach after x (row (all ++ new ∷ []) x)) [
    | inl before ↦ subst (λ l. IsReach after x l) (sym (get_or_append_left all (new ∷ []) [] x (omega (arith, state.size)))) (state.reach x before)
    | inr from ↦ (let here : count ≡ x = omega arith in
        let there : row (all ++ new ∷ []) x ≡ new = ap (λ k. row (all ++ new ∷ []) k) (sym (state.size ∙ here)) ∙ get_or-append_seam all new [] [] in
        subst (λ l. IsReach after x l) (sym there) (subst (λ k. IsReach after k new) here is))
  ];
}
