-- The children that start together with their parent, one by one.
use Rattle.std.proofs.Common.{◌≡◌, ℕ, ◌+◌, ◌<◌, List, [], ◌∷◌, ◌++◌, Bool, true, false, cond, Option, None, length, take, get_or, filter, option_to_list, refl, sym, ◌∙◌, ap}
use Rattle.std.specs.List.{filter_map}
use Rattle.std.proofs.lemmas.List.Elements.{filter_map-append, filter_more}
use Rattle.cm_decl.specs.declared.rows.Child.{Child}
use Rattle.cm_decl.specs.Graph.{static_name}
use Rattle.cm_world.specs.declared.row.Row.{Row}
use Rattle.cm_world.specs.Rows.{child_of}
use Rattle.cm_steps.specs.Eager.{eager_child, eager_kids}
use Rattle.cm_steps.proofs.lemmas.expiries.Gathered.{one_told}

-- What is told of one child under a condition is told where the condition holds.
one_kid : (b : Bool) (h : Child → Option ℕ) (k : Child) → filter_map h (cond b (k ∷ []) []) ≡ option_to_list (cond b (h k) None)
one_kid true h k = one_told (h k) h k refl
one_kid false h k = refl

-- With one child more, the eager children so far are those of the children so far.
pub kids_more : (rows : List Row) (i k : ℕ) (kids : List Child) (kid : Child) (found : Option ℕ) (seen more : List ℕ) → k < length kids → kid ≡ get_or kids k kid → found ≡ eager_child rows i kid → seen ≡ eager_kids rows i (take k kids) → more ≡ seen ++ option_to_list found → more ≡ eager_kids rows i (take (k + 1) kids)
kids_more rows i k kids kid found seen more less at is so_far pushed =
    let h : Child → Option ℕ = λ c. child_of rows i (static_name c.name) in
    let p : Child → Bool = λ c. c.eager in
    pushed
    ∙ ap (λ xs. xs ++ option_to_list found) so_far
    ∙ ap (λ o. eager_kids rows i (take k kids) ++ option_to_list o) (is ∙ ap (λ c. eager_child rows i c) at)
    ∙ sym (ap (λ xs. eager_kids rows i (take k kids) ++ xs) (one_kid (p (get_or kids k kid)) h (get_or kids k kid)))
    ∙ sym (filter_map-append h (filter p (take k kids)) (cond (p (get_or kids k kid)) (get_or kids k kid ∷ []) []))
    ∙ sym (ap (filter_map h) (filter_more p kids k kid less))
