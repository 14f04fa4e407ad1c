use Rattle.std.proofs.Common.{◌≡◌, ℕ, List, ◌∷◌, [], ◌++◌, cond, Some, None, length, sym, ◌∙◌, ap, subst, rules, arith}
use Rattle.cm_cache.specs.AnswersInside.{answer_of, is_of, kept_at}
use Rattle.cm_cache.specs.Places.{placed, place_of}
use Rattle.cm_cache.proofs.lemmas.puts.Putting.{same_use}
use Rattle.cm_cache.proofs.lemmas.puts.Caching.{placed_joined}
use Rattle.cm_cache.proofs.cache.Cache.join.Goals as goal

pub invariant_of-self-2 : goal.invariant_of-self-2
invariant_of-self-2 c =
    let xs = c.self.inside.answers.items in
    let same : c.in_ok-key.key ≡ c.args.path = search rules in
    let none : kept_at xs c.args.inc c.args.path ≡ None = ap (λ ys. kept_at ys c.args.inc c.args.path) c.self.view_is ∙ c.requires in
    let last : c.len-place.result ≡ length xs = omega (arith, c.len-place.ensures, c.reserve.new.self.ok.0, ap length c.reserve.ensures.items) in
    let items : c.push_reserved.new.self.items ≡ xs ++ answer_of c.args.inc c.args.path c.args.walked ∷ [] = c.push_reserved.ensures.items ∙ ap (λ ys. ys ++ answer_of c.args.inc c.args.path c.args.walked ∷ []) c.reserve.ensures.items in
    let puts : (j : ℕ) (q : List ℕ) → placed c.put.new.places j q ≡ cond (same_use c.args.inc c.args.path j q) (Some c.len-place.result) (placed c.self.inside.places j q) =
    subst (λ p. (j : ℕ) (q : List ℕ) → placed c.put.new.places j q ≡ cond (same_use c.args.inc p j q) (Some c.len-place.result) (placed c.self.inside.places j q)) same c.in_ok-put.ensures.ok in
    record {
      each = λ j q. placed_joined c.self.inside.places c.put.new.places xs c.args.inc c.args.path c.args.walked c.len-place.result c.self.invariant.each none last puts j q
          ∙ ap (place_of (is_of j q)) (sym items);
    }
