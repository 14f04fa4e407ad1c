use Rattle.std.proofs.Common.{rules, ◌≡◌, ◌≤◌, ◌<◌, ◌-◌, ◌++◌, [], ◌∷◌, length, take, sym, ap, subst, ◌∙◌, false, true, ◌&&◌, arith, length-append}
use Rattle.std.proofs.Math.Bool.{and-true, and-false}
use Rattle.std.proofs.lemmas.Bool.{not-true, not-false}
use Rattle.std.proofs.lemmas.List.{length-take-le}
use Rattle.std.specs.Cmp.Lexicographic.{pointwise}
use Rattle.cm_names.specs.Chains.{names_of}
use Rattle.cm_names.specs.ChainsInside.{is_same}
use Rattle.cm_names.proofs.lemmas.Ends.{pointwise-below, one-more}
use Rattle.cm_names.proofs.link.agree.Goals as goal

pub returns-then-ne : goal.returns-then-ne
returns-then-ne c =
    let v = c.as_ref-step.result.now in
    let xs = c.args.names.now in
    let y = c.index-names-left.result in
    let two : names_of c.loop-at.at.now ≡ names_of v.above ++ v.name ∷ [] = search rules in
    let some : 0 < c.loop-at.left = omega (arith, c.loop-at.invariant.long, ap length two, length-append (names_of v.above) (v.name ∷ [])) in
    let one : take c.loop-at.left xs ≡ take (c.loop-at.left - 1) xs ++ y ∷ [] = one-more xs c.loop-at.left y some c.loop-at.invariant.within c.index-names-left.is in
    let above : c.loop-at.left - 1 ≡ length (names_of v.above) = omega (arith, c.loop-at.invariant.long, ap length two, length-append (names_of v.above) (v.name ∷ [])) in
    let within : c.loop-at.left - 1 ≤ length xs = omega (arith, c.loop-at.invariant.within) in
    let long : length (take (c.loop-at.left - 1) xs) ≡ length (names_of v.above) = length-take-le (c.loop-at.left - 1) xs within ∙ above in
    let differ : is_same y v.name ≡ false = subst (λ n. is_same y n ≡ false) c.get.ensures (not-true (is_same y c.get.result.now) (sym c.if-ne.ensures)) in
    sym (c.loop-at.invariant.same ∙ pointwise-below (take (c.loop-at.left - 1) xs) y (names_of v.above) v.name is_same one two long
    ∙ ap (λ b. pointwise is_same (take (c.loop-at.left - 1) xs) (names_of v.above) && b) differ ∙ and-false _)

pub loop-at-preserved : goal.loop-at-preserved
loop-at-preserved c =
    let v = c.as_ref-step.result.now in
    let xs = c.args.names.now in
    let y = c.index-names-left.result in
    let two : names_of c.loop-at.at.now ≡ names_of v.above ++ v.name ∷ [] = search rules in
    let some : 0 < c.loop-at.left = omega (arith, c.loop-at.invariant.long, ap length two, length-append (names_of v.above) (v.name ∷ [])) in
    let one : take c.loop-at.left xs ≡ take (c.loop-at.left - 1) xs ++ y ∷ [] = one-more xs c.loop-at.left y some c.loop-at.invariant.within c.index-names-left.is in
    let above : c.loop-at.left - 1 ≡ length (names_of v.above) = omega (arith, c.loop-at.invariant.long, ap length two, length-append (names_of v.above) (v.name ∷ [])) in
    let within : c.loop-at.left - 1 ≤ length xs = omega (arith, c.loop-at.invariant.within) in
    let long : length (take (c.loop-at.left - 1) xs) ≡ length (names_of v.above) = length-take-le (c.loop-at.left - 1) xs within ∙ above in
    let equal : is_same y v.name ≡ true = subst (λ n. is_same y n ≡ true) c.get.ensures (not-false (is_same y c.get.result.now) (sym c.if-ne.ensures)) in
    record {
      deep = search rules;
      long = above;
      within = within;
      same = c.loop-at.invariant.same ∙ pointwise-below (take (c.loop-at.left - 1) xs) y (names_of v.above) v.name is_same one two long
          ∙ ap (λ b. pointwise is_same (take (c.loop-at.left - 1) xs) (names_of v.above) && b) equal ∙ and-true _;
    }
