use Rattle.std.proofs.Common.{rules, ◌≡◌, ◌++◌, [], ◌∷◌, sym, ap, ◌∙◌, false, true, ◌&&◌}
use Rattle.std.proofs.Math.Bool.{and-true, and-false}
use Rattle.std.proofs.lemmas.Bool.{not-true, not-false}
use Rattle.std.specs.Cmp.Lexicographic.{pointwise}
use Rattle.cm_names.specs.Chains.{names_of}
use Rattle.cm_names.specs.ChainsInside.{is_same}
use Rattle.cm_names.proofs.lemmas.Ends.{pointwise-below, shorter}
use Rattle.cm_names.proofs.link.same.Goals as goal

pub returns-then-ne : goal.returns-then-ne
returns-then-ne c =
    let u = c.as_ref-one.result.now in
    let v = c.as_ref-two.result.now in
    let one : names_of c.loop-at.at.now ≡ names_of u.above ++ u.name ∷ [] = search rules in
    let two : names_of c.loop-at.beside.now ≡ names_of v.above ++ v.name ∷ [] = search rules in
    let long = shorter (names_of u.above) u.name (names_of v.above) v.name one two c.loop-at.invariant.long in
    let differ : is_same u.name v.name ≡ false = not-true (is_same u.name v.name) (sym c.if-ne.ensures) in
    sym (c.loop-at.invariant.same ∙ pointwise-below (names_of u.above) u.name (names_of v.above) v.name is_same one two long
    ∙ ap (λ b. pointwise is_same (names_of u.above) (names_of v.above) && b) differ ∙ and-false _)

pub loop-at-preserved : goal.loop-at-preserved
loop-at-preserved c =
    let u = c.as_ref-one.result.now in
    let v = c.as_ref-two.result.now in
    let one : names_of c.loop-at.at.now ≡ names_of u.above ++ u.name ∷ [] = search rules in
    let two : names_of c.loop-at.beside.now ≡ names_of v.above ++ v.name ∷ [] = search rules in
    let long = shorter (names_of u.above) u.name (names_of v.above) v.name one two c.loop-at.invariant.long in
    let equal : is_same u.name v.name ≡ true = not-false (is_same u.name v.name) (sym c.if-ne.ensures) in
    record {
      deep = search rules;
      other = search rules;
      long = long;
      same = c.loop-at.invariant.same ∙ pointwise-below (names_of u.above) u.name (names_of v.above) v.name is_same one two long
          ∙ ap (λ b. pointwise is_same (names_of u.above) (names_of v.above) && b) equal ∙ and-true _;
    }
