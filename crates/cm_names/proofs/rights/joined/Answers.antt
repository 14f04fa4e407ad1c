use Rattle.std.proofs.Common.{rules, ◌≡◌, ◌∙◌, ◌<◌, ◌++◌, [], ◌∷◌, arith}
use Rattle.cm_names.proofs.lemmas.sets.Join.{joined_more}
use Rattle.cm_names.proofs.rights.joined.Goals as goal
use Rattle.cm_names.proofs.rights.joined.Goals.{then-i-gt0+in_ok-push_str, else-i-gt0}

pub loop-i-preserved : goal.loop-i-preserved
loop-i-preserved c =
    let comma : 0 < c.loop-i.i → c.if-i-gt0.text ≡ c.loop-i.text ++ 44 ∷ [] = elim c.if-i-gt0.branch [ then-i-gt0+in_ok-push_str w ↦ λ _. search rules | else-i-gt0 w ↦ λ lt. absurd (omega arith) ] in
    let none : c.loop-i.i ≡ 0 → c.if-i-gt0.text ≡ c.loop-i.text = elim c.if-i-gt0.branch [ then-i-gt0+in_ok-push_str w ↦ λ lt. absurd (omega arith) | else-i-gt0 w ↦ λ _. search rules ] in
    c.in_ok-push_str-2.ensures.ok ∙ joined_more 44 c.args.words.now c.loop-i.i _ c.as_str.result.now c.loop-i.text c.if-i-gt0.text (omega arith) (c.as_str.ensures ∙ c.index-words-i.is) c.loop-i.invariant comma none
