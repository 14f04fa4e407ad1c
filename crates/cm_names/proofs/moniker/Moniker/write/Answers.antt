use Rattle.std.proofs.Common.{◌≡◌, ◌<◌, ◌++◌, [], ◌∷◌, length, map, get_or, true≢false, sym, ap, subst, ◌∙◌, inl, arith, rules}
use Rattle.std.proofs.lemmas.List.{get_or-map, length-map}
use Rattle.std.proofs.lemmas.List.Elements.{All-more}
use Rattle.cm_names.specs.Child.{child_text}
use Rattle.cm_names.specs.Moniker.{IsChildName}
use Rattle.cm_names.proofs.lemmas.sets.Join.{joined_more}
use Rattle.cm_names.proofs.lemmas.texts.MonikerParts.{written_whole, names_whole}
use Rattle.cm_names.proofs.moniker.Moniker.write.Goals as goal
use Rattle.cm_names.proofs.moniker.Moniker.write.Goals.{then-i-gt0+in_ok-push_str, else-i-gt0}

pub loop-i-preserved : goal.loop-i-preserved
loop-i-preserved c =
    let xs = c.deref-part-items.result.now in
    let names = c.args.self.now.parts in
    let part = c.part-item.result.now in
    let same : map (λ x. x.now) xs ≡ names = ap (map (λ x. x.now)) c.deref-part-items.ensures.value ∙ c.in_ok-parts.ensures in
    let within : c.loop-i.i < length xs = omega arith in
    let inside : c.loop-i.i < length names = omega (arith, ap length same, length-map xs (λ x. x.now)) in
    let at : part ≡ get_or names c.loop-i.i part = ap (λ x. x.now) c.part-item.is ∙ sym (get_or-map (λ x. x.now) xs c.loop-i.i c.part-item.result part within) ∙ ap (λ ys. get_or ys c.loop-i.i part) same in
    let text_at : child_text part ≡ get_or (map child_text names) c.loop-i.i [] = ap child_text at ∙ sym (get_or-map child_text names c.loop-i.i part [] inside) in
    let slash : 0 < c.loop-i.i → c.if-i-gt0.text ≡ c.loop-i.text ++ 47 ∷ [] = elim c.if-i-gt0.branch [ then-i-gt0+in_ok-push_str w ↦ λ _. search rules | else-i-gt0 w ↦ λ later. absurd (omega arith) ] in
    let none : c.loop-i.i ≡ 0 → c.if-i-gt0.text ≡ c.loop-i.text = elim c.if-i-gt0.branch [ then-i-gt0+in_ok-push_str w ↦ λ first. absurd (omega arith) | else-i-gt0 w ↦ λ _. search rules ] in
    record {
      text = c.in_ok-push_child.ensures.text ∙ joined_more 47 (map child_text names) c.loop-i.i [] (child_text part) c.loop-i.text c.if-i-gt0.text (omega (arith, length-map names child_text)) text_at c.loop-i.invariant.text slash none;
      names = All-more IsChildName names c.loop-i.i part inside c.loop-i.invariant.names (subst IsChildName at c.in_ok-push_child.ensures.is_child);
    }

pub returns-clause-grammar : goal.returns-clause-grammar
returns-clause-grammar c =
    let xs = c.deref-part-items.result.now in
    let names = c.args.self.now.parts in
    let same : map (λ x. x.now) xs ≡ names = ap (map (λ x. x.now)) c.deref-part-items.ensures.value ∙ c.in_ok-parts.ensures in
    let end : c.loop-i.i ≡ length names = omega (arith, ap length same, length-map xs (λ x. x.now)) in
    record {
      names = names_whole names c.loop-i.i end c.loop-i.invariant.names;
      written = inl (written_whole names c.loop-i.i c.loop-i.text (λ empty. true≢false (sym (c.is_root.ensures.1 empty) ∙ c.if-is_root.false)) end c.loop-i.invariant.text);
    }
