use Rattle.std.proofs.Common.{◌≡◌, suc, ◌≤◌, ◌+◌, length, ◌∙◌, sym, ap, arith}
use Rattle.std.specs.Prelude.{slice_get, not, ◌==◌}
use Rattle.std.specs.Option.{option_cmp}
use Rattle.std.specs.Ordering.{nat_cmp, ordering_index}
use Rattle.cm_names.specs.Child.{child_text}
use Rattle.cm_decl.proofs.lemmas.orders.TextOrder.{cmp_decided, cmp_tied, cmp_end}
use Rattle.cm_decl.proofs.node.cmp_texts.Goals as goal

pub returns-then-ne : goal.returns-then-ne
returns-then-ne c =
    let same : c.cmp-order.result ≡ option_cmp nat_cmp (slice_get (child_text c.args.a.now) c.loop-index.index) (slice_get (child_text c.args.b.now) c.loop-index.index) = cc in
    same ∙ sym (cmp_decided (child_text c.args.a.now) (child_text c.args.b.now) c.loop-index.index (ap (λ o. not (ordering_index o == 1)) (sym same) ∙ sym c.ne.ensures ∙ c.if-ne.true)) ∙ sym c.loop-index.invariant

pub loop-index-preserved : goal.loop-index-preserved
loop-index-preserved c =
    let same : c.cmp-order.result ≡ option_cmp nat_cmp (slice_get (child_text c.args.a.now) c.loop-index.index) (slice_get (child_text c.args.b.now) c.loop-index.index) = cc in
    let next : c.loop-index.index + 1 ≡ suc c.loop-index.index = omega arith in
    rw next (c.loop-index.invariant ∙ cmp_tied (child_text c.args.a.now) (child_text c.args.b.now) c.loop-index.index (ap (λ o. not (ordering_index o == 1)) (sym same) ∙ sym c.ne.ensures ∙ c.if-ne.false))

pub returns : goal.returns
returns c =
    let last : c.loop-index.index ≡ c.text_len-len.result = omega arith in
    let past : length (child_text c.args.a.now) ≤ c.loop-index.index = omega arith in
    let same : c.cmp.result ≡ option_cmp nat_cmp (slice_get (child_text c.args.a.now) c.loop-index.index) (slice_get (child_text c.args.b.now) c.loop-index.index) = cc in
    same ∙ sym (cmp_end (child_text c.args.a.now) (child_text c.args.b.now) c.loop-index.index past) ∙ sym c.loop-index.invariant
