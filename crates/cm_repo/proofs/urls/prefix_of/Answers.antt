use Rattle.std.proofs.Common.{◌≡◌, ◌-◌, true, refl, sym, ap, ◌∙◌, take, arith, rules}
use Rattle.cm_repo.proofs.lemmas.Url.{prefix_cut, is_prefix_of}
use Rattle.cm_repo.proofs.urls.prefix_of.Goals as goal

pub range-requires-clause-end_boundary : goal.range-requires-clause-end_boundary
range-requires-clause-end_boundary c =
    let found : c.begins_fragment.result ≡ true = search rules in
    prefix_cut _ c.args.text.now _ c.prefix_len-len.result c.as_bytes-bytes.ensures.value refl
    (sym c.begins_fragment.ensures ∙ found)

pub returns : goal.returns
returns c =
    let found : c.begins_fragment.result ≡ true = search rules in
    let same : c.prefix_len-len.result - 0 ≡ c.prefix_len-len.result = omega arith in
    is_prefix_of _ c.args.text.now _ c.range.result.now c.prefix_len-len.result c.as_bytes-bytes.ensures.value
    c.prefix_len-len.ensures refl (sym c.begins_fragment.ensures ∙ found)
    (c.range.ensures.value ∙ ap (λ k. take k c.args.text.now) same)
