use Rattle.std.proofs.Common.{◌≡◌, ◌-◌, true, refl, sym, ap, ◌∙◌, take, arith, rules}
use Rattle.std.proofs.lemmas.Str.{IsCharBoundary-after_ascii}
use Rattle.cm_plain.proofs.lemmas.Plain.{closes_at, string_split, inside_before}
use Rattle.cm_plain.proofs.plain.split_string.Goals as goal

pub range_from-requires : goal.range_from-requires
range_from-requires c =
    let found : c.is_next.result ≡ true = search rules in
    let there =
    closes_at c.args.quote _ c.args.text.now _ _ c.as_bytes-bytes.ensures.value refl (sym c.is_next.ensures ∙ found) in
    let quote = there.1 in
    let small = c.requires in
    λ _. IsCharBoundary-after_ascii c.args.text.now c.inside_len-len.result c.utf8.text there.0 (omega arith)

pub returns-clause-parts : goal.returns-clause-parts
returns-clause-parts c =
    let found : c.is_next.result ≡ true = search rules in
    let there =
    closes_at c.args.quote _ c.args.text.now _ _ c.as_bytes-bytes.ensures.value refl (sym c.is_next.ensures ∙ found) in
    let same : c.inside_len-len.result - 0 ≡ c.inside_len-len.result = omega arith in
    string_split c.args.quote c.args.text.now c.range.result.now c.range_from.result.now c.inside_len-len.result there.2
    (c.range.ensures.value ∙ ap (λ k. take k c.args.text.now) same) c.range_from.ensures.value

pub returns-clause-plain : goal.returns-clause-plain
returns-clause-plain c =
    let same : c.inside_len-len.result - 0 ≡ c.inside_len-len.result = omega arith in
    inside_before c.args.quote _ c.args.text.now c.range.result.now c.inside_len-len.result
    c.as_bytes-bytes.ensures.value c.inside_len-len.ensures
    (c.range.ensures.value ∙ ap (λ k. take k c.args.text.now) same)
