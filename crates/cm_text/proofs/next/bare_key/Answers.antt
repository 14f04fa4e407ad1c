use Rattle.std.proofs.Common.{◌≡◌, true, false, refl, sym, ◌∙◌, rules}
use Rattle.cm_text.proofs.lemmas.found.Next.{key_run, key_cut, key_passed}
use Rattle.cm_text.proofs.next.bare_key.Goals as goal

pub range-requires-clause-end_boundary : goal.range-requires-clause-end_boundary
range-requires-clause-end_boundary c =
    let first : c.first_begins_key.result ≡ true = search rules in
    let ends : c.begins_word.result ≡ false = search rules in
    key_cut c.args.text.now _ c.utf8.text
    (key_run _ c.args.text.now _ _ c.as_bytes-bytes.ensures.value (sym c.first_begins_key.ensures ∙ first)
    c.key_len-len.ensures refl (sym c.begins_word.ensures ∙ ends))

pub range_from-requires : goal.range_from-requires
range_from-requires c =
    let first : c.first_begins_key.result ≡ true = search rules in
    let ends : c.begins_word.result ≡ false = search rules in
    λ _. key_cut c.args.text.now _ c.utf8.text
    (key_run _ c.args.text.now _ _ c.as_bytes-bytes.ensures.value (sym c.first_begins_key.ensures ∙ first)
    c.key_len-len.ensures refl (sym c.begins_word.ensures ∙ ends))

pub returns-clause-key : goal.returns-clause-key
returns-clause-key c =
    let first : c.first_begins_key.result ≡ true = search rules in
    let ends : c.begins_word.result ≡ false = search rules in
    key_passed c.args.text.now c.range.result.now c.range_from.result.now c.key_len-len.result
    (key_run _ c.args.text.now _ _ c.as_bytes-bytes.ensures.value (sym c.first_begins_key.ensures ∙ first)
    c.key_len-len.ensures refl (sym c.begins_word.ensures ∙ ends))
    c.range.ensures.value c.range_from.ensures.value
