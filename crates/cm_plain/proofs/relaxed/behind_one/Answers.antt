use Rattle.std.proofs.Common.{◌≡◌, true, sym, ap, ◌∙◌, rules}
use Rattle.cm_text.specs.Bytes.{is_space, begins_with}
use Rattle.cm_plain.proofs.lemmas.Plain.{space_cut}
use Rattle.cm_plain.proofs.relaxed.behind_one.Goals as goal

pub range_from-requires : goal.range_from-requires
range_from-requires c =
    let there : c.begins_space.result ≡ true = search rules in
    let h : begins_with is_space c.args.text.now ≡ true =
    ap (begins_with is_space) (sym c.as_bytes.ensures.value) ∙ sym c.begins_space.ensures ∙ there in
    λ _. space_cut c.args.text.now c.utf8.text h
