use Rattle.std.proofs.Common.{◌≡◌, true, sym, ap, ◌∙◌, rules}
use Rattle.cm_plain.specs.Plain.{begins}
use Rattle.cm_plain.proofs.lemmas.Plain.{byte_cut}
use Rattle.cm_plain.proofs.plain.behind_byte.Goals as goal

pub range_from-requires : goal.range_from-requires
range_from-requires c =
    let there : c.is_next.result ≡ true = search rules in
    let h : begins c.args.byte c.args.text.now ≡ true =
    ap (begins c.args.byte) (sym c.as_bytes.ensures.value) ∙ sym c.is_next.ensures ∙ there in
    λ _. byte_cut c.args.byte c.args.text.now c.requires c.utf8.text h
