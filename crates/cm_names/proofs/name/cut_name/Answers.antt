use Rattle.std.proofs.Common.{◌+◌, ◌-◌, ◌++◌, length, take, drop, arith, sym, subst, ap, ◌∙◌}
use Rattle.cm_names.specs.Name.{IsName}
use Rattle.cm_names.proofs.lemmas.texts.NameBytes.{prefix_name, cut_prefix}
use Rattle.cm_names.proofs.name.cut_name.Goals as goal

pub name_text-requires : goal.name_text-requires
name_text-requires c =
    prefix_name c.args.bytes.now c.name_bytes-count.result 0 (omega (arith, c.in-len1-up.len_at_least)) (sym c.if-not-begins.ensures) c.name_bytes-count.ensures c.if-count-gt-MAX_NAME_BYTES.false

pub returns : goal.returns
returns c =
    let text = sym c.name_text.ensures in
    let name = prefix_name c.args.bytes.now c.name_bytes-count.result 0 (omega (arith, c.in-len1-up.len_at_least)) (sym c.if-not-begins.ensures) c.name_bytes-count.ensures c.if-count-gt-MAX_NAME_BYTES.false in
    let cut = cut_prefix c.args.bytes.now c.name_bytes-count.result (omega (arith, c.in-len1-up.len_at_least)) c.name_bytes-count.ensures in
    (subst IsName text name, cut ∙ ap (λ t. t ++ take (length c.args.bytes.now - (c.name_bytes-count.result + 1)) (drop (c.name_bytes-count.result + 1) c.args.bytes.now)) text)
