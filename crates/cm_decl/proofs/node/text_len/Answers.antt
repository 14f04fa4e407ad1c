use Rattle.std.proofs.Common.{◌≤◌, length, ap, arith}
use Rattle.cm_decl.proofs.lemmas.orders.TextOrder.{name_short}
use Rattle.cm_decl.proofs.node.text_len.Goals as goal

pub overflow_add-result : goal.overflow_add-result
overflow_add-result c =
    let short : length c.args.child.now.name ≤ 255 = name_short c.args.child.now.name c.as_str.ensures.is_name in
    omega (arith, ap length c.as_str.ensures.text)
