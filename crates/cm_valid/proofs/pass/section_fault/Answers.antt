use Rattle.std.proofs.Common.{◌≡◌, arith, sym, ◌∙◌}
use Rattle.cm_valid.specs.Parts.{rows_of}
use Rattle.cm_valid.proofs.lemmas.Pass.{none_yet, none_more, none_in, some_in}
use Rattle.cm_valid.proofs.pass.section_fault.Goals as goal

pub loop-row-init : goal.loop-row-init
loop-row-init c = none_yet c.args.index.now c.args.section

pub loop-row-preserved : goal.loop-row-preserved
loop-row-preserved c =
    none_more c.args.index.now c.args.section c.loop-row.row c.row_fault-found.result c.loop-row.invariant c.row_fault-found.ensures
    (sym c.is_some.ensures ∙ c.if-is_some.false)

pub returns-then-is_some : goal.returns-then-is_some
returns-then-is_some c =
    some_in c.args.index.now c.args.section c.loop-row.row c.row_fault-found.result c.loop-row.invariant c.row_fault-found.ensures
    (sym c.is_some.ensures ∙ c.if-is_some.true)

pub returns : goal.returns
returns c =
    let rows : c.rows_of-row-end.result ≡ rows_of c.args.index.now c.args.section = cc in
    none_in c.args.index.now c.args.section c.loop-row.row (omega arith) c.loop-row.invariant
