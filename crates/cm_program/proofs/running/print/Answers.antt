use Rattle.std.proofs.Common.{◌∙◌, subst}
use Rattle.cm_io.specs.OutsideInside.{PutsAll}
use Rattle.cm_program.proofs.lemmas.whole.Printing.{printed_wanting, printed_done}
use Rattle.cm_program.proofs.running.print.Goals as goal

pub returns-then-is_out_of_memory-clause-printed : goal.returns-then-is_out_of_memory-clause-printed
returns-then-is_out_of_memory-clause-printed g c =
    let old = g.K.Sink.written c.args.out.now in
    let new = g.K.Sink.written c.put_all-put.new.sink in
    let same = c.as_bytes.ensures.value ∙ c.as_str.ensures ∙ c.in-Ok.ensures in
    printed_wanting _ c.args.said.now old new c.put_all-put.result
    (subst (λ t. PutsAll old new t c.put_all-put.result) same c.put_all-put.ensures.bytes)

pub returns-in-Done-clause-printed : goal.returns-in-Done-clause-printed
returns-in-Done-clause-printed g c =
    let old = g.K.Sink.written c.args.out.now in
    let new = g.K.Sink.written c.put_all-put.new.sink in
    let same = c.as_bytes.ensures.value ∙ c.as_str.ensures ∙ c.in-Ok.ensures in
    printed_done _ c.args.said.now old new c.put_all-put.result c.in-Done.is (c.is_out_of_memory.ensures.told c.if-is_out_of_memory.false)
    (subst (λ t. PutsAll old new t c.put_all-put.result) same c.put_all-put.ensures.bytes)
