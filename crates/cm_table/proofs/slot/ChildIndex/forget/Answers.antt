use Rattle.std.proofs.Common.{◌∙◌, ap, sym, Some}
use Rattle.cm_table.proofs.lemmas.indexes.Naming.{forgotten}
use Rattle.cm_table.proofs.slot.ChildIndex.forget.Goals as goal

pub returns-then-found-above-clause-names : goal.returns-then-found-above-clause-names
returns-then-found-above-clause-names c =
    forgotten c.args.self.now.names c.remove.new.self c.args.name.now c.args.above c.remove.ensures
    (sym c.get.ensures ∙ c.in-Some.is ∙ ap Some c.if-found-above.true) c.requires
