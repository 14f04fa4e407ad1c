use Rattle.std.proofs.Common.{sym, ◌∙◌}
use Rattle.cm_table.proofs.lemmas.indexes.Words.{removed_first, removed_other}
use Rattle.cm_table.proofs.by_name.ChildrenByName.remove.Goals as goal

pub returns-then-own : goal.returns-then-own
returns-then-own c =
    removed_first c.args.self.now.first c.remove-then-own.new.self c.args.self.now.others c.remove.new.self c.word_of-word.result c.args.name.now c.word_of-word.ensures
    (sym c.is_own-own.ensures ∙ c.if-own.true) c.remove-then-own.ensures.updates.0 c.remove.ensures.updates.0

pub returns-else-own : goal.returns-else-own
returns-else-own c =
    removed_other c.args.self.now.first c.args.self.now.others c.remove.new.self c.word_of-word.result c.args.name.now c.word_of-word.ensures
    (sym c.is_own-own.ensures ∙ c.if-own.false) c.remove.ensures.updates.0
