use Rattle.std.proofs.Common.{sym, ap, ◌∙◌}
use Rattle.std.specs.Prelude.{option_and_then}
use Rattle.std.specs.BTreeMap.{get}
use Rattle.std.proofs.lemmas.Result.{on_ok_weaker, on_err_weaker}
use Rattle.cm_table.specs.Names.{child_cmp}
use Rattle.cm_table.specs.ByName.{word_of, above_of, first_named, led_by}
use Rattle.cm_table.proofs.lemmas.indexes.Words.{put_as_first, put_as_other}
use Rattle.cm_table.proofs.by_name.ChildrenByName.put.Goals as goal

pub returns-then-taken-clause-ok : goal.returns-then-taken-clause-ok
returns-then-taken-clause-ok c =
    on_ok_weaker c.put_other.result
    (put_as_other c.args.self.now.first c.args.self.now.others c.put_other.new.others c.word_of-word.result c.args.name c.args.above c.word_of-word.ensures (sym c.is_taken-taken.ensures ∙ c.if-taken.true))
    c.put_other.ensures.ok

pub returns-then-taken-clause-err : goal.returns-then-taken-clause-err
returns-then-taken-clause-err c =
    on_err_weaker c.put_other.result (λ same q. ap (led_by (first_named c.args.self.now.first q)) (same q)) c.put_other.ensures.err

pub returns-clause-ok : goal.returns-clause-ok
returns-clause-ok c =
    on_ok_weaker c.put_first.result
    (put_as_first c.args.self.now.first c.put_first.new.first c.args.self.now.others c.word_of-word.result c.args.name c.args.above c.word_of-word.ensures (sym c.is_taken-taken.ensures ∙ c.if-taken.false))
    c.put_first.ensures.ok

pub returns-clause-err : goal.returns-clause-err
returns-clause-err c =
    on_err_weaker c.put_first.result
    (λ same q. ap (λ o. led_by (option_and_then (λ n. above_of n q) o) (get child_cmp c.args.self.now.others q)) (same (word_of q)))
    c.put_first.ensures.err
