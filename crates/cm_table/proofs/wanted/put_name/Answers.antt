use Rattle.std.proofs.Common.{true, cond, is_eq, ap, ◌∙◌}
use Rattle.std.specs.Ordering.{nat_cmp}
use Rattle.std.specs.BTreeSet.{contains}
use Rattle.cm_table.proofs.lemmas.tree.Wanting.{put_keeps, put_own, same_keys}
use Rattle.cm_table.proofs.wanted.put_name.Goals as goal

pub returns-in_err-insert-clause-keeps : goal.returns-in_err-insert-clause-keeps
returns-in_err-insert-clause-keeps c = same_keys c.args.wanted.now c.insert.new.self c.in_err-insert.ensures.err

pub returns-clause-keeps : goal.returns-clause-keeps
returns-clause-keeps c = put_keeps c.args.wanted.now c.insert.new.self c.word_of.result c.in_ok-insert.ensures.updates.0

pub returns-clause-own : goal.returns-clause-own
returns-clause-own c =
    put_own c.args.wanted.now c.insert.new.self c.args.name.now
    (λ q. c.in_ok-insert.ensures.updates.0 q ∙ ap (λ w. cond (is_eq (nat_cmp w q)) true (contains nat_cmp c.args.wanted.now q)) c.word_of.ensures)
