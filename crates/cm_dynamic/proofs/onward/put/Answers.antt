use Rattle.std.proofs.Common.{sym, ◌∙◌, inl, inr}
use Rattle.std.proofs.lemmas.Bool.{not-false}
use Rattle.cm_dynamic.proofs.lemmas.graphs.Walking.{put_grows, keeps_all}
use Rattle.cm_dynamic.proofs.onward.put.Goals as goal

pub returns-then-not-branch-clause-grows : goal.returns-then-not-branch-clause-grows
returns-then-not-branch-clause-grows c =
    put_grows c.args.inc c.args.seen.now c.args.ahead.now c.insert.new.self c.args.ahead.now c.in_ok-insert.ensures.updates.0 (λ q there. there) (inl (not-false _ (sym (sym c.if-not-branch.true ∙ c.in_ok-insert.ensures.added))))

pub returns-clause-grows : goal.returns-clause-grows
returns-clause-grows c =
    put_grows c.args.inc c.args.seen.now c.args.ahead.now c.insert.new.self c.insert-2.new.self c.in_ok-insert.ensures.updates.0 (keeps_all c.args.inc c.args.ahead.now c.insert-2.new.self c.in_ok-insert-2.ensures.updates.0) (inr c.in_ok-insert-2.ensures.updates.1)
