use Rattle.std.proofs.Common.{sym, ◌∙◌}
use Rattle.cm_cache.proofs.lemmas.puts.Placing.{first_put, number_put}
use Rattle.cm_cache.proofs.places.number.Goals as goal

pub returns-then-is_first-clause-ok : goal.returns-then-is_first-clause-ok
returns-then-is_first-clause-ok c =
    first_put c.args.paths.now.first c.args.paths.now.place c.args.paths.now.others c.args.path c.args.place (sym c.is_first.ensures ∙ c.if-is_first.true)

pub returns-clause-ok : goal.returns-clause-ok
returns-clause-ok c =
    number_put c.args.paths.now.first c.args.paths.now.place c.args.paths.now.others c.insert.new.self c.args.path c.args.place (sym c.is_first.ensures ∙ c.if-is_first.false) c.in_ok-insert.ensures.updates.0
