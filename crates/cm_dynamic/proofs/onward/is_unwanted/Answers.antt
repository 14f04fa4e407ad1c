use Rattle.std.proofs.Common.{sym, ◌∙◌, true≢false}
use Rattle.cm_dynamic.proofs.lemmas.graphs.Unwanted.{unwanted_onward}
use Rattle.cm_dynamic.proofs.onward.is_unwanted.Goals as goal

pub returns-then-is_wanted : goal.returns-then-is_wanted
returns-then-is_wanted g c = λ told. absurd (true≢false (sym told))

pub returns : goal.returns
returns g c = λ told.
    unwanted_onward (g.V.View.rows c.args.view.now) c.args.parent c.args.name.now c.args.gives.now (sym c.are_of_others.ensures ∙ told) (c.is_wanted.ensures c.if-is_wanted.false)
