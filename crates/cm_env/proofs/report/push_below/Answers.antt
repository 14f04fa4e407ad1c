use Rattle.std.proofs.Common.{◌++◌, reverse, append-nil, sym, ◌∙◌, ap}
use Rattle.cm_env.specs.Reach.{incs}
use Rattle.cm_env.proofs.lemmas.Telling.{no_children, all_more}
use Rattle.cm_env.proofs.report.push_below.Goals as goal

pub returns-in_default-clause-below : goal.returns-in_default-clause-below
returns-in_default-clause-below g c =
    let before = incs c.args.ahead.now.items in
    sym (append-nil before)
    ∙ ap (λ l. before ++ reverse l) (sym (no_children (g.V.View.rows c.args.view.now) (g.V.View.next_inc c.args.view.now) c.args.stand.inc c.requires.orderly c.in_default.ensures.decl))

pub returns-clause-kept : goal.returns-clause-kept
returns-clause-kept g c =
    all_more (g.V.View.rows c.args.view.now) c.args.kept.now.items c.push.new.self.items c.args.stand c.in_ok-push.ensures.items c.requires.kept c.requires.reaches
