use Rattle.cm_trees.proofs.trees.Tops.{top_lives}
use Rattle.cm_order.proofs.lemmas.searches.Reaching.{reached_top, one_more, unknown}
use Rattle.cm_order.proofs.quick.start.Goals as goal

pub returns-clause-start : goal.returns-clause-start
returns-clause-start g c =
    let row : _ = top_lives (g.V.View.rows c.args.view.now) (g.V.View.next_inc c.args.view.now) c.requires.sound.orderly c.args.top c.args.top c.requires.top in
    reached_top (g.V.View.rows c.args.view.now) (g.V.View.next_inc c.args.view.now) c.requires.sound.orderly c.args.top row.0 row.1

pub returns-clause-way : goal.returns-clause-way
returns-clause-way g c =
    let row : _ = top_lives (g.V.View.rows c.args.view.now) (g.V.View.next_inc c.args.view.now) c.requires.sound.orderly c.args.top c.args.top c.requires.top in
    one_more (g.V.View.rows c.args.view.now) c.args.top c.go_back.new.way.items c.push.new.self.items c.new.result c.in_ok-push.ensures.items c.go_back.ensures.way
    (unknown (g.V.View.rows c.args.view.now) c.args.top c.args.top c.new.result c.new.ensures
    (reached_top (g.V.View.rows c.args.view.now) (g.V.View.next_inc c.args.view.now) c.requires.sound.orderly c.args.top row.0 row.1))
