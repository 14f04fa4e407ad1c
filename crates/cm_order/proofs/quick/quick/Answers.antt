use Rattle.std.proofs.Common.{refl, subst}
use Rattle.cm_order.specs.Plans.{IsDescent}
use Rattle.cm_order.proofs.lemmas.searches.Reaching.{way_changed}
use Rattle.cm_order.proofs.quick.quick.Goals as goal

pub returns-in_err-begin-clause-plan : goal.returns-in_err-begin-clause-plan
returns-in_err-begin-clause-plan g c = c.begin.ensures.plan (g.V.View.rows c.args.view.now) c.requires.plan

pub descend-requires-clause-way : goal.descend-requires-clause-way
descend-requires-clause-way g c =
    subst (λ t. IsDescent (g.V.View.rows c.args.view.now) t c.begin.new.self.way.items) c.in_ok-begin.ensures.top (c.begin.ensures.plan (g.V.View.rows c.args.view.now) c.requires.plan).way

pub descend-requires-clause-levels : goal.descend-requires-clause-levels
descend-requires-clause-levels g c = (c.begin.ensures.plan (g.V.View.rows c.args.view.now) c.requires.plan).levels

pub returns-in_err-found-clause-plan : goal.returns-in_err-found-clause-plan
returns-in_err-found-clause-plan g c =
    way_changed (g.V.View.rows c.args.view.now) c.begin.new.self (record { top = c.begin.new.self.top; way = c.descend.new.way; others = c.begin.new.self.others; levels = c.descend.new.levels }) c.args.top (c.begin.ensures.plan (g.V.View.rows c.args.view.now) c.requires.plan) c.in_ok-begin.ensures.top refl refl c.descend.ensures.way c.descend.ensures.levels

pub returns-clause-plan : goal.returns-clause-plan
returns-clause-plan g c =
    way_changed (g.V.View.rows c.args.view.now) c.begin.new.self (record { top = c.begin.new.self.top; way = c.descend.new.way; others = c.begin.new.self.others; levels = c.descend.new.levels }) c.args.top (c.begin.ensures.plan (g.V.View.rows c.args.view.now) c.requires.plan) c.in_ok-begin.ensures.top refl refl c.descend.ensures.way c.descend.ensures.levels
