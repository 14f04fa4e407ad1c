use Rattle.std.proofs.Common.{refl}
use Rattle.cm_table.proofs.lemmas.tree.Wanting.{wanting_more, wanting_ends}
use Rattle.cm_table.proofs.wanted.want_all.Goals as goal

pub loop-give-init : goal.loop-give-init
loop-give-init c = record { keeps = λ name lacks. lacks; sources = λ name lacks. refl }

pub loop-give-preserved : goal.loop-give-preserved
loop-give-preserved c =
    wanting_more c.args.wanted.now c.loop-give.wanted c.want.new.wanted c.args.gives.now c.loop-give.give-index c.give-item.result c.loop-give-test.true c.give-item.is c.loop-give.invariant c.want.ensures.keeps c.in_ok-want.ensures.source

pub returns-in_err-want-clause-keeps : goal.returns-in_err-want-clause-keeps
returns-in_err-want-clause-keeps c = λ name lacks. c.loop-give.invariant.keeps name (c.want.ensures.keeps name lacks)

pub returns-clause-keeps : goal.returns-clause-keeps
returns-clause-keeps c = c.loop-give.invariant.keeps

pub returns-clause-sources : goal.returns-clause-sources
returns-clause-sources c = wanting_ends c.args.wanted.now c.loop-give.wanted c.args.gives.now c.loop-give.give-index c.loop-give-test.false c.loop-give.invariant
