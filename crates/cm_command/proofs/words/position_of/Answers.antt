use Rattle.cm_command.proofs.lemmas.bytes.Found.{found_place, found_none, found_bound}
use Rattle.cm_command.proofs.words.position_of.Goals as goal

pub returns-clause-place : goal.returns-clause-place
returns-clause-place c = found_place c.args.separator c.args.bytes.now c.memchr.result c.memchr.ensures

pub returns-clause-none : goal.returns-clause-none
returns-clause-none c = found_none c.args.separator c.args.bytes.now c.memchr.result c.memchr.ensures

pub returns-clause-bound : goal.returns-clause-bound
returns-clause-bound c = found_bound c.args.separator c.args.bytes.now c.memchr.result c.memchr.ensures
