use Rattle.std.proofs.Common.{rules}
use Rattle.cm_audit.proofs.lemmas.Places.{cut_made}
use Rattle.cm_audit.proofs.lines.cut_within.Goals as goal

pub returns : goal.returns
returns c =
    cut_made c.args.size c.args.rest.now c.cut_line.result.0.now c.cut_line.result.1.now c.requires.within c.cut_line.ensures.lines c.cut_line.ensures.end c.cut_line.ensures.shorter (search rules)
