-- What the prefix of a file is.
use Rattle.std.proofs.Common.{ap}
use Rattle.cm_gate.proofs.lemmas.Prefixes.{prefix_is_kept}
use Rattle.cm_gate.proofs.opening.read_up_to_limit.Goals as goal

-- what is cut behind the limit was read up to the limit
pub returns-clause-prefix : goal.returns-clause-prefix
returns-clause-prefix g c = prefix_is_kept 1048577 c.take.result.limit (g.T.Read.remaining c.args.file)
    (g.T.Read.remaining c.take.result.inner) c.new-bytes.result.items c.read_to_end.new.buf.items _
    c.take.ensures.limit (ap g.T.Read.remaining c.take.ensures.inner) c.new-bytes.ensures.items
    c.in_ok-read_to_end.ensures.bytes c.truncate.ensures.items
