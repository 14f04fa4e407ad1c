use Rattle.std.proofs.Common.{None, arith}
use Rattle.std.proofs.lemmas.Str.Pattern.{strip_prefix_char}
use Rattle.cm_names.proofs.lemmas.texts.MonikerParts.{unslashed}
use Rattle.cm_names.proofs.moniker.behind_slash.Goals as goal

pub returns-in-None : goal.returns-in-None
returns-in-None c =
    unslashed c.args.text.now (strip_prefix_char 47 c.args.text.now None c.in-None.ensures.cases (omega arith))
