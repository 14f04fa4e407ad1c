use Rattle.std.proofs.Common.{◌∙◌, ap}
use Rattle.std.specs.Option.{option_copied}
use Rattle.cm_storage.proofs.firsts.found_in.Goals as goal

pub returns-in-Some : goal.returns-in-Some
returns-in-Some c = ap option_copied c.in-Some.ensures.value ∙ c.requires (c.args.name, c.args.to)

pub returns-in-None : goal.returns-in-None
returns-in-None c = ap option_copied c.in-None.ensures.value ∙ c.requires (c.args.name, c.args.to)
