use Rattle.std.proofs.Common.{rules}
use Rattle.cm_names.proofs.lemmas.Ends.{last-push}
use Rattle.cm_names.proofs.link.NameLink.last.Goals as goal

pub returns-in-Below : goal.returns-in-Below
returns-in-Below c = search (last-push, rules)
