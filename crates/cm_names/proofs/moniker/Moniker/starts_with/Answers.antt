use Rattle.std.proofs.Common.{rules, length, drop}
use Rattle.std.proofs.lemmas.Slice.Eq.{starts_is}
use Rattle.cm_names.proofs.moniker.Moniker.starts_with.Goals as goal

pub returns : goal.returns
returns c =
    let mine = c.args.self.now.parts in
    let its = c.args.prefix.now.parts in
    let both = starts_is (λ a b. search rules) mine its c.starts_with.result c.starts_with.ensures in
    (λ yes. (drop (length its) mine, both.0 yes), λ begins. both.1 begins.0 begins.1)
