use Rattle.std.proofs.Common.{find, ◌∙◌, ap}
use Rattle.std.specs.Option.{option_copied}
use Rattle.std.specs.Str.{bytes_eq}
use Rattle.cm_env.proofs.lookup.Firsts.get.Goals as goal

pub returns-in-None : goal.returns-in-None
returns-in-None g c =
    ap option_copied c.in-None.ensures.value
    ∙ c.self.invariant c.args.text.now
    ∙ ap (find (λ row. bytes_eq (g.T.TextKeyed.key row) c.args.text.now)) c.self.view_is

pub returns-in-Some : goal.returns-in-Some
returns-in-Some g c =
    ap option_copied c.in-Some.ensures.value
    ∙ c.self.invariant c.args.text.now
    ∙ ap (find (λ row. bytes_eq (g.T.TextKeyed.key row) c.args.text.now)) c.self.view_is
