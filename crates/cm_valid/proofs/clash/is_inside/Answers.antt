use Rattle.std.proofs.lemmas.Bool.Decides.{same_from_decides}
use Rattle.cm_decl.specs.Rules as rule
use Rattle.cm_valid.proofs.lemmas.Clash.{inside_decides}
use Rattle.cm_valid.proofs.clash.is_inside.Goals as goal

pub returns : goal.returns
returns c =
    same_from_decides c.is_inside.result (rule.is_inside c.args.path.now c.args.outer.now) c.is_inside.ensures
    (inside_decides c.args.path.now c.args.outer.now)
