use Rattle.cm_turn.proofs.lemmas.PassSteps.{opens}
use Rattle.cm_turn.proofs.turn.Turn.new.Goals as goal

pub vacant-made-requires : goal.vacant-made-requires
vacant-made-requires g c = opens g.S.Storied.story g.S.Storied.frame g.S.Storied.by (c.in-Ok-new-2.state, c.args.passes) c.requires.passes.0 c.requires.passes.1
