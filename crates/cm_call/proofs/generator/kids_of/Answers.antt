use Rattle.cm_call.proofs.lemmas.texts.Generator.{kids_more}
use Rattle.cm_call.proofs.generator.kids_of.Goals as goal

pub loop-place-preserved : goal.loop-place-preserved
loop-place-preserved c =
    kids_more c.args.size c.args.instance c.loop-place.place c.loop-place.kids c.push_below.new.kids c.loop-place.invariant c.in_ok-push_below.ensures
