use Rattle.cm_text.proofs.lemmas.found.Char.{passed_char}
use Rattle.cm_text.proofs.writer.write_each_char.Goals as goal

pub loop-c-preserved : goal.loop-c-preserved
loop-c-preserved c =
    let done = passed_char _ _ _ _ _ _ _ c.in-Some.ensures.steps.0 c.else-c-eq92.either c.in_ok-write_char.ensures c.loop-c.invariant.left c.loop-c.invariant.written in
    record { left = done.0; written = done.1 }
