use Rattle.std.proofs.Common.{inl}
use Rattle.cm_program.proofs.ran.tell.Goals as goal

pub returns-in-Done : goal.returns-in-Done
returns-in-Done g c = inl c.in-Done.ensures.bytes
