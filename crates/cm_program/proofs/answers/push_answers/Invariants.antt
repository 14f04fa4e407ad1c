use Rattle.std.proofs.Common.{string_bytes, ◌≡◌, ◌++◌, drop, flat_map}
use Rattle.cm_program.specs.PrintedInside.{texts_of}
use Rattle.cm_program.proofs.answers.push_answers.Given as goal

-- what is still to be put behind the text makes the whole
abbrev pub invariant-loop-phase : goal.invariant-loop-phase
invariant-loop-phase l = string_bytes l.text ++ texts_of (flat_map (λ lines. lines) (drop l.phase-index l.phases)) (drop l.at l.said) ≡ string_bytes l.fn.text ++ texts_of (flat_map (λ lines. lines) l.phases) l.said
