use Rattle.cm_command.proofs.lemmas.line.Step.{IsFirstVerb}
use Rattle.cm_command.proofs.step.verb_of.Given as goal

-- none of the verbs so far
abbrev pub invariant-loop-verb : goal.invariant-loop-verb
invariant-loop-verb l = IsFirstVerb l.verb-index l.word → ⊥
