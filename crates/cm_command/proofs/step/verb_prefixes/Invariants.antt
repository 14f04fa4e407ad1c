use Rattle.cm_command.specs.Counts.{CountsPrefixes}
use Rattle.cm_command.proofs.lemmas.line.Step.{IsFirstVerb}
use Rattle.cm_command.proofs.step.verb_prefixes.Given as goal

-- the prefixes that the verbs so far begin with
abbrev pub invariant-loop-verb : goal.invariant-loop-verb
invariant-loop-verb l = CountsPrefixes (IsFirstVerb l.verb-index) l.word l.prefixes
