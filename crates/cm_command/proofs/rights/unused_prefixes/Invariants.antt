use Rattle.std.proofs.Common.{◌≡◌, take, map}
use Rattle.cm_command.specs.Counts.{CountsPrefixes}
use Rattle.cm_command.specs.WordsInside.{right_words}
use Rattle.cm_command.proofs.lemmas.counts.RightCounts.{IsLeft}
use Rattle.cm_command.proofs.rights.unused_prefixes.Given as goal

-- the count of the unused words so far
abbrev pub invariant-loop-word : goal.invariant-loop-word
invariant-loop-word l = record {
  listed : map (λ x. x.now) l.word-items ≡ right_words;
  count : CountsPrefixes (IsLeft l.used (take l.word-index (map (λ x. x.now) l.word-items))) l.piece l.prefixes;
}
