use Rattle.std.proofs.Common.{◌≡◌, take, map}
use Rattle.std.specs.List.{Contains}
use Rattle.cm_command.specs.WordsInside.{right_words}
use Rattle.cm_command.proofs.rights.right_word.Given as goal

-- the piece is none of the words so far
abbrev pub invariant-loop-word : goal.invariant-loop-word
invariant-loop-word l = record {
  listed : map (λ x. x.now) l.word-items ≡ right_words;
  none : Contains (take l.word-index (map (λ x. x.now) l.word-items)) l.piece → ⊥;
}
