use Rattle.std.proofs.Common.{rules, arith, sym, subst}
use Rattle.std.proofs.lemmas.List.{nil_from_length}
use Rattle.cm_names.specs.Name.{IsName}
use Rattle.cm_command.specs.Counts.{CountsPrefixes}
use Rattle.cm_command.proofs.lemmas.counts.NameCounts.{no_byte, bad_first, good_first, split_first}
use Rattle.cm_command.proofs.tokens.name_prefixes.Goals as goal

pub returns-in-empty : goal.returns-in-empty
returns-in-empty c = subst (λ t. CountsPrefixes IsName t 1) (sym (nil_from_length c.args.word.now (omega arith))) no_byte

pub returns-then-begins : goal.returns-then-begins
returns-then-begins c =
    subst (λ t. CountsPrefixes IsName t c.min.result) (sym (split_first c.args.word.now (omega arith))) (good_first _ _ c.name_bytes-bytes.result c.min.result (search rules) c.name_bytes-bytes.ensures (search rules))

pub returns-else-begins : goal.returns-else-begins
returns-else-begins c = subst (λ t. CountsPrefixes IsName t 1) (sym (split_first c.args.word.now (omega arith))) (bad_first _ _ (search rules))
