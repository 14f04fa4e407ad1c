use Rattle.std.proofs.Common.{sym, true≢false}
use Rattle.cm_command.proofs.lemmas.counts.ChildCounts.{no_origin}
use Rattle.cm_command.proofs.tokens.read_named_origin.Goals as goal

pub returns : goal.returns
returns c =
    (no_origin c.args.word.now (λ e. true≢false (sym (c.if-is_same.ensures.1 e))) (λ e. true≢false (sym (c.if-is_same-2.ensures.1 e))) (λ e. true≢false (sym (c.if-is_same-3.ensures.1 e))) (λ e. true≢false (sym (c.if-is_same-4.ensures.1 e))), c.literal_prefixes.ensures)
