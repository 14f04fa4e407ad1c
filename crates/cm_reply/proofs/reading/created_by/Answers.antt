use Rattle.std.proofs.Common.{◌≡◌, ◌++◌, codes, subst, sym, ap, ap₂, ◌∙◌}
use Rattle.cm_command.specs.declared.command.CommandFault.TheVariants.{BadCommand}
use Rattle.cm_command.specs.Grammar.{CommandText, IsCommandFault}
use Rattle.cm_command.proofs.lemmas.line.LineGrammar.{reads_one_way_lem}
use Rattle.cm_reply.proofs.lemmas.back.Created.{not_memory}
use Rattle.cm_reply.proofs.reading.created_by.Goals as goal

pub returns-in-Ok-clause-finds : goal.returns-in-Ok-clause-finds
returns-in-Ok-clause-finds c = λ other read.
    let whole : c.as_slice.result.now ≡ codes "create @" ++ c.args.rest.now = c.as_slice.ensures ∙ c.in_ok-extend_from_slice-2.ensures.ok ∙ ap (λ t. t ++ c.args.rest.now) (c.in_ok-extend_from_slice.ensures.ok ∙ ap₂ (λ s t. s ++ t) c.new-line.ensures c.as_bytes.ensures.value) in
    reads_one_way_lem c.as_slice.result.now c.in-Ok.command other c.in-Ok.ensures.ok (subst (λ t. CommandText t other) (sym whole) read)

pub returns-in-Err-BadCommand-clause-finds : goal.returns-in-Err-BadCommand-clause-finds
returns-in-Err-BadCommand-clause-finds c = λ other read.
    let whole : c.as_slice.result.now ≡ codes "create @" ++ c.args.rest.now = c.as_slice.ensures ∙ c.in_ok-extend_from_slice-2.ensures.ok ∙ ap (λ t. t ++ c.args.rest.now) (c.in_ok-extend_from_slice.ensures.ok ∙ ap₂ (λ s t. s ++ t) c.new-line.ensures c.as_bytes.ensures.value) in
    let fault : IsCommandFault c.as_slice.result.now (BadCommand c.in-Err-BadCommand._place) = subst (IsCommandFault c.as_slice.result.now) c.in-Err-BadCommand.field-0-is (c.in-Err-BadCommand.ensures.fault (λ e. not_memory c.in-Err-BadCommand.field-0 c.in-Err-BadCommand._place c.in-Err-BadCommand.field-0-is e)) in
    absurd (fault.0 (other, subst (λ t. CommandText t other) (sym whole) read))
