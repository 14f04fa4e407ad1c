use Rattle.std.proofs.Common.{sym, true≢false, ◌∙◌}
use Rattle.std.proofs.lemmas.Slice.Eq.{bytes_eq-Decides}
use Rattle.cm_audit.proofs.lemmas.Builtins.{fault_unsaid, legible_by, unsaid, unwritten}
use Rattle.cm_audit.proofs.head.read_builtin_line.Goals as goal

pub returns-then-eq : goal.returns-then-eq
returns-then-eq c = (
  legible_by _ _ c.in-Ok.ensures.ok,
  (bytes_eq-Decides c.args.line.now c.as_bytes.result.now).0 (sym c.eq.ensures ∙ c.if-eq.true)
      ∙ c.as_bytes.ensures.value ∙ c.as_str.ensures ∙ c.in_ok-text-in-Ok.ensures,
)

pub returns-else-eq : goal.returns-else-eq
returns-else-eq c =
    unwritten c.args.line.now c.args.words.now c.in-Ok.builtin c.requires.words c.in-Ok.ensures.ok
    (λ same. true≢false
    (sym ((bytes_eq-Decides c.args.line.now c.as_bytes.result.now).1 (same ∙ sym (c.as_bytes.ensures.value ∙ c.as_str.ensures ∙ c.in_ok-text-in-Ok.ensures)))
    ∙ sym c.eq.ensures ∙ c.if-eq.false))

pub returns-in-Err-BadCommand : goal.returns-in-Err-BadCommand
returns-in-Err-BadCommand c =
    unsaid c.args.line.now c.args.words.now c.requires.words
    (λ b said. fault_unsaid c.args.words.now c.in-Err-BadCommand.field-0 c.in-Err-BadCommand.field-0-0 c.in-Err-BadCommand.field-0-is c.in-Err-BadCommand.ensures.fault b said)
