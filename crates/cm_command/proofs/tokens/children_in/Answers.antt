use Rattle.std.proofs.lemmas.List.Elements.{All-push}
use Rattle.cm_names.specs.Moniker.{IsChildName}
use Rattle.cm_command.proofs.lemmas.bytes.Parts.{child_further, child_ended, child_cut, nothing}
use Rattle.cm_command.proofs.tokens.children_in.Goals as goal

pub parts-preserved : goal.parts-preserved
parts-preserved c =
    let cut = child_cut c.parts.rest.now c.in_ok-child.field-0 c.in-Some.child c.in-Some.behind c.in-Some.is c.in_ok-child.ensures in
    rw c.in_ok-push.ensures.ok (record {
      names = All-push IsChildName _ _ c.parts.invariant.names cut.0;
      texts = child_further c.args.text.now c.parts.rest.now c.in-Some.behind.now c.in-Some-behind_byte.more.now c.parts.parts c.in-Some.child cut.0 cut.1 c.in-Some-behind_byte.ensures c.parts.invariant.texts;
    })

pub returns-then-is_empty : goal.returns-then-is_empty
returns-then-is_empty c =
    let cut = child_cut c.parts.rest.now c.in_ok-child.field-0 c.in-Some.child c.in-Some.behind c.in-Some.is c.in_ok-child.ensures in
    rw c.in_ok-push.ensures.ok (
      All-push IsChildName _ _ c.parts.invariant.names cut.0,
      child_ended c.args.text.now c.parts.rest.now c.in-Some.behind.now c.parts.parts c.in-Some.child cut.0 cut.1 (nothing c.in-Some.behind.now c.if-is_empty.ensures) c.parts.invariant.texts,
    )
