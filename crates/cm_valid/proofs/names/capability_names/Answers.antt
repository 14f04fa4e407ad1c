use Rattle.std.proofs.Common.{ℕ, List, ◌≡◌, ◌+◌, ◌∙◌, ◌&&◌, true, false, sym, ap, take, bytes_eq}
use Rattle.std.specs.List.{list_any}
use Rattle.cm_decl.specs.declared.rows.Capability.{Capability as Declared}
use Rattle.cm_decl.specs.Same as spec
use Rattle.cm_valid.specs.Lookup.{has}
use Rattle.cm_valid.proofs.lemmas.Name.{flipped, named_more, named_same}
use Rattle.cm_valid.proofs.names.capability_names.Goals as goal
use Rattle.cm_valid.proofs.names.capability_names.Goals.{then-same_kind+in_ok-insert, else-same_kind}

pub loop-capability-preserved : goal.loop-capability-preserved
loop-capability-preserved c =
    let test = λ (name : List ℕ) (k : Declared). spec.same_kind k.kind c.args.kind && bytes_eq k.name name in
    let row = c.capability-item.result in
    elim c.if-same_kind.branch as (λ _. (name : List ℕ) → has c.if-same_kind.names name ≡ list_any (test name) (take (c.loop-capability.capability-index + 1) c.args.capabilities.now)) [
      | then-same_kind+in_ok-insert w ↦
          (let kinds : spec.same_kind row.kind c.args.kind ≡ true = cc in
          named_more test c.args.capabilities.now c.loop-capability.capability-index row c.loop-capability.names c.if-same_kind.names w.as_str.result.now
          c.loop-capability-test.true c.capability-item.is
          (λ name. flipped name w.as_str.result.now ∙ ap (λ t. bytes_eq t name) w.as_str.ensures.text ∙ ap (λ v. v && bytes_eq row.name name) (sym kinds))
          c.loop-capability.invariant (λ name. ap (λ names. has names name) w.names-is ∙ w.in_ok-insert.ensures name))
      | else-same_kind w ↦
          (let kinds : spec.same_kind row.kind c.args.kind ≡ false = cc in
          λ name. ap (λ names. has names name) w.names-is ∙ named_same test c.args.capabilities.now c.loop-capability.capability-index row c.loop-capability.names
          c.loop-capability-test.true c.capability-item.is (λ name. ap (λ v. v && bytes_eq row.name name) kinds) c.loop-capability.invariant name)
    ]
