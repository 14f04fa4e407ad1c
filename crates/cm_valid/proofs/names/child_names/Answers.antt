use Rattle.std.proofs.Common.{ℕ, List, ◌∙◌, ap, bytes_eq}
use Rattle.cm_decl.specs.declared.rows.Child.{Child as Declared}
use Rattle.cm_valid.proofs.lemmas.Name.{flipped, named_more}
use Rattle.cm_valid.proofs.names.child_names.Goals as goal

pub loop-child-preserved : goal.loop-child-preserved
loop-child-preserved c =
    named_more (λ (name : List ℕ) (k : Declared). bytes_eq k.name name) c.args.children.now c.loop-child.child-index c.child-item.result c.loop-child.names c.insert.new.self c.as_str.result.now
    c.loop-child-test.true c.child-item.is (λ name. flipped name c.as_str.result.now ∙ ap (λ t. bytes_eq t name) c.as_str.ensures.text) c.loop-child.invariant c.in_ok-insert.ensures
