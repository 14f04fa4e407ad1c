use Rattle.std.proofs.Common.{ℕ, List, ◌∙◌, ap, bytes_eq}
use Rattle.cm_decl.specs.declared.rows.Collection.{Collection as Declared}
use Rattle.cm_valid.proofs.lemmas.Name.{flipped, named_more}
use Rattle.cm_valid.proofs.names.collection_names.Goals as goal

pub loop-collection-preserved : goal.loop-collection-preserved
loop-collection-preserved c =
    named_more (λ (name : List ℕ) (k : Declared). bytes_eq k.name name) c.args.collections.now c.loop-collection.collection-index c.collection-item.result c.loop-collection.names c.insert.new.self c.as_str.result.now
    c.loop-collection-test.true c.collection-item.is (λ name. flipped name c.as_str.result.now ∙ ap (λ t. bytes_eq t name) c.as_str.ensures.text) c.loop-collection.invariant c.in_ok-insert.ensures
