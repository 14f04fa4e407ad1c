use Rattle.std.proofs.Common.{◌≡◌, sym, ◌∙◌, ap, subst, rules, ◌||◌}
use Rattle.std.specs.Prelude.{map}
use Rattle.std.specs.List.{list_any}
use Rattle.std.specs.BTreeMap.{is_at}
use Rattle.std.specs.BTreeSet as set
use Rattle.cm_decl.specs.Graph.{static_node}
use Rattle.cm_decl.specs.Same.{same_node}
use Rattle.cm_decl.specs.NodeOrder.{node_cmp}
use Rattle.cm_deps.specs.Nodes.{IsIncreasing}
use Rattle.cm_deps.proofs.lemmas.numbers.Placing.{nodes_all}
use Rattle.cm_deps.proofs.nodes.sorted_nodes.Goals as goal

pub returns : goal.returns
returns c =
    let keys : c.in_ok-collect.field-0.items ≡ c.put_dynamic.new.nodes.keys = search rules in
    record {
      increasing = subst IsIncreasing (sym keys) c.into_iter.ensures.into_iter_gives.4;
      all = λ x. nodes_all c.args.decl.now c.args.dynamic.now c.in_ok-collect.field-0.items (λ y. set.contains node_cmp c.new-nodes.result y) (λ y. set.contains node_cmp c.insert.new.self y) (λ y. set.contains node_cmp c.put_declared.new.nodes y)
          (λ y. ap (λ l. list_any (is_at (node_cmp y)) l) c.new-nodes.ensures.empty)
          c.in_ok-insert.ensures.updates.0
          (λ y. c.in_ok-put_declared.ensures y ∙ ap (λ l. set.contains node_cmp c.insert.new.self y || list_any (λ z. same_node z y) (map static_node l)) c.as_slice.ensures)
          (λ y. ap (λ l. list_any (is_at (node_cmp y)) l) keys ∙ c.in_ok-put_dynamic.ensures y)
          x;
    }
