use Rattle.std.proofs.Common.{◌≡◌, ℕ, ◌<◌, List, [], ◌+◌, length, take, set, false, sym, ◌∙◌, ap, subst, rules, arith, Vec, Global}
use Rattle.std.specs.List.{list_any}
use Rattle.std.proofs.lemmas.List.{take_all, get_or_default, length-set}
use Rattle.cm_decl.specs.declared.decl.Decl.{Decl}
use Rattle.cm_decl.specs.declared.node.Node.TheVariants.{Child}
use Rattle.cm_decl.specs.Same.{same_node}
use Rattle.cm_deps.specs.Edges.{row}
use Rattle.cm_deps.specs.Nodes.{IsNodeNumber}
use Rattle.cm_deps.specs.Sources.{IsEdges, ListsMore, strong_sources}
use Rattle.cm_deps.proofs.lemmas.given.Sourcing.{given_more, given_none}
use Rattle.cm_deps.proofs.sources.add_given.Goals as goal
use Rattle.cm_deps.proofs.sources.add_given.Goals.{in-Some+in_ok-add_gives, in_default}

pub index_mut-requires : goal.index_mut-requires
index_mut-requires c = omega (arith, c.in-Some.ensures.some.inside, c.loop-child.invariant.size)

pub loop-child-preserved : goal.loop-child-preserved
loop-child-preserved c =
    let name : c.in_ok-clone.field-0 ≡ c.child-item.result.name = search rules in
    elim c.match-number.branch as (λ _. record { size : length c.match-number.rows.items ≡ length c.args.nodes.now; edges : (d : Decl) → IsEdges d [] c.args.nodes.now c.args.rows.now.items → IsEdges d (take (c.loop-child.child-index + 1) c.args.dynamic.now) c.args.nodes.now c.match-number.rows.items }) [
      | in-Some+in_ok-add_gives w ↦
          (let inside : w.in-Some.place < length c.loop-child.rows.items = omega (arith, w.in-Some.ensures.some.inside, c.loop-child.invariant.size) in
          let items : c.match-number.rows.items ≡ set c.loop-child.rows.items w.in-Some.place w.add_gives.new.numbers = ap (λ (v : Vec (List ℕ) Global). v.items) w.rows-is in
          let old : row c.loop-child.rows.items w.in-Some.place ≡ w.index_mut.result.now = get_or_default c.loop-child.rows.items w.in-Some.place [] w.index_mut.result.now inside ∙ sym w.index_mut.ensures.value in
          let more : ListsMore c.args.nodes.now (strong_sources c.child-item.result.gives) (row c.loop-child.rows.items w.in-Some.place) w.add_gives.new.numbers =
          subst (λ l. ListsMore c.args.nodes.now (strong_sources c.child-item.result.gives) l w.add_gives.new.numbers) (sym old)
          (subst (λ g. ListsMore c.args.nodes.now (strong_sources g) w.index_mut.result.now w.add_gives.new.numbers) w.as_slice.ensures w.in_ok-add_gives.ensures) in
          let place : IsNodeNumber c.args.nodes.now (Child c.child-item.result.name) w.in-Some.place = subst (λ n. IsNodeNumber c.args.nodes.now (Child n) w.in-Some.place) name w.in-Some.ensures.some in
          record {
            size = ap length items ∙ length-set c.loop-child.rows.items w.in-Some.place w.add_gives.new.numbers ∙ c.loop-child.invariant.size;
            edges = λ d base. subst (λ l. IsEdges d (take (c.loop-child.child-index + 1) c.args.dynamic.now) c.args.nodes.now l) (sym items)
                (given_more d c.args.nodes.now c.args.dynamic.now c.loop-child.child-index c.child-item.result c.loop-child.rows.items w.in-Some.place w.add_gives.new.numbers c.requires.increasing c.loop-child-test.true c.child-item.is place (c.loop-child.invariant.edges d base) more);
          })
      | in_default w ↦
          (let items : c.match-number.rows.items ≡ c.loop-child.rows.items = ap (λ (v : Vec (List ℕ) Global). v.items) w.rows-is in
          let absent : list_any (same_node (Child c.child-item.result.name)) c.args.nodes.now ≡ false = subst (λ n. list_any (same_node (Child n)) c.args.nodes.now ≡ false) name (w.in_default.ensures.none c.requires.increasing) in
          record {
            size = ap length items ∙ c.loop-child.invariant.size;
            edges = λ d base. subst (λ l. IsEdges d (take (c.loop-child.child-index + 1) c.args.dynamic.now) c.args.nodes.now l) (sym items)
                (given_none d c.args.nodes.now c.args.dynamic.now c.loop-child.child-index c.child-item.result c.loop-child.rows.items c.loop-child-test.true c.child-item.is absent (c.loop-child.invariant.edges d base));
          })
    ]

pub returns : goal.returns
returns c = λ d edges.
    subst (λ l. IsEdges d l c.args.nodes.now c.loop-child.rows.items) (take_all c.loop-child.child-index c.args.dynamic.now c.loop-child-test.false) (c.loop-child.invariant.edges d edges)
