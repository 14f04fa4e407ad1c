use Rattle.std.proofs.Common.{◌≡◌, false, true≢false, sym, ◌∙◌, ap, subst, IsTrue}
use Rattle.std.specs.Prelude.{◌↔◌}
use Rattle.std.specs.List.{list_any}
use Rattle.cm_decl.specs.Same.{same_node}
use Rattle.cm_decl.specs.GraphInside.{DependsOn}
use Rattle.cm_deps.specs.Edges.{holds, row}
use Rattle.cm_deps.specs.Nodes.{IsIncreasing, IsNodeNumber}
use Rattle.cm_deps.proofs.lemmas.given.Answering.{first_is_node, last_is_node, no_node, depends_by_number}
use Rattle.cm_deps.proofs.graph.Graph.depends.Goals as goal

pub returns-in_default : goal.returns-in_default
returns-in_default c = λ d dynamic is.
    let absent : list_any (same_node c.args.x.now) c.args.self.now.nodes.items ≡ false = ap (λ l. list_any (same_node c.args.x.now) l) (sym c.as_slice.ensures.value) ∙ c.in_default.ensures.none (subst IsIncreasing (sym c.as_slice.ensures.value) is.nodes.increasing) in
    ((λ never. absurd (true≢false (sym never))), (λ way. absurd (no_node d dynamic c.args.self.now.nodes.items c.args.x.now is.nodes absent (first_is_node d dynamic c.args.x.now c.args.y.now way))))

pub returns-in_default-number : goal.returns-in_default-number
returns-in_default-number c = λ d dynamic is.
    let absent : list_any (same_node c.args.y.now) c.args.self.now.nodes.items ≡ false = ap (λ l. list_any (same_node c.args.y.now) l) (sym c.as_slice-2.ensures.value) ∙ c.in_default-number.ensures.none (subst IsIncreasing (sym c.as_slice-2.ensures.value) is.nodes.increasing) in
    ((λ never. absurd (true≢false (sym never))), (λ way. absurd (no_node d dynamic c.args.self.now.nodes.items c.args.y.now is.nodes absent (last_is_node d dynamic c.args.x.now c.args.y.now way))))

pub returns : goal.returns
returns c = λ d dynamic is.
    let first : IsNodeNumber c.args.self.now.nodes.items c.args.x.now c.in-Some.from = subst (λ l. IsNodeNumber l c.args.x.now c.in-Some.from) c.as_slice.ensures.value c.in-Some.ensures.some in
    let second : IsNodeNumber c.args.self.now.nodes.items c.args.y.now c.in-Some-number.to = subst (λ l. IsNodeNumber l c.args.y.now c.in-Some-number.to) c.as_slice-2.ensures.value c.in-Some-number.ensures.some in
    let both : IsTrue (holds (row c.args.self.now.reached.items c.in-Some.from) c.in-Some-number.to) ↔ DependsOn d dynamic c.args.x.now c.args.y.now = depends_by_number d dynamic c.args.self.now.nodes.items c.args.self.now.reached.items c.args.x.now c.args.y.now c.in-Some.from c.in-Some-number.to is.reached first second in
    ((λ held. both.0 (sym c.reaches.ensures ∙ held)), (λ way. c.reaches.ensures ∙ both.1 way))
