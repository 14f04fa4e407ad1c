use Rattle.std.proofs.Common.{◌≡◌, false, true≢false, refl, sym, ◌∙◌, ap, subst, IsTrue, inl, inr}
use Rattle.std.specs.List.{list_any}
use Rattle.cm_decl.specs.declared.rows.Give.{Give}
use Rattle.cm_decl.specs.Same.{same_node}
use Rattle.cm_decl.specs.Graph.{is_strong}
use Rattle.cm_deps.specs.Nodes.{IsIncreasing, IsNodeNumber}
use Rattle.cm_deps.specs.Sources.{numbers_at, strong_sources}
use Rattle.cm_deps.specs.LeadsToLeast.{source_leads}
use Rattle.cm_deps.proofs.lemmas.given.Sourcing.{passing_any}
use Rattle.cm_deps.proofs.lemmas.given.Answering.{no_node, would_own, would_offer, would_give, would_split, would_none}
use Rattle.cm_deps.proofs.graph.Graph.would_depend.Goals as goal

pub returns-in_default : goal.returns-in_default
returns-in_default c = λ d dynamic is.
    let absent : list_any (same_node c.args.y.now) c.args.self.now.nodes.items ≡ false = ap (λ l. list_any (same_node c.args.y.now) l) (sym c.as_slice.ensures.value) ∙ c.in_default.ensures.none (subst IsIncreasing (sym c.as_slice.ensures.value) is.nodes.increasing) in
    ((λ never. absurd (true≢false (sym never))), (λ would. absurd (no_node d dynamic c.args.self.now.nodes.items c.args.y.now is.nodes absent (would_none d dynamic c.args.coll.now c.args.gives.now c.args.y.now would))))

pub returns-then-leads : goal.returns-then-leads
returns-then-leads c = λ d dynamic is.
    let there : IsNodeNumber c.args.self.now.nodes.items c.args.y.now c.in-Some.to = subst (λ l. IsNodeNumber l c.args.y.now c.in-Some.to) c.as_slice.ensures.value c.in-Some.ensures.some in
    ((λ _. would_own d dynamic c.args.coll.now c.args.gives.now c.args.self.now.nodes.items c.args.self.now.reached.items c.args.y.now c.in-Some.to is.nodes is.reached there (sym c.if-leads.ensures)), (λ _. refl))

pub returns-then-offer_leads : goal.returns-then-offer_leads
returns-then-offer_leads c = λ d dynamic is.
    let there : IsNodeNumber c.args.self.now.nodes.items c.args.y.now c.in-Some.to = subst (λ l. IsNodeNumber l c.args.y.now c.in-Some.to) c.as_slice.ensures.value c.in-Some.ensures.some in
    ((λ _. would_offer d dynamic c.args.coll.now c.args.gives.now c.args.self.now.nodes.items c.args.self.now.reached.items (numbers_at c.args.self.now.offered c.args.coll.now) c.args.y.now c.in-Some.to is.nodes is.reached (is.offered c.args.coll.now) there (sym c.if-offer_leads.ensures)), (λ _. refl))

pub returns : goal.returns
returns c = λ d dynamic is.
    let there : IsNodeNumber c.args.self.now.nodes.items c.args.y.now c.in-Some.to = subst (λ l. IsNodeNumber l c.args.y.now c.in-Some.to) c.as_slice.ensures.value c.in-Some.ensures.some in
    let given : c.gives_lead.result ≡ list_any (source_leads c.args.self.now.nodes.items c.args.self.now.reached.items c.in-Some.to) (strong_sources c.args.gives.now) =
    c.gives_lead.ensures ∙ sym (passing_any (λ (g : Give). is_strong g.dependency) (λ (g : Give). g.from) (source_leads c.args.self.now.nodes.items c.args.self.now.reached.items c.in-Some.to) c.args.gives.now) in (
      (λ h. would_give d dynamic c.args.coll.now c.args.gives.now c.args.self.now.nodes.items c.args.self.now.reached.items c.args.y.now c.in-Some.to is.nodes is.reached there (sym given ∙ h)),
      (λ would. elim (would_split d dynamic c.args.coll.now c.args.gives.now c.args.self.now.nodes.items c.args.self.now.reached.items (numbers_at c.args.self.now.offered c.args.coll.now) c.args.y.now c.in-Some.to is.nodes is.reached (is.offered c.args.coll.now) there would) as (λ _. IsTrue c.gives_lead.result) [
        | inl own ↦ absurd (true≢false (sym own ∙ sym c.if-leads.ensures))
        | inr rest ↦ (elim rest as (λ _. IsTrue c.gives_lead.result) [
          | inl offer ↦ absurd (true≢false (sym offer ∙ sym c.if-offer_leads.ensures))
          | inr give ↦ given ∙ give
        ])
      ]),
    )
