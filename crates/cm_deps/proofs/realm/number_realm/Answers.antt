use Rattle.std.proofs.Common.{[], sym, ◌∙◌, subst}
use Rattle.cm_deps.specs.Sources.{IsOffered, IsEdges}
use Rattle.cm_deps.proofs.realm.number_realm.Goals as goal

pub returns : goal.returns
returns c = record {
  nodes = c.in_ok-nodes.ensures;
  offered =
      subst (λ l. IsOffered l c.args.decl.now.offers c.in_ok-offered.offered) c.as_slice.ensures.value
      (subst (λ l. IsOffered c.as_slice.result.now l c.in_ok-offered.offered) c.as_slice-2.ensures c.in_ok-offered.ensures);
  edges =
      subst (λ l. IsEdges c.args.decl.now c.args.dynamic.now l c.add_given.new.rows.items) c.as_slice-4.ensures.value
      (c.in_ok-add_given.ensures c.args.decl.now
      (subst (λ l. IsEdges c.args.decl.now [] l c.in_ok-after.after.items) (c.as_slice-3.ensures.value ∙ sym c.as_slice-4.ensures.value) c.in_ok-after.ensures));
}
