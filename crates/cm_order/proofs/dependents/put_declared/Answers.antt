use Rattle.std.proofs.Common.{IsTrue, ◌∙◌, subst, inl, inr}
use Rattle.std.specs.List.{list_any}
use Rattle.cm_decl.specs.declared.decl.Decl.{Decl}
use Rattle.cm_world.proofs.lemmas.trees.Finding.{some_same}
use Rattle.cm_order.specs.Glances.{AreOffered, HasOffered, HasSources, is_client, is_offered_from, is_used_from}
use Rattle.cm_order.proofs.lemmas.levels.Real.{used_strong, none_offered}
use Rattle.cm_order.proofs.lemmas.names.Sources.{all_put}
use Rattle.cm_order.proofs.dependents.put_declared.Goals as goal

pub returns : goal.returns
returns g c =
    let rows = g.V.View.rows c.args.view.now in
    let offered : AreOffered rows c.args.parent c.put_offers.new.offered = λ name x there d found.
    elim (c.in_ok-put_offers.ensures.real name x there) [
      | inl before ↦ absurd (none_offered c.new-offered.result c.new-offered.ensures.empty name x before)
      | inr any ↦ subst (λ (e : Decl). IsTrue (list_any (is_offered_from rows c.args.parent name x) e.offers)) (some_same c.args.decl.now d (c.requires.decl ∙ found)) (subst (λ l. IsTrue (list_any (is_offered_from rows c.args.parent name x) l)) c.as_slice.ensures any)
    ] in
    record {
      all = all_put rows (g.V.View.next_inc c.args.view.now) c.requires.sound c.args.parent c.args.decl.now c.put_offers.new.offered c.put_uses.new.edges.clients c.put_children.new.edges.clients c.requires.decl
          (subst (λ l. HasOffered rows c.args.parent l c.put_offers.new.offered) c.as_slice.ensures c.in_ok-put_offers.ensures.all)
          (subst (λ l. HasSources c.args.parent (is_used_from rows c.args.parent) l (λ x. is_client c.put_uses.new.edges.clients x c.args.parent)) c.as_slice-2.ensures c.in_ok-put_uses.ensures.all)
          c.in_ok-put_children.ensures.all c.in_ok-put_children.ensures.kept;
      real = λ are. c.in_ok-put_children.ensures.real offered (c.in_ok-put_uses.ensures.real (used_strong rows (g.V.View.next_inc c.args.view.now) c.requires.sound c.args.parent c.args.decl.now c.requires.decl c.as_slice-2.result.now c.as_slice-2.ensures) are);
    }
