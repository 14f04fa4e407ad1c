use Rattle.std.proofs.Common.{sym, ◌∙◌, ap, subst, IsTrue, Some, inl, inr}
use Rattle.std.specs.Str.{bytes_eq}
use Rattle.std.specs.Cmp.Lexicographic.{bytes_decides}
use Rattle.std.specs.Cmp.{first_so, second_so}
use Rattle.cm_decl.specs.Graph.{is_from_child}
use Rattle.cm_trees.proofs.trees.Trees.{and_pair}
use Rattle.cm_world.proofs.lemmas.trees.Finding.{none_some, some_same}
use Rattle.cm_order.specs.Glances.{is_offered, is_given_from}
use Rattle.cm_order.proofs.dependents.put_offer.Goals as goal

pub returns-in_default : goal.returns-in_default
returns-in_default g c = record {
  here = λ name x other comes. absurd (none_some x (sym c.in_default.is ∙ c.strong_child.ensures.found x other (second_so (bytes_eq c.args.offer.now.to name) (is_given_from (g.V.View.rows c.args.view.now) c.args.parent x c.args.offer.now.give) comes)));
  kept = λ name x there. there;
  real = λ name x there. inl there;
}

pub returns : goal.returns
returns g c = record {
  here = λ name x other comes.
      let to = (bytes_decides c.args.offer.now.to name).0 (first_so (bytes_eq c.args.offer.now.to name) (is_given_from (g.V.View.rows c.args.view.now) c.args.parent x c.args.offer.now.give) comes) in
      let one = some_same c.in-Some.source x (sym c.in-Some.is ∙ c.strong_child.ensures.found x other (second_so (bytes_eq c.args.offer.now.to name) (is_given_from (g.V.View.rows c.args.view.now) c.args.parent x c.args.offer.now.give) comes)) in
      subst (λ n. IsTrue (is_offered c.put_name.new.offered n x)) to (subst (λ y. IsTrue (is_offered c.put_name.new.offered c.args.offer.now.to y)) one c.in_ok-put_name.ensures.here);
  kept = c.in_ok-put_name.ensures.kept;
  real = λ name x there. elim (c.in_ok-put_name.ensures.real name x there) [
    | inl before ↦ inl before
    | inr now ↦ inr (and_pair (bytes_eq c.args.offer.now.to name) (is_given_from (g.V.View.rows c.args.view.now) c.args.parent x c.args.offer.now.give)
        ((bytes_decides c.args.offer.now.to name).1 now.0)
        (second_so (is_from_child c.args.offer.now.give.from) (is_given_from (g.V.View.rows c.args.view.now) c.args.parent x c.args.offer.now.give) (c.strong_child.ensures.real x (c.in-Some.is ∙ ap Some now.1))))
  ];
}
