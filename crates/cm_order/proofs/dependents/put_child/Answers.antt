use Rattle.std.proofs.Common.{◌∙◌, ap, subst}
use Rattle.std.specs.Prelude.{option_map, option_and_then}
use Rattle.cm_world.proofs.lemmas.trees.Finding.{none_some}
use Rattle.cm_order.specs.Glances.{HasSources, is_client, is_given_from}
use Rattle.cm_order.proofs.lemmas.levels.Real.{given_strong, offered_strong}
use Rattle.cm_order.proofs.lemmas.names.Sources.{gives_same}
use Rattle.cm_order.proofs.dependents.put_child.Goals as goal

pub returns-in_default : goal.returns-in_default
returns-in_default g c = record {
  put = λ r lives. absurd (none_some r.gives (c.in_default.ensures ∙ ap (option_map (λ r. r.gives)) lives));
  kept = λ x z there. there;
  real = λ sound kid offered are. are;
}

pub returns : goal.returns
returns g c =
    let rows = g.V.View.rows c.args.view.now in
    record {
      put = λ r lives. record {
        given = λ x other any. c.in_ok-put_named.ensures.kept x c.args.child
            (subst (λ l. HasSources c.args.parent (is_given_from rows c.args.parent) l (λ y. is_client c.put_gives.new.edges.clients y c.args.child)) (c.as_slice.ensures ∙ gives_same rows c.args.child c.in-Some.gives.now r c.in-Some.ensures lives) c.in_ok-put_gives.ensures.all x other any);
        offers = λ name x named there. c.in_ok-put_named.ensures.put name x (ap (option_and_then (λ r. r.name)) lives ∙ named) there;
      };
      kept = λ x z there. c.in_ok-put_named.ensures.kept x z (c.in_ok-put_gives.ensures.kept x z there);
      real = λ sound kid offered are.
          c.in_ok-put_named.ensures.real c.args.parent (offered_strong rows (g.V.View.next_inc c.args.view.now) sound c.args.parent c.args.child kid c.args.offered.now offered)
          (c.in_ok-put_gives.ensures.real
          (given_strong rows (g.V.View.next_inc c.args.view.now) sound c.args.parent c.args.child kid c.as_slice.result.now (c.as_slice.ensures ∙ gives_same rows c.args.child c.in-Some.gives.now kid.row c.in-Some.ensures kid.lives)) are);
    }
