use Rattle.std.proofs.Common.{◌≡◌, ◌++◌, ◌∷◌, [], Some, refl, ap, ◌∙◌, rules}
use Rattle.cm_walk.proofs.lemmas.ways.Monikers.{loop-more, place-lower, moniker-made}
use Rattle.cm_walk.proofs.hop.names_up.Goals as goal

pub up-smaller : goal.up-smaller
up-smaller g c =
    place-lower (g.V.View.rows c.args.view.now) (g.V.View.next_inc c.args.view.now) c.up.at c.in-Some.place.parent c.place.ensures.orderly c.in-Some.ensures.parent

pub up-preserved : goal.up-preserved
up-preserved g c =
    let copied : c.in_ok-clone.field-0 ≡ c.in-Some.place.name.now = search rules in
    loop-more _ c.up.names.items c.push.new.self.items (Some c.in-Some.place.name.now) (g.V.View.rows c.args.view.now) (g.V.View.next_inc c.args.view.now) c.up.at (Some c.up.at) (Some c.in-Some.place.parent) c.place.ensures.orderly refl c.in-Some.ensures.parent c.up.invariant c.in-Some.ensures.name (c.in_ok-push.ensures.items ∙ ap (λ n. c.up.names.items ++ n ∷ []) copied)

pub returns : goal.returns
returns g c =
    moniker-made c.from_list.result c.up.names.items (g.V.View.rows c.args.view.now) (g.V.View.next_inc c.args.view.now) c.args.inc c.up.at c.place.ensures.orderly c.in_default.ensures.parent c.in_default.ensures.name c.up.invariant (c.from_list.ensures ∙ c.in_ok-listed.ensures ∙ c.from_vec.ensures ∙ c.reverse.ensures.items)
