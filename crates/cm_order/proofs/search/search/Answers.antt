use Rattle.std.proofs.Common.{rules, ◌≡◌, [], sym, subst}
use Rattle.cm_order.specs.Search.{IsVisit}
use Rattle.cm_trees.proofs.trees.Tops.{top_lives}
use Rattle.cm_order.proofs.lemmas.searches.Turns.{alone, under}
use Rattle.cm_order.proofs.lemmas.searches.Weights.{falls}
use Rattle.cm_order.proofs.lemmas.searches.Searching.{IsSearching, searching_first, searching_on, searching_found, searching_ends, goes_kid}
use Rattle.cm_order.proofs.search.search.Goals as goal

pub loop-spot-init : goal.loop-spot-init
loop-spot-init g c =
    let row : _ = top_lives (g.V.View.rows c.args.view.now) (g.V.View.next_inc c.args.view.now) c.requires.sound.orderly c.args.top c.args.top c.requires.top in (
      subst (IsSearching (g.V.View.rows c.args.view.now) c.args.top c.args.wanted) (sym (alone c.new-left.result.items c.push.new.self.items (under c.args.top) c.new-left.ensures.items c.in_ok-push.ensures.items))
          (searching_first (g.V.View.rows c.args.view.now) (g.V.View.next_inc c.args.view.now) c.requires.sound.orderly c.args.wanted c.args.top c.requires.top row.0 row.1),
      c.requires.levels,
    )

pub returns-in-Here-clause-found : goal.returns-in-Here-clause-found
returns-in-Here-clause-found g c =
    searching_found (g.V.View.rows c.args.view.now) (g.V.View.next_inc c.args.view.now) c.requires.sound.orderly c.args.wanted c.args.top c.loop-spot.left.items c.pop.new.self.items c.in-Some.spot c.requires.top c.loop-spot.invariant.0 c.in-Some.ensures.items
    (subst (IsVisit (g.V.View.rows c.args.view.now) c.args.wanted c.in-Some.spot) c.in-Here.is c.in_ok-look_at.ensures.visit)

pub loop-spot-smaller : goal.loop-spot-smaller
loop-spot-smaller g c =
    falls (g.V.View.rows c.args.view.now) (g.V.View.next_inc c.args.view.now) c.requires.sound.orderly c.loop-spot.left.items c.pop.new.self.items c.go_on.new.left.items c.in-Some.spot c.in-Below.child c.in-Some.ensures.items c.in_ok-go_on-in-Below.ensures
    (goes_kid (g.V.View.rows c.args.view.now) (g.V.View.next_inc c.args.view.now) c.requires.sound.orderly c.args.wanted c.in-Some.spot c.in-Below.child (subst (IsVisit (g.V.View.rows c.args.view.now) c.args.wanted c.in-Some.spot) c.in-Below.is c.in_ok-look_at.ensures.visit))

pub loop-spot-preserved : goal.loop-spot-preserved
loop-spot-preserved g c = (
  searching_on (g.V.View.rows c.args.view.now) (g.V.View.next_inc c.args.view.now) c.requires.sound.orderly c.args.wanted c.args.top c.loop-spot.left.items c.pop.new.self.items c.go_on.new.left.items c.in-Some.spot c.in-Below.child c.loop-spot.invariant.0 c.in-Some.ensures.items c.in_ok-go_on-in-Below.ensures (subst (IsVisit (g.V.View.rows c.args.view.now) c.args.wanted c.in-Some.spot) c.in-Below.is c.in_ok-look_at.ensures.visit),
  c.in_ok-look_at.ensures.levels,
)

pub returns-clause-found : goal.returns-clause-found
returns-clause-found g c =
    let none : c.loop-spot.left.items ≡ [] = search rules in
    searching_ends (g.V.View.rows c.args.view.now) (g.V.View.next_inc c.args.view.now) c.requires.sound.orderly c.args.wanted c.args.top c.loop-spot.left.items c.requires.top c.loop-spot.invariant.0 none
