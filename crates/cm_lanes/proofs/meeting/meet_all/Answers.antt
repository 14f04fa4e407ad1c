use Rattle.std.proofs.Common.{◌∷◌, List, refl, sym, subst, length, arith}
use Rattle.cm_lanes.specs.Lane.{Lane, HasPass, MetAll}
use Rattle.cm_lanes.proofs.lemmas.phases.Rounds.{has_first, has_others, meets_twice, all_split}
use Rattle.cm_lanes.proofs.meeting.meet_all.Goals as goal

pub meet_each-requires-2-clause-first : goal.meet_each-requires-2-clause-first
meet_each-requires-2-clause-first g c =
    let all = all_split (HasPass c.args.manager.now.turn) _ _ _ c.in-Some.ensures.cases.0 c.requires.passes in
    has_first c.args.manager.now.turn _ _ _ _ _ all.0 c.meet_each.ensures.meets

pub meet_each-requires-2-clause-others : goal.meet_each-requires-2-clause-others
meet_each-requires-2-clause-others g c =
    let all = all_split (HasPass c.args.manager.now.turn) _ _ _ c.in-Some.ensures.cases.0 c.requires.passes in
    has_others c.args.manager.now.turn _ _ _ _ c.meet_each.auto.others all.1 c.meet_each.ensures.meets

pub returns : goal.returns
returns g c =
    let cases = c.in-Some.ensures.cases in
    record {
      met = subst (λ (l : List (Lane g.row.G.Denot)). MetAll l (c.meet_each-2.new.first ∷ c.meet_each-2.new.others)) (sym cases.0)
          (meets_twice (length c.in-Some.others.now) _ _ _ _ _ _ (omega (arith, cases.1, c.requires.count)) refl c.meet_each.auto.others c.meet_each-2.auto.others c.meet_each.ensures.meets c.meet_each-2.ensures.meets);
    }
