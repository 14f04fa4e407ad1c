-- The tree of a realm is sound, as that of every legal history is.
use Rattle.std.proofs.Common.{◌≡◌, ℕ, List, IsTrue, sym, subst}
use Rattle.cm_world.specs.declared.row.Row.{Row}
use Rattle.cm_world.specs.Sound.{IsOrderly, IsSound}
use Rattle.cm_world.specs.Step.{may_close}
use Rattle.cm_laws.specs.Story.{world_of}
use Rattle.realm_tests.proofs.picks.picked.Goals as goal

-- only the order of the incarnations speaks of the next one
sound_before : (rows other : List Row) (next n : ℕ) → rows ≡ other → IsOrderly rows next → IsSound other n →
    IsSound rows next
sound_before rows other next n same orderly sound =
    let s : IsSound rows n = subst (λ rs. IsSound rs n) (sym same) sound in
    record { orderly = orderly; acyclic = s.acyclic; doomed = s.doomed; shut = s.shut; static = s.static }

pub pick-requires : goal.pick-requires
unfolding world_of
pick-requires c = record {
  sound = sound_before _ _ _ _ c.tree-tree.ensures.rows c.lives-lives.ensures.orderly
      (c.trees_stay_sound.ensures.sound c.args.realm.now.frame c.args.realm.now.entries c.entries-entries.ensures.legal);
  closing = subst (λ rs. IsTrue (may_close rs c.args.inc)) (sym c.tree-tree.ensures.rows) c.requires;
}
