-- Which action is pending where, with more rows, and with fewer.
use Rattle.std.proofs.Common.{◌≡◌, ℕ, ◌++◌, ◌==◌, List, false, true≢false, Some, None, IsTrue, sym, ◌∙◌, inl, inr}
use Rattle.cm_world.specs.declared.row.Row.{Row}
use Rattle.cm_world.specs.declared.action.Act.{Act}
use Rattle.cm_world.specs.declared.action.ActKind.{ActKind}
use Rattle.cm_world.specs.Rows.{row_of, is_below, is_subtree_shut}
use Rattle.cm_world.specs.After.{others_than}
use Rattle.cm_world.specs.Sound.{IsSound}
use Rattle.cm_world.proofs.lemmas.trees.Finding.{none_some}
use Rattle.cm_trees.proofs.trees.Trees.{not_true, shut_each}
use Rattle.cm_laws.specs.Tasks.{HasRow, IsTasked}
use Rattle.cm_laws.proofs.lemmas.actions.Tasks.{find_left, find_split}
use Rattle.cm_laws.proofs.lemmas.sound.Purges.{stood, stands}

-- a row at which an action is pending isn't shut
pub pending_unshut : (rows : List Row) (next i : ℕ) (r : Row) (p : ActKind × ℕ) → IsSound rows next → row_of rows i ≡ Some r → r.pending ≡ Some p → r.shut ≡ false
pending_unshut rows next i r p sound lives pending =
    not_true r.shut (λ shut. none_some p (sym (sound.shut i r lives shut).idle ∙ pending))

-- with more rows at which nothing is pending
pub tasked_more : (rows kids : List Row) (acts : List Act) → IsTasked rows acts → ((i : ℕ) (r : Row) → row_of kids i ≡ Some r → r.pending ≡ None) → IsTasked (rows ++ kids) acts
tasked_more rows kids acts tasked idle = record {
  rows_of = λ a x there pending. let h : HasRow rows x = tasked.rows_of a x there pending in
      record {
        row = h.row;
        lives = find_left (λ r. r.inc == x.inc) rows kids h.row h.lives;
        pending = h.pending;
        unresolved = h.unresolved;
      };
  acts_of = λ i a kind r lives pending. elim (find_split (λ z. z.inc == i) rows kids r lives) [
    | inl old ↦ tasked.acts_of i a kind r old pending
    | inr kid ↦ absurd (none_some (kind, a) (sym (idle i r kid) ∙ pending))
  ];
}

-- Where rows that are shut with all below them leave, each row's pending action is still open, and the other
-- way round.
pub tasked_purged : (rows : List Row) (next top : ℕ) (acts : List Act) → IsSound rows next → IsTrue (is_subtree_shut rows top) → IsTasked rows acts → IsTasked (others_than rows top) acts
tasked_purged rows next top acts sound shut tasked = record {
  rows_of = λ a x there pending. let h : HasRow rows x = tasked.rows_of a x there pending in
      record {
        row = h.row;
        lives =
            stands rows next top sound.orderly x.inc h.row h.lives
            (not_true (is_below rows top x.inc)
            (λ below. true≢false (sym (shut_each rows next sound.orderly top x.inc h.row shut h.lives below) ∙ pending_unshut rows next x.inc h.row (x.kind, x.action) sound h.lives h.pending)));
        pending = h.pending;
        unresolved = h.unresolved;
      };
  acts_of = λ i a kind r lives pending. tasked.acts_of i a kind r (stood rows next top sound.orderly i r lives).0 pending;
}
