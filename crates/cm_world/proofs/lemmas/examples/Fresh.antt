-- A tree is sound when it is made.
use Rattle.std.proofs.Common.{◌≡◌, ℕ, List, [], ◌∷◌, Bool, true, false, cond, Some, None, unwrap_or, option_and_then, refl, true≢false, sym, ◌∙◌, ap, arith, ◌==◌}
use Rattle.std.specs.List.{list_any}
use Rattle.cm_decl.proofs.lemmas.cycles.Reaching.{acyclic_by_ends}
use Rattle.cm_world.specs.declared.row.Row.{Row}
use Rattle.cm_world.specs.Rows.{decl_of}
use Rattle.cm_world.specs.World.{start, root_row}
use Rattle.cm_world.specs.Level.{LevelStrong, is_from_row, level_sources}
use Rattle.cm_world.specs.Sound.{Lives}
use Rattle.cm_world.specs.LawsInside.{StartsSound}
use Rattle.cm_world.proofs.lemmas.trees.Finding.{none_some, row_of-inc}
use Rattle.cm_world.proofs.lemmas.trees.Levels.{edge_source}

-- A row that is found in a new tree is its root.
only_root : (url : List ℕ) (t : Bool) (r : Row) → cond t (Some (root_row url)) None ≡ Some r → root_row url ≡ r
only_root url true r e = ap (λ o. unwrap_or o (root_row url)) e
only_root url false r e = absurd (none_some r e)

-- the only row of a fresh world is its root
root_only : (url : List ℕ) (i : ℕ) (r : Row) → Lives (root_row url ∷ []) i r → root_row url ≡ r
root_only url i r lives = only_root url (0 == i) r lives

-- No row of a new tree has a declaration.
no_decl_by : (t : Bool) (url : List ℕ) → option_and_then (λ r. r.decl) (cond t (Some (root_row url)) None) ≡ None
no_decl_by true url = refl
no_decl_by false url = refl

-- In a new tree no level has an edge.
no_edge : (url : List ℕ) (p x y : ℕ) → LevelStrong (root_row url ∷ []) p x y → ⊥
no_edge url p x y h =
    let none : decl_of (root_row url ∷ []) p ≡ None = no_decl_by (0 == p) url in
    let silent : level_sources (root_row url ∷ []) p x ≡ [] = rw (none, level_sources) refl in
    true≢false (sym (edge_source (root_row url ∷ []) p x y h) ∙ ap (list_any (is_from_row (root_row url ∷ []) p y)) silent)

-- A tree is sound when it is made.
pub starts_sound : StartsSound
starts_sound f = record {
  orderly = record {
    increasing = ((omega arith, λ s none. absurd (true≢false (sym none))), tt);
    root = λ i r lives top. let one : root_row f.root ≡ r = root_only f.root i r lives in (sym (row_of-inc (start f).rows i r lives) ∙ sym (ap (λ z. z.inc) one), sym (ap (λ z. z.name) one));
    parents = λ i p r lives below. absurd (none_some p (ap (λ z. z.parent) (root_only f.root i r lives) ∙ below));
    one_name = λ i j r s here there _ _ _ _. sym (row_of-inc (start f).rows i r here) ∙ sym (ap (λ z. z.inc) (root_only f.root i r here)) ∙ ap (λ z. z.inc) (root_only f.root j s there) ∙ row_of-inc (start f).rows j s there;
    valid = λ i r d lives resolved. absurd (none_some d (ap (λ z. z.decl) (root_only f.root i r lives) ∙ resolved));
  };
  acyclic = λ p. acyclic_by_ends (LevelStrong (start f).rows p) (λ x y z first second. no_edge f.root p x y first);
  doomed = λ i r lives is. absurd (true≢false (sym (ap (λ z. z.doomed) (root_only f.root i r lives) ∙ is)));
  shut = λ i r lives is. absurd (true≢false (sym (ap (λ z. z.shut) (root_only f.root i r lives) ∙ is)));
  static = λ i r d lives resolved. absurd (none_some d (ap (λ z. z.decl) (root_only f.root i r lives) ∙ resolved));
}
