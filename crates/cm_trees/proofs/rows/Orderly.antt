-- Changes of one row that leave the rows orderly.
use Rattle.std.proofs.Common.{◌≡◌, ℕ, List, false, Some, None, IsSome, sym, ◌∙◌, ap, subst, inl, inr, ◌⊎◌}
use Rattle.cm_decl.specs.declared.decl.Decl.{Decl}
use Rattle.cm_decl.specs.Valid.{IsValid}
use Rattle.cm_world.specs.declared.row.Row.{Row}
use Rattle.cm_world.specs.Rows.{row_of}
use Rattle.cm_world.specs.End.{changed}
use Rattle.cm_world.specs.Sound.{IsOrderly, IsParent}
use Rattle.cm_trees.proofs.rows.Rows.{Was, was_before, Becomes, becomes_after, increasing_changed}

-- a change that keeps a row's place, and brings no invalid declaration
pub record IsKeeping (f : Row → Row) : Type 0 where
  pub inc : (r : Row) → (f r).inc ≡ r.inc
  pub parent : (r : Row) → (f r).parent ≡ r.parent
  pub name : (r : Row) → (f r).name ≡ r.name
  pub doomed : (r : Row) → (f r).doomed ≡ false → r.doomed ≡ false
  pub resolved : (r : Row) → IsSome r.decl → IsSome (f r).decl
  pub valid : (r : Row) (d : Decl) → (f r).decl ≡ Some d → (r.decl ≡ Some d) ⊎ IsValid d

-- A change that keeps a row's place leaves its parent, whether it was made or not.
pub kept_parent : (f : Row → Row) → IsKeeping f → (s r : Row) → (s ≡ r) ⊎ (s ≡ f r) → s.parent ≡ r.parent
kept_parent f k s r (inl e) = ap (λ z. z.parent) e
kept_parent f k s r (inr e) = ap (λ z. z.parent) e ∙ k.parent r

-- A change that keeps a row's place leaves its name, whether it was made or not.
pub kept_name : (f : Row → Row) → IsKeeping f → (s r : Row) → (s ≡ r) ⊎ (s ≡ f r) → s.name ≡ r.name
kept_name f k s r (inl e) = ap (λ z. z.name) e
kept_name f k s r (inr e) = ap (λ z. z.name) e ∙ k.name r

-- A row that isn't doomed, before or behind a change that keeps its place, wasn't doomed.
kept_doomed : (f : Row → Row) → IsKeeping f → (s r : Row) → (s ≡ r) ⊎ (s ≡ f r) → s.doomed ≡ false → r.doomed ≡ false
kept_doomed f k s r (inl e) h = sym (ap (λ z. z.doomed) e) ∙ h
kept_doomed f k s r (inr e) h = k.doomed r (sym (ap (λ z. z.doomed) e) ∙ h)

-- A row that was resolved is so before and behind a change that keeps its place.
kept_resolved : (f : Row → Row) → IsKeeping f → (s r : Row) → (s ≡ r) ⊎ (s ≡ f r) → IsSome r.decl → IsSome s.decl
kept_resolved f k s r (inl e) h = subst (λ (z : Row). IsSome z.decl) (sym e) h
kept_resolved f k s r (inr e) h = subst (λ (z : Row). IsSome z.decl) (sym e) (k.resolved r h)

-- A declaration that is the row's own, if that is valid, or valid itself, is valid.
valid_either : (r : Row) (d : Decl) → (r.decl ≡ Some d → IsValid d) → (r.decl ≡ Some d) ⊎ IsValid d → IsValid d
valid_either r d own (inl e) = own e
valid_either r d own (inr v) = v

-- A declaration before or behind a change that keeps a row's place is valid, if the row's is.
kept_valid : (f : Row → Row) → IsKeeping f → (s r : Row) (d : Decl) → (s ≡ r) ⊎ (s ≡ f r) → (r.decl ≡ Some d → IsValid d) → s.decl ≡ Some d → IsValid d
kept_valid f k s r d (inl e) own h = own (sym (ap (λ z. z.decl) e) ∙ h)
kept_valid f k s r d (inr e) own h = valid_either r d own (k.valid r d (sym (ap (λ z. z.decl) e) ∙ h))

-- A changed row without parent is the root, with no name.
changed_root : (f : Row → Row) → IsKeeping f → (rows : List Row) (next i : ℕ) (s : Row) → IsOrderly rows next → Was f (row_of rows i) s → s.parent ≡ None → (i ≡ 0) × (s.name ≡ None)
changed_root f k rows next i s o w none =
    let r : (i ≡ 0) × (w.row.name ≡ None) = o.root i w.row w.was (sym (kept_parent f k s w.row w.is) ∙ none) in
    (r.0, kept_name f k s w.row w.is ∙ r.1)

-- A changed row with a parent has one that lives among the changed rows, and has a name.
changed_parents : (f : Row → Row) → IsKeeping f → (rows : List Row) (next t i p : ℕ) (s : Row) → IsOrderly rows next → Was f (row_of rows i) s → s.parent ≡ Some p → IsParent (changed t f rows) p i × IsSome s.name
changed_parents f k rows next t i p s o w up =
    let q : IsParent rows p i × IsSome w.row.name = o.parents i p w.row w.was (sym (kept_parent f k s w.row w.is) ∙ up) in
    let b : Becomes f (row_of (changed t f rows) p) q.0.row = becomes_after t f k.inc rows p q.0.row q.0.lives in (
      record { row = b.row; lives = b.lives; resolved = kept_resolved f k b.row q.0.row b.is q.0.resolved; lower = q.0.lower },
      subst IsSome (sym (kept_name f k s w.row w.is)) q.1,
    )

-- Changed rows that are alike in parent and name, and not doomed, are one.
changed_names : (f : Row → Row) → IsKeeping f → (rows : List Row) (next i j : ℕ) (r s : Row) → IsOrderly rows next → Was f (row_of rows i) r → Was f (row_of rows j) s → r.doomed ≡ false → s.doomed ≡ false → r.parent ≡ s.parent → r.name ≡ s.name → i ≡ j
changed_names f k rows next i j r s o w v dr ds up same =
    o.one_name i j w.row v.row w.was v.was (kept_doomed f k r w.row w.is dr) (kept_doomed f k s v.row v.is ds)
    (sym (kept_parent f k r w.row w.is) ∙ up ∙ kept_parent f k s v.row v.is)
    (sym (kept_name f k r w.row w.is) ∙ same ∙ kept_name f k s v.row v.is)

-- rows stay orderly where such a change is made at one of them
pub orderly_changed : (f : Row → Row) → IsKeeping f → (t next : ℕ) (rows : List Row) → IsOrderly rows next → IsOrderly (changed t f rows) next
orderly_changed f k t next rows o = record {
  increasing = increasing_changed t next f k.inc rows o.increasing;
  root = λ i s lives. changed_root f k rows next i s o (was_before t f k.inc rows i s lives);
  parents = λ i p s lives. changed_parents f k rows next t i p s o (was_before t f k.inc rows i s lives);
  one_name = λ i j r s here there. changed_names f k rows next i j r s o (was_before t f k.inc rows i r here) (was_before t f k.inc rows j s there);
  valid = λ i s d lives. let w : Was f (row_of rows i) s = was_before t f k.inc rows i s lives in
      kept_valid f k s w.row d w.is (o.valid i w.row d w.was);
}
