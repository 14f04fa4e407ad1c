-- Names that get others before them, slot by slot.
use Rattle.std.proofs.Common.{◌≡◌, ℕ, suc, ◌+◌, ◌<◌, List, [], ◌∷◌, ◌++◌, map, length, Option, Some, None, option_to_list, refl, sym, ◌∙◌, ap, subst, arith, append_assoc, get_or, set}
use Rattle.std.specs.Prelude.{IfSome}
use Rattle.std.proofs.lemmas.List.{length-append, get_or_at, set_at, map-append}
use Rattle.cm_names.specs.declared.moniker.Moniker.{Moniker}
use Rattle.cm_facts.proofs.Lists.{length_one_more}
use Rattle.cm_world.proofs.lemmas.trees.Finding.{none_some, some_same}
use Rattle.cm_table.specs.declared.slot.Slot.{Slot}
use Rattle.cm_table.specs.Keys.{EachItem}
use Rattle.cm_table.specs.Monikers.{HasOwnName, IsMonikerBelow, IsHung, unhung}
use Rattle.cm_table.specs.Slots.{rows_in}
use Rattle.cm_table.proofs.lemmas.lists.EachItem.{each_append}

-- the first so many slots are done, of slots that were these but for what is kept of where rows stand
pub record AreHung (above : Option Moniker) (first now : List Slot) (i : ℕ) : Type 0 where
  pub done : List Slot
  pub left : List Slot
  pub parts : now ≡ done ++ left
  pub long : length done ≡ i
  pub same : map unhung now ≡ map unhung first
  pub below : EachItem (IsMonikerBelow above) done
  pub own : EachItem HasOwnName left

-- At first no slot is hung, where each keeps its row's own name alone.
pub none_hung : (above : Option Moniker) (first : List Slot) → EachItem HasOwnName first → AreHung above first first 0
none_hung above first own = record { done = []; left = first; parts = refl; long = refl; same = refl; below = tt; own = own }

-- Where nothing is left behind the slots that are done, no place is left.
no_left : (now done : List Slot) (i : ℕ) → now ≡ done ++ [] → length done ≡ i → i < length now → ⊥
no_left now done i parts long lt =
    let e : length now ≡ length done + 0 = ap length parts ∙ length-append done [] in absurd (omega arith)

-- The slot at the next place is the first of those that are left.
own_by : (above : Option Moniker) (now done left : List Slot) (i : ℕ) (x : Slot) → now ≡ done ++ left → length done ≡ i → EachItem HasOwnName left → i < length now → x ≡ get_or now i x → (rest : List Slot) × (left ≡ x ∷ rest)
own_by above now done [] i x parts long own lt is = absurd (no_left now done i parts long lt)
own_by above now done (s ∷ rest) i x parts long own lt is = (rest, ap (λ z. z ∷ rest) (sym (is ∙ ap (λ l. get_or l i x) parts ∙ get_or_at done s rest x i long)))

-- The next slot that isn't hung yet keeps its row's own name alone.
pub next_own : (above : Option Moniker) (first now : List Slot) (i : ℕ) (x : Slot) → AreHung above first now i → i < length now → x ≡ get_or now i x → HasOwnName x
next_own above first now i x h lt is =
    let q : (rest : List Slot) × (h.left ≡ x ∷ rest) = own_by above now h.done h.left i x h.parts h.long h.own lt is in
    (subst (EachItem HasOwnName) q.1 h.own).0

-- Where the next slot gets a moniker below the one above, one slot more is hung.
pub one_more_hung : (above : Option Moniker) (first now : List Slot) (i : ℕ) (x y : Slot) → AreHung above first now i → i < length now → x ≡ get_or now i x → unhung y ≡ unhung x → IsMonikerBelow above y → AreHung above first (set now i y) (i + 1)
one_more_hung above first now i x y h lt is same below =
    let q : (rest : List Slot) × (h.left ≡ x ∷ rest) = own_by above now h.done h.left i x h.parts h.long h.own lt is in
    let was : now ≡ h.done ++ x ∷ q.0 = h.parts ∙ ap (λ l. h.done ++ l) q.1 in
    let put : set now i y ≡ h.done ++ y ∷ q.0 = ap (λ l. set l i y) was ∙ set_at h.done x q.0 y i h.long in
    record {
      done = h.done ++ y ∷ [];
      left = q.0;
      parts = put ∙ sym (append_assoc h.done (y ∷ []) q.0);
      long = length_one_more h.done y i h.long;
      same = ap (map unhung) put ∙ map-append unhung h.done (y ∷ q.0) ∙ ap (λ z. map unhung h.done ++ z ∷ map unhung q.0) same
          ∙ sym (ap (map unhung) was ∙ map-append unhung h.done (x ∷ q.0)) ∙ h.same;
      below = each_append (IsMonikerBelow above) h.done (y ∷ []) h.below (below, tt);
      own = (subst (EachItem HasOwnName) q.1 h.own).1;
    }

-- Where as many slots are done as there are, each slot has the names above and its own.
all_by : (above : Option Moniker) (now done left : List Slot) → now ≡ done ++ left → length done ≡ length now → EachItem (IsMonikerBelow above) done → EachItem (IsMonikerBelow above) now
all_by above now done [] parts long below = subst (EachItem (IsMonikerBelow above)) (sym (parts ∙ nil done)) below where
  nil : (l : List Slot) → l ++ [] ≡ l
  nil [] = refl
  nil (x ∷ xs) = ap (λ m. x ∷ m) (nil xs)
all_by above now done (s ∷ rest) parts long below =
    let e : length now ≡ length done + suc (length rest) = ap length parts ∙ length-append done (s ∷ rest) in absurd (omega arith)

-- Where all slots are hung, each moniker that is kept is below the one above.
pub all_hung : (above : Option Moniker) (first now : List Slot) (i : ℕ) → AreHung above first now i → i ≡ length now → EachItem (IsMonikerBelow above) now
all_hung above first now i h done = all_by above now h.done h.left h.parts (h.long ∙ done) h.below

-- ---- what stays

-- Slots without what is kept of where they stand have the same rows.
rows_unhung : (ss : List Slot) → map (λ s. s.row) (map unhung ss) ≡ rows_in ss
rows_unhung [] = refl
rows_unhung (s ∷ ss) = ap (λ l. s.row ∷ l) (rows_unhung ss)

-- Slots that are alike but for where they stand have the same rows.
pub rows_hung : (ss zs : List Slot) → map unhung zs ≡ map unhung ss → rows_in zs ≡ rows_in ss
rows_hung ss zs e = sym (rows_unhung zs) ∙ ap (map (λ s. s.row)) e ∙ rows_unhung ss

-- What holds of slots holds of them without their monikers, where it does for each.
into : (P : Slot → Type 0) (ss : List Slot) → ((s : Slot) → P s → P (unhung s)) → EachItem P ss → EachItem P (map unhung ss)
into P [] f all = tt
into P (s ∷ ss) f all = (f s all.0, into P ss f all.1)

-- What holds of slots without their monikers holds of the slots, where it does for each.
back : (P : Slot → Type 0) (ss : List Slot) → ((s : Slot) → P (unhung s) → P s) → EachItem P (map unhung ss) → EachItem P ss
back P [] f all = tt
back P (s ∷ ss) f all = (f s all.0, back P ss f all.1)

-- What doesn't depend on where slots stand holds of all slots that are alike but for that.
pub each_hung : (P : Slot → Type 0) (ss zs : List Slot) → ((s : Slot) → P s → P (unhung s)) → ((s : Slot) → P (unhung s) → P s) → map unhung zs ≡ map unhung ss → EachItem P ss → EachItem P zs
each_hung P ss zs f g e all = back P zs g (subst (EachItem P) (sym e) (into P ss f all))

-- ---- one slot

-- A name that was hung below others has those names, then the slot's own.
hung_by : (above own : Option Moniker) (r : Option Moniker) (s : Slot) (m : Moniker) → IfSome r (IsHung above own) → own ≡ s.moniker → HasOwnName s → r ≡ Some m → (w : Moniker) × (above ≡ Some w) × (m.parts ≡ w.parts ++ option_to_list s.row.name)
hung_by above own None s m hung is has e = absurd (none_some m e)
hung_by above own (Some n) s m hung is has e =
    (hung.0, hung.2, ap (λ (z : Moniker). z.parts) (sym (some_same n m e)) ∙ hung.4 ∙ ap (λ l. hung.0.parts ++ l) (has hung.1 (sym is ∙ hung.3)))

-- A slot with its own name behind the names above stands below these.
pub hung_below : (above own : Option Moniker) (r : Option Moniker) (s : Slot) → IfSome r (IsHung above own) → own ≡ s.moniker → HasOwnName s → IsMonikerBelow above (record s { moniker = r })
hung_below above own r s hung is has m e = hung_by above own r s m hung is has e
