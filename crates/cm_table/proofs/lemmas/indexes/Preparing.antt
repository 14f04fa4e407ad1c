-- The index of declared children, numbered from 0 on, and from any other number on.
use Rattle.std.proofs.Common.{◌≡◌, ℕ, suc, zero, ◌+◌, ◌<◌, subst, List, [], ◌∷◌, ◌++◌, map, length, Bool, true, false, cond, ◌&&◌, Option, Some, None, find, refl, sym, ap, ◌∙◌, arith, take, get_or, le_of_suc-le-suc, add-zero}
use Rattle.std.specs.Prelude.{option_map}
use Rattle.std.proofs.lemmas.List.{take_more, length-take, map-append}
use Rattle.cm_names.specs.declared.child.ChildName.{ChildName}
use Rattle.cm_names.specs.declared.moniker.Moniker.{Moniker}
use Rattle.cm_facts.proofs.Numbers.{eq_self}
use Rattle.cm_decl.specs.declared.rows.Child.{Child}
use Rattle.cm_decl.specs.declared.decl.Decl.{Decl}
use Rattle.cm_decl.specs.Graph.{static_name}
use Rattle.cm_decl.specs.Same.{same_child}
use Rattle.cm_decl.proofs.lemmas.Sameness.{same_child_exact}
use Rattle.cm_decl.specs.Valid.{IsValid}
use Rattle.cm_world.specs.declared.row.Row.{Row}
use Rattle.cm_world.specs.Rows.{child_of}
use Rattle.cm_world.specs.End.{child_row, child_rows}
use Rattle.cm_table.specs.declared.marks.MarksAbove.{MarksAbove}
use Rattle.cm_table.specs.declared.slot.Slot.{Slot}
use Rattle.cm_table.specs.Slots.{rows_in}
use Rattle.cm_table.specs.Numbering.{bare_slot}
use Rattle.cm_table.proofs.lemmas.slots.Rowed.{rows_append}
use Rattle.cm_trees.proofs.rows.Siblings.{IsFresh, AreApart, valid_apart}
use Rattle.cm_table.proofs.lemmas.indexes.Children.{incs, incs_append}
use Rattle.cm_table.proofs.lemmas.indexes.Indexing.{child_pushed}
use Rattle.cm_trees.specs.Reading.{is_there}

-- ---- no child yet

-- A list of numbers that is empty with its numbers raised by a base is empty.
pub no_kids : (base : ℕ) (ks : List ℕ) → map (λ k. base + k) ks ≡ [] → ks ≡ []
no_kids base [] e = refl
no_kids base (k ∷ ks) e = absurd (no_item (base + k) (map (λ j. base + j) ks) e) where
  no_item : (n : ℕ) (ns : List ℕ) → n ∷ ns ≡ [] → ⊥
  no_item n ns same = let one : suc (length ns) ≡ 0 = ap length same in absurd (omega arith)

-- ---- one child more

-- The rows of children with one child more are their rows and the next one's.
rows-push : (p next : ℕ) (ks : List Child) (k : Child) → child_rows p next (ks ++ k ∷ []) ≡ child_rows p next ks ++ child_row p (next + length ks) k ∷ []
rows-push p next [] k = let e : next ≡ next + 0 = omega arith in ap (λ n. child_row p n k ∷ []) e
rows-push p next (x ∷ xs) k =
    let e : next + 1 + length xs ≡ next + suc (length xs) = omega arith in
    ap (λ l. child_row p next x ∷ l) (rows-push p (next + 1) xs k ∙ ap (λ n. child_rows p (next + 1) xs ++ child_row p n k ∷ []) e)

-- The rows of the first children with the next one are theirs and the row of that one.
rows_more : (ks : List Child) (i : ℕ) (d : Child) → i < length ks → child_rows 0 0 (take (i + 1) ks) ≡ child_rows 0 0 (take i ks) ++ child_row 0 i (get_or ks i d) ∷ []
rows_more ks i d lt =
    let long : 0 + length (take i ks) ≡ i = omega (arith, length-take i ks) in
    ap (child_rows 0 0) (take_more ks i d lt) ∙ rows-push 0 0 (take i ks) (get_or ks i d) ∙ ap (λ n. child_rows 0 0 (take i ks) ++ child_row 0 n (get_or ks i d) ∷ []) long

-- With its own number behind the others' the next declared child is among those numbered from 0 on.
pub kids_more : (ks : List Child) (i : ℕ) (d : Child) (old new : List ℕ) → i < length ks → old ≡ incs (child_rows 0 0 (take i ks)) → new ≡ old ++ i ∷ [] → new ≡ incs (child_rows 0 0 (take (i + 1) ks))
kids_more ks i d old new lt before put =
    put ∙ ap (λ l. l ++ i ∷ []) before ∙ sym (ap incs (rows_more ks i d lt) ∙ incs_append (child_rows 0 0 (take i ks)) (child_row 0 i (get_or ks i d) ∷ []))

-- With the slot of one child more, the rows are those of the children so far.
pub rows_pushed : (ks : List Child) (i : ℕ) (k : Child) (ss ts : List Slot) (r : Row) (m : MarksAbove) (kept : Option Moniker) → i < length ks → k ≡ get_or ks i k → rows_in ss ≡ map (child_row 0 0) (take i ks) → ts ≡ ss ++ bare_slot r m kept ∷ [] → r ≡ child_row 0 0 k → rows_in ts ≡ map (child_row 0 0) (take (i + 1) ks)
rows_pushed ks i k ss ts r m kept lt is before put made =
    ap rows_in put ∙ rows_append ss (bare_slot r m kept ∷ []) ∙ ap (λ l. l ++ r ∷ []) before
    ∙ ap (λ x. map (child_row 0 0) (take i ks) ++ x ∷ []) (made ∙ ap (child_row 0 0) is)
    ∙ sym (ap (map (child_row 0 0)) (take_more ks i k lt) ∙ map-append (child_row 0 0) (take i ks) (get_or ks i k ∷ []))

-- ---- names that differ

-- Static children whose texts differ have different names.
name_apart : (a b : List ℕ) → (a ≡ b → ⊥) → same_child (static_name a) (static_name b) ≡ false
name_apart a b differ = by (same_child (static_name a) (static_name b)) refl where
  by : (t : Bool) → same_child (static_name a) (static_name b) ≡ t → t ≡ false
  by true e = absurd (differ (ap (λ (z : ChildName). z.name) (same_child_exact (static_name a) (static_name b) e)))
  by false e = refl

-- Where children are apart, the name of one is none of those before it.
unused : (next i : ℕ) (d : Child) (ks : List Child) → AreApart ks → i < length ks → find (is_there 0 (static_name (get_or ks i d).name)) (child_rows 0 next (take i ks)) ≡ None
unused next i d [] apart lt = absurd (omega arith)
unused next zero d (k ∷ ks) apart lt = refl
unused next (suc i) d (k ∷ ks) apart lt =
    let name : List ℕ = (get_or ks i d).name in
    ap (λ b. cond (true && b && true) (Some (child_row 0 next k)) (find (is_there 0 (static_name name)) (child_rows 0 (next + 1) (take i ks)))) (name_apart k.name name (fresh_at k.name i d ks apart.0 (le_of_suc-le-suc lt)))
    ∙ unused (next + 1) i d ks apart.1 (le_of_suc-le-suc lt) where
      fresh_at : (a : List ℕ) (j : ℕ) (e : Child) (xs : List Child) → IsFresh a xs → j < length xs → a ≡ (get_or xs j e).name → ⊥
      fresh_at a j e [] fresh less = absurd (omega arith)
      fresh_at a zero e (x ∷ xs) fresh less = fresh.0
      fresh_at a (suc j) e (x ∷ xs) fresh less = fresh_at a j e xs fresh.1 (le_of_suc-le-suc less)

-- With its own name put in the next declared child is among those that are found by their names.
pub names_more : (decl : Decl) (ks : List Child) (i : ℕ) (k : Child) (old new : ChildName → Option ℕ) → IsValid decl → ks ≡ decl.children → i < length ks → k ≡ get_or ks i k → ((c : ChildName) → old c ≡ child_of (child_rows 0 0 (take i ks)) 0 c) → ((c : ChildName) → new c ≡ cond (same_child (static_name k.name) c) (Some i) (old c)) → (c : ChildName) → new c ≡ child_of (child_rows 0 0 (take (i + 1) ks)) 0 c
names_more decl ks i k old new valid same lt is before put c =
    let apart : AreApart ks = subst AreApart (sym same) (valid_apart decl valid) in
    let none : child_of (child_rows 0 0 (take i ks)) 0 (static_name k.name) ≡ None =
    ap (λ (z : Child). child_of (child_rows 0 0 (take i ks)) 0 (static_name z.name)) is ∙ ap (option_map (λ r. r.inc)) (unused 0 i k ks apart lt) in
    put c ∙ ap (cond (same_child (static_name k.name) c) (Some i)) (before c)
    ∙ sym (ap (λ l. child_of l 0 c) (rows_more ks i k lt ∙ ap (λ z. child_rows 0 0 (take i ks) ++ child_row 0 i z ∷ []) (sym is))
    ∙ child_pushed (child_rows 0 0 (take i ks)) 0 (static_name k.name) c (child_row 0 i k) (record { under = refl; named = refl; alive = refl }) none)

-- ---- from another number on

-- Numbers of declared children from one on, raised by a number, are those from the raised one on.
pub kids_from : (p first a : ℕ) (ks : List Child) → map (λ k. first + k) (incs (child_rows 0 a ks)) ≡ incs (child_rows p (first + a) ks)
kids_from p first a [] = refl
kids_from p first a (k ∷ ks) =
    let e : first + (a + 1) ≡ first + a + 1 = omega arith in
    ap (λ l. (first + a) ∷ l) (kids_from p first (a + 1) ks ∙ ap (λ n. incs (child_rows p n ks)) e)

-- The row found from a number on is that found from 0 on, so much further, if so in the rest.
from_by : (t : Bool) (p first a : ℕ) (k : Child) (o q : Option Row) → option_map (λ n. first + n) (option_map (λ r. r.inc) o) ≡ option_map (λ r. r.inc) q → option_map (λ n. first + n) (option_map (λ r. r.inc) (cond (true && t && true) (Some (child_row 0 a k)) o)) ≡ option_map (λ r. r.inc) (cond (true && t && true) (Some (child_row p (first + a) k)) q)
from_by true p first a k o q e = refl
from_by false p first a k o q e = e

-- The child of a name, numbered from one on and raised, is that numbered from the raised one on.
pub names_from : (p first a : ℕ) (c : ChildName) (ks : List Child) → option_map (λ n. first + n) (child_of (child_rows 0 a ks) 0 c) ≡ child_of (child_rows p (first + a) ks) p c
names_from p first a c [] = refl
names_from p first a c (k ∷ ks) =
    let e : first + (a + 1) ≡ first + a + 1 = omega arith in
    from_by (same_child (static_name k.name) c) p first a k (find (is_there 0 c) (child_rows 0 (a + 1) ks)) (find (is_there p c) (child_rows p (first + a + 1) ks))
    (names_from p first (a + 1) c ks ∙ ap (λ n. child_of (child_rows p n ks) p c) e)
    ∙ sym (ap (λ b. option_map (λ r. r.inc) (cond (b && same_child (static_name k.name) c && true) (Some (child_row p (first + a) k)) (find (is_there p c) (child_rows p (first + a + 1) ks)))) (eq_self p))

-- Numbers of declared children from 0 on, raised by a first one, are those from that one on.
pub kids_first : (p first : ℕ) (ks : List Child) → map (λ k. first + k) (incs (child_rows 0 0 ks)) ≡ incs (child_rows p first ks)
kids_first p first ks = kids_from p first 0 ks ∙ ap (λ n. incs (child_rows p n ks)) (add-zero first)

-- The child of a name, numbered from 0 on and raised by a first number, is that numbered from it on.
pub names_first : (p first : ℕ) (c : ChildName) (ks : List Child) → option_map (λ n. first + n) (child_of (child_rows 0 0 ks) 0 c) ≡ child_of (child_rows p first ks) p c
names_first p first c ks = names_from p first 0 c ks ∙ ap (λ n. child_of (child_rows p n ks) p c) (add-zero first)
