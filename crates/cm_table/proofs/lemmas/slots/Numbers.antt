-- Slots that get their numbers.
use Rattle.std.proofs.Common.{◌≡◌, ℕ, suc, ◌+◌, ◌<◌, List, [], ◌∷◌, ◌++◌, map, length, refl, sym, ap, ◌∙◌, arith, append_assoc, get_or, set, take, drop}
use Rattle.std.proofs.lemmas.List.{length-take, get_or_at, set_at, drop_more, take_more}
use Rattle.cm_decl.specs.declared.rows.Child.{Child}
use Rattle.cm_world.specs.declared.row.Row.{Row}
use Rattle.cm_world.specs.End.{child_row, child_rows}
use Rattle.cm_table.specs.declared.marks.MarksAbove.{MarksAbove}
use Rattle.cm_table.specs.declared.slot.Slot.{Slot}
use Rattle.cm_table.specs.Keys.{EachItem}
use Rattle.cm_table.specs.Slots.{rows_in}
use Rattle.cm_table.specs.Numbering.{placed, placed_slot, numbered, IsBare, HasMarks}
use Rattle.cm_table.specs.Monikers.{HasOwnName}

-- The rows with this parent, and with increasing incarnations from the first on.
abbrev pub numbered_rows : ℕ → ℕ → List Row → List Row
numbered_rows p first [] = []
numbered_rows p first (r ∷ rs) = placed p first r ∷ numbered_rows p (first + 1) rs

-- The rows of slots that get their numbers are their rows with these numbers.
rows-numbered : (p first : ℕ) (m : MarksAbove) (ss : List Slot) → rows_in (numbered p first m ss) ≡ numbered_rows p first (rows_in ss)
rows-numbered p first m [] = refl
rows-numbered p first m (s ∷ ss) = ap (λ l. placed p first s.row ∷ l) (rows-numbered p (first + 1) m ss)

-- Children's rows that get their numbers are the children's rows from the first number on.
numbered-children : (p first : ℕ) (ks : List Child) → numbered_rows p first (map (child_row 0 0) ks) ≡ child_rows p first ks
numbered-children p first [] = refl
numbered-children p first (k ∷ ks) = ap (λ rs. child_row p first k ∷ rs) (numbered-children p (first + 1) ks)

-- Slots of declared children that get their numbers have the rows of those children.
pub rows_of_numbered : (p first : ℕ) (m : MarksAbove) (ss : List Slot) (ks : List Child) → rows_in ss ≡ map (child_row 0 0) ks → rows_in (numbered p first m ss) ≡ child_rows p first ks
rows_of_numbered p first m ss ks e = rows-numbered p first m ss ∙ ap (numbered_rows p first) e ∙ numbered-children p first ks

-- Slots without indexes have none either once they have their numbers.
pub bare_numbered : (p first : ℕ) (m : MarksAbove) (ss : List Slot) → EachItem IsBare ss → EachItem IsBare (numbered p first m ss)
bare_numbered p first m [] bare = tt
bare_numbered p first m (s ∷ ss) bare = (bare.0, bare_numbered p (first + 1) m ss bare.1)

-- Slots that get their numbers have exactly the kept marks that they get with these.
pub marks_numbered : (p first : ℕ) (m : MarksAbove) (ss : List Slot) → EachItem (HasMarks m) (numbered p first m ss)
marks_numbered p first m [] = tt
marks_numbered p first m (s ∷ ss) = (refl, marks_numbered p (first + 1) m ss)

-- Slots that keep their rows' own names alone still do once they have their numbers.
pub own_numbered : (p first : ℕ) (m : MarksAbove) (ss : List Slot) → EachItem HasOwnName ss → EachItem HasOwnName (numbered p first m ss)
own_numbered p first m [] own = tt
own_numbered p first m (s ∷ ss) own = ((λ n h. own.0 n h), own_numbered p (first + 1) m ss own.1)

-- There are as many rows of declared children as children.
pub length-child_rows : (parent first : ℕ) (ks : List Child) → length (child_rows parent first ks) ≡ length ks
length-child_rows parent first [] = refl
length-child_rows parent first (k ∷ ks) = ap suc (length-child_rows parent (first + 1) ks)

-- One slot more gets the next number behind those that got theirs.
numbered-push : (parent first : ℕ) (m : MarksAbove) (rs : List Slot) (r : Slot) → numbered parent first m (rs ++ r ∷ []) ≡ numbered parent first m rs ++ placed_slot parent (first + length rs) m r ∷ []
numbered-push parent first m [] r = let e : first + 0 ≡ first = omega arith in rw e refl
numbered-push parent first m (x ∷ rs) r =
    let e : first + 1 + length rs ≡ first + suc (length rs) = omega arith in
    ap (λ zs. placed_slot parent first m x ∷ zs) (numbered-push parent (first + 1) m rs r ∙ ap (λ n. numbered parent (first + 1) m rs ++ placed_slot parent n m r ∷ []) e)

-- As many slots as there are get their numbers.
length-numbered : (parent first : ℕ) (m : MarksAbove) (rs : List Slot) → length (numbered parent first m rs) ≡ length rs
length-numbered parent first m [] = refl
length-numbered parent first m (r ∷ rs) = ap suc (length-numbered parent (first + 1) m rs)

-- The first slots and the next one, numbered, are those numbered and the next with its number.
numbered_more : (parent first : ℕ) (m : MarksAbove) (xs : List Slot) (i : ℕ) (d : Slot) → i < length xs → numbered parent first m (take (i + 1) xs) ≡ numbered parent first m (take i xs) ++ placed_slot parent (first + i) m (get_or xs i d) ∷ []
numbered_more parent first m xs i d lt =
    let long : first + length (take i xs) ≡ first + i = omega (arith, length-take i xs) in
    ap (numbered parent first m) (take_more xs i d lt)
    ∙ numbered-push parent first m (take i xs) (get_or xs i d)
    ∙ ap (λ n. numbered parent first m (take i xs) ++ placed_slot parent n m (get_or xs i d) ∷ []) long

-- a loop that numbers each row
pub numbered_over_more : (parent first : ℕ) (m : MarksAbove) (xs ys : List Slot) (i : ℕ) (x : Slot) → i < length xs → ys ≡ numbered parent first m (take i xs) ++ drop i xs → x ≡ get_or ys i x → set ys i (placed_slot parent (first + i) m x) ≡ numbered parent first m (take (i + 1) xs) ++ drop (i + 1) xs
numbered_over_more parent first m xs ys i x lt h is =
    let prefix : List Slot = numbered parent first m (take i xs) in
    let long : length prefix ≡ i = length-numbered parent first m (take i xs) ∙ omega (arith, length-take i xs) in
    let parts : ys ≡ prefix ++ get_or xs i x ∷ drop (i + 1) xs = h ∙ ap (λ l. prefix ++ l) (drop_more xs i x lt) in
    let read : x ≡ get_or xs i x = is ∙ ap (λ l. get_or l i x) parts ∙ get_or_at prefix _ _ x i long in
    ap (λ l. set l i (placed_slot parent (first + i) m x)) parts ∙ set_at prefix _ _ (placed_slot parent (first + i) m x) i long ∙ sym (append_assoc prefix (placed_slot parent (first + i) m x ∷ []) _)
    ∙ ap (λ l. l ++ drop (i + 1) xs) (ap (λ y. prefix ++ placed_slot parent (first + i) m y ∷ []) read ∙ sym (numbered_more parent first m xs i x lt))
