-- The rows of a report, told one by one.
use Rattle.std.proofs.Common.{◌≡◌, ℕ, zero, suc, ◌+◌, ◌-◌, ◌<◌, ◌≤◌, List, [], ◌∷◌, ◌++◌, Bool, true, false, cond, Option, Some, None, IsSome, length, map, filter, reverse, option_map, option_to_list, refl, sym, ◌∙◌, ap, subst, arith, append_assoc, append-nil, length-append}
use Rattle.std.specs.List.{flat_map, filter_map}
use Rattle.std.specs.Option.{option_map_or}
use Rattle.std.proofs.lemmas.Grind.{flat_map-append}
use Rattle.std.proofs.lemmas.List.{reverse-append, reverse-reverse}
use Rattle.std.proofs.lemmas.Bool.{lt-ltb}
use Rattle.cm_facts.proofs.Options.{option_eq_some}
use Rattle.cm_world.specs.declared.row.Row.{Row}
use Rattle.cm_world.specs.Rows.{row_of, has_doomed, is_resolved, has_parent}
use Rattle.cm_world.specs.Sound.{Lives, IncarnationsIncrease, IsOrderly, IsParent}
use Rattle.cm_world.proofs.lemmas.trees.Climbing.{rank, rank-less, rank-within}
use Rattle.cm_world.proofs.lemmas.trees.Finding.{row_of-inc}
use Rattle.cm_walk.proofs.lemmas.descents.Behind.{behind, lives_on, taken_more, taken_first, taken_all, made_of, next_of}
use Rattle.cm_env.specs.Rows.{children_of, told_itself, told_below, told_from, told_rows}
use Rattle.cm_trees.proofs.rows.Finding.{first_row, later_row}

-- ---- what holds of each item

-- Something holds of each item of a list.
abbrev pub Each : {A : Type 0} → (A → Type 0) → List A → Type 0
Each P [] = Unit {0}
Each P (x ∷ xs) = P x × Each P xs

-- Two functions that agree on the items of a list give the same, put together over it.
flat_each : {B : Type 0} (f g : ℕ → List B) (P : ℕ → Type 0) (xs : List ℕ) → Each P xs → ((x : ℕ) → P x → f x ≡ g x) → flat_map f xs ≡ flat_map g xs
flat_each f g P [] each same = refl
flat_each f g P (x ∷ xs) each same = ap (λ l. l ++ flat_map f xs) (same x each.0) ∙ ap (λ l. g x ++ l) (flat_each f g P xs each.1 same)

-- What is put together over a list is nothing, where no item of it can be.
flat_never : {B : Type 0} (f : ℕ → List B) (P : ℕ → Type 0) (xs : List ℕ) → Each P xs → ((x : ℕ) → P x → ⊥) → flat_map f xs ≡ []
flat_never f P [] each never = refl
flat_never f P (x ∷ xs) each never = absurd (never x each.0)

-- ---- rows live

-- What holds of each item holds as something else, where the one implies the other.
each_map : {A : Type 0} (P Q : A → Type 0) (xs : List A) → ((x : A) → P x → Q x) → Each P xs → Each Q xs
each_map P Q [] more each = tt
each_map P Q (x ∷ xs) more each = (more x each.0, each_map P Q xs more each.1)

-- Where incarnations increase, each row of the tree is the one found by its incarnation.
pub all_live : (rows : List Row) (next : ℕ) → IncarnationsIncrease next rows → Each (λ r. row_of rows r.inc ≡ Some r) rows
all_live [] next increasing = tt
all_live (x ∷ xs) next increasing =
    (first_row x xs, each_map (λ s. row_of xs s.inc ≡ Some s) (λ s. row_of (x ∷ xs) s.inc ≡ Some s) xs (λ s lives. later_row next x s xs increasing lives) (all_live xs next increasing.1))

-- What follows of each row that passes a test holds of the incarnations of all that pass it.
pub each_kid : (p : Row → Bool) (P : Row → Type 0) (Q : ℕ → Type 0) (xs : List Row) → ((r : Row) → P r → p r ≡ true → Q r.inc) → Each P xs → Each Q (map (λ r. r.inc) (filter p xs))
each_kid p P Q [] more each = tt
each_kid p P Q (x ∷ xs) more each = by (p x) refl (each_kid p P Q xs more each.1) where
  by : (t : Bool) → p x ≡ t → Each Q (map (λ r. r.inc) (filter p xs)) → Each Q (map (λ r. r.inc) (cond t (x ∷ filter p xs) (filter p xs)))
  by true here rest = (more x each.0 here, rest)
  by false here rest = rest

-- a child has more rows below its incarnation than its parent, and fewer than there are
abbrev pub IsKid : List Row → ℕ → ℕ → Type 0
IsKid rows i j = (rank rows i < rank rows j) × (rank rows j < length rows)

-- What a row that lives has as its parent is there, with a lower incarnation, in orderly rows.
pub kid_parent : (rows : List Row) (next i : ℕ) (r : Row) → IsOrderly rows next → row_of rows r.inc ≡ Some r → has_parent i r ≡ true → IsParent rows i r.inc
kid_parent rows next i r orderly lives below = (orderly.parents r.inc i r lives (option_eq_some r.parent i below)).0

-- In orderly rows a child has more rows before it than its parent, and fewer than there are.
kid : (rows : List Row) (next i : ℕ) (r : Row) → IsOrderly rows next → row_of rows r.inc ≡ Some r → has_parent i r ≡ true → IsKid rows i r.inc
kid rows next i r orderly lives below =
    let parent : IsParent rows i r.inc = kid_parent rows next i r orderly lives below in
    (rank-less rows i r.inc parent.row parent.lower parent.lives, rank-within rows r.inc r lives)

-- In orderly rows, all children of a row are further behind it and within the rows.
kids : (rows : List Row) (next i : ℕ) → IsOrderly rows next → Each (IsKid rows i) (children_of rows i)
kids rows next i orderly =
    each_kid (has_parent i) (λ r. row_of rows r.inc ≡ Some r) (IsKid rows i) rows (λ r lives below. kid rows next i r orderly lives below) (all_live rows next orderly.increasing)

-- The children of a row, if they aren't left out, are further behind it and within the rows.
below_by : (t : Bool) (rows : List Row) (i : ℕ) → Each (IsKid rows i) (children_of rows i) → Each (IsKid rows i) (cond t [] (children_of rows i))
below_by true rows i each = tt
below_by false rows i each = each

-- In orderly rows, the rows that a report goes on to below a row are children of it.
told_kids : (rows : List Row) (next i : ℕ) → IsOrderly rows next → Each (IsKid rows i) (told_below rows i)
told_kids rows next i orderly = below_by (has_doomed rows i) rows i (kids rows next i orderly)

-- ---- down the tree

-- what is told of a row and of those at most n levels below it, by what is told of one
abbrev pub down : {B : Type 0} → (ℕ → List B) → ℕ → List Row → ℕ → List B
down own zero rows i = own i
down own (suc n) rows i = own i ++ flat_map (down own n rows) (told_below rows i)

-- more levels than there are rows above it change nothing
down_enough : {B : Type 0} (own : ℕ → List B) (rows : List Row) (next n m i : ℕ) → IsOrderly rows next → length rows ≤ n + rank rows i → length rows ≤ m + rank rows i → down own n rows i ≡ down own m rows i
down_enough own rows next zero zero i orderly low high = refl
down_enough own rows next zero (suc m) i orderly low high =
    sym (append-nil (own i)) ∙ ap (λ l. own i ++ l) (sym (flat_never (down own m rows) (IsKid rows i) (told_below rows i) (told_kids rows next i orderly) (λ j k. omega arith)))
down_enough own rows next (suc n) zero i orderly low high =
    ap (λ l. own i ++ l) (flat_never (down own n rows) (IsKid rows i) (told_below rows i) (told_kids rows next i orderly) (λ j k. omega arith)) ∙ append-nil (own i)
down_enough own rows next (suc n) (suc m) i orderly low high =
    ap (λ l. own i ++ l) (flat_each (down own n rows) (down own m rows) (IsKid rows i) (told_below rows i) (told_kids rows next i orderly)
    (λ j k. down_enough own rows next n m j orderly (less (rank rows i) (rank rows j) (length rows) n k.0 low) (less (rank rows i) (rank rows j) (length rows) m k.0 high)))
  where
    less : (a b l n : ℕ) → a < b → l ≤ suc n + a → l ≤ n + b
    less a b l n up h = omega arith

-- what is told of a row and all below it is what is told of it, and of where a report goes on
pub down_step : {B : Type 0} (own : ℕ → List B) (rows : List Row) (next i : ℕ) → IsOrderly rows next → down own (length rows) rows i ≡ own i ++ flat_map (down own (length rows) rows) (told_below rows i)
down_step own rows next i orderly =
    down_enough own rows next (length rows) (suc (length rows)) i orderly (omega arith) (omega arith)

-- The rows that a report tells of are those told of one by one, down the tree.
told_down : (n : ℕ) (rows : List Row) (i : ℕ) → told_from n rows i ≡ down (told_itself rows) n rows i
told_down zero rows i = refl
told_down (suc n) rows i = ap (λ l. told_itself rows i ++ l) (flat_same (told_from n rows) (down (told_itself rows) n rows) (told_below rows i) (told_down n rows))
  where
    flat_same : (f g : ℕ → List ℕ) (xs : List ℕ) → ((x : ℕ) → f x ≡ g x) → flat_map f xs ≡ flat_map g xs
    flat_same f g [] same = refl
    flat_same f g (x ∷ xs) same = ap (λ l. l ++ flat_map f xs) (same x) ∙ ap (λ l. g x ++ l) (flat_same f g xs same)

-- ---- the loop: what has been told, and what is ahead, the next one last

-- What will be told of the rows that are ahead, the last of them first, with all below them.
abbrev pub ahead_text : {B : Type 0} → (ℕ → List B) → List Row → List ℕ → List B
ahead_text own rows ahead = flat_map (down own (length rows) rows) (reverse ahead)

-- what is told of what is ahead, behind one turn
pub popped : {B : Type 0} (own : ℕ → List B) (rows : List Row) (next i : ℕ) (ahead rest more : List ℕ) → IsOrderly rows next → ahead ≡ rest ++ i ∷ [] → more ≡ rest ++ reverse (told_below rows i) → ahead_text own rows ahead ≡ own i ++ ahead_text own rows more
popped own rows next i ahead rest more orderly was is =
    let down_all : ℕ → List _ = down own (length rows) rows in
    let first : reverse ahead ≡ i ∷ reverse rest = ap reverse was ∙ reverse-append rest (i ∷ []) in
    let second : reverse more ≡ told_below rows i ++ reverse rest = ap reverse is ∙ reverse-append rest (reverse (told_below rows i)) ∙ ap (λ l. l ++ reverse rest) (reverse-reverse (told_below rows i)) in
    ap (flat_map down_all) first
    ∙ ap (λ l. l ++ flat_map down_all (reverse rest)) (down_step own rows next i orderly)
    ∙ append_assoc (own i) (flat_map down_all (told_below rows i)) (flat_map down_all (reverse rest))
    ∙ ap (λ l. own i ++ l) (sym (flat_map-append down_all (told_below rows i) (reverse rest)))
    ∙ ap (λ l. own i ++ flat_map down_all l) (sym second)

-- With no row found and the root ahead, what will be found are the rows that a report tells of.
pub told_first : (rows : List Row) (found ahead : List ℕ) → found ≡ [] → ahead ≡ 0 ∷ [] → found ++ ahead_text (told_itself rows) rows ahead ≡ told_rows rows
told_first rows found ahead none one =
    ap (λ l. l ++ ahead_text (told_itself rows) rows ahead) none
    ∙ ap (λ l. ahead_text (told_itself rows) rows l) one
    ∙ append-nil (down (told_itself rows) (length rows) rows 0)
    ∙ sym (told_down (length rows) rows 0)

-- A row found itself, and its children put ahead, leave what will be found as it was.
pub told_more : (rows : List Row) (next i : ℕ) (found more_found ahead rest more all : List ℕ) → IsOrderly rows next → ahead ≡ rest ++ i ∷ [] → more ≡ rest ++ reverse (told_below rows i) → more_found ≡ found ++ told_itself rows i → found ++ ahead_text (told_itself rows) rows ahead ≡ all → more_found ++ ahead_text (told_itself rows) rows more ≡ all
told_more rows next i found more_found ahead rest more all orderly was is told so_far =
    ap (λ l. l ++ ahead_text (told_itself rows) rows more) told
    ∙ append_assoc found (told_itself rows i) (ahead_text (told_itself rows) rows more)
    ∙ ap (λ l. found ++ l) (sym (popped (told_itself rows) rows next i ahead rest more orderly was is))
    ∙ so_far

-- With no row ahead, all rows that a report tells of are found.
pub told_all : (rows : List Row) (found ahead all : List ℕ) → ahead ≡ [] → found ++ ahead_text (told_itself rows) rows ahead ≡ all → found ≡ all
told_all rows found ahead all none so_far =
    sym (append-nil found) ∙ ap (λ l. found ++ ahead_text (told_itself rows) rows l) (sym none) ∙ so_far

-- how many rows are ahead, with those below them
abbrev pub count_ahead : List Row → List ℕ → ℕ
count_ahead rows ahead = length (ahead_text (λ i. i ∷ []) rows ahead)

-- A row taken off, and its children put ahead, make fewer rows that are still to come.
pub fewer_ahead : (rows : List Row) (next i : ℕ) (ahead rest more : List ℕ) → IsOrderly rows next → ahead ≡ rest ++ i ∷ [] → more ≡ rest ++ reverse (told_below rows i) → count_ahead rows more < count_ahead rows ahead
fewer_ahead rows next i ahead rest more orderly was is =
    let e : count_ahead rows ahead ≡ suc (count_ahead rows more) = ap length (popped (λ j. j ∷ []) rows next i ahead rest more orderly was is) in
    omega arith

-- ---- children, one by one

-- The incarnation of a row, if it is a child of the given one.
abbrev pub kid_of : ℕ → Row → Option ℕ
kid_of p r = cond (has_parent p r) (Some r.inc) None

-- A row that doesn't have this parent is no child of it.
kid_none : (p : ℕ) (r : Row) → has_parent p r ≡ false → kid_of p r ≡ None
kid_none p r e = ap (λ t. cond t (Some r.inc) None) e

-- A row that is there and has this parent is found as its child.
kid_some : (p j : ℕ) (rows : List Row) (r : Row) → row_of rows j ≡ Some r → has_parent p r ≡ true → Some j ≡ kid_of p r
kid_some p j rows r lives e = ap Some (sym (row_of-inc rows j r lives)) ∙ sym (ap (λ t. cond t (Some r.inc) None) e)

-- Before the first child is found, all children are still to come.
pub kids_first : (rows : List Row) (p : ℕ) (found : List ℕ) → found ≡ [] → found ++ filter_map (kid_of p) (behind None rows) ≡ filter_map (kid_of p) rows
kids_first rows p found none = ap (λ l. l ++ filter_map (kid_of p) (behind None rows)) none ∙ taken_first (kid_of p) rows

-- The next child found leaves the children found and those to come as they were in all.
pub kids_more : (rows : List Row) (next p j : ℕ) (after : Option ℕ) (found more : List ℕ) → IsOrderly rows next → next_of (has_parent p) after rows ≡ Some j → more ≡ found ++ j ∷ [] → found ++ filter_map (kid_of p) (behind after rows) ≡ filter_map (kid_of p) rows → more ++ filter_map (kid_of p) (behind (Some j) rows) ≡ filter_map (kid_of p) rows
kids_more rows next p j after found more orderly there pushed so_far =
    taken_more (has_parent p) (kid_of p) rows next j after found more (Some j) orderly (kid_none p) there (λ r lives below. kid_some p j rows r lives below) pushed so_far

-- Where no next child is there, those that were found are all children of the row.
pub kids_all : (rows : List Row) (p : ℕ) (after : Option ℕ) (found : List ℕ) → next_of (has_parent p) after rows ≡ None → found ++ filter_map (kid_of p) (behind after rows) ≡ filter_map (kid_of p) rows → found ≡ children_of rows p
kids_all rows p after found none so_far =
    taken_all (has_parent p) (kid_of p) rows after found (kid_none p) none so_far ∙ made_of (has_parent p) (λ (r : Row). r.inc) rows
