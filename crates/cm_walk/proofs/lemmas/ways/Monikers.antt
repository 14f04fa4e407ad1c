-- The names from the root down to an instance, gathered on the way up.
use Rattle.std.proofs.Common.{◌≡◌, ℕ, zero, suc, ◌+◌, ◌<◌, List, [], ◌++◌, Option, Some, None, length, reverse, option_to_list, option_and_then, refl, sym, ◌∙◌, ap, ap₂, arith, append_assoc}
use Rattle.std.proofs.lemmas.List.{reverse-append}
use Rattle.cm_names.specs.declared.child.ChildName.{ChildName}
use Rattle.cm_names.specs.declared.moniker.Moniker.{Moniker}
use Rattle.cm_world.specs.declared.row.Row.{Row}
use Rattle.cm_world.specs.Rows.{row_of, names_to, moniker_of}
use Rattle.cm_world.specs.Sound.{IsOrderly}
use Rattle.cm_world.proofs.lemmas.trees.Climbing.{names_to-step, names_root}

-- an incarnation, which falls on the way up, and at last none
abbrev pub height : Option ℕ → ℕ
height None = 0
height (Some i) = i + 1

-- What stands above a row, its parent or nothing, is lower than the row.
parent_lower : (rows : List Row) (next i : ℕ) (r : Row) (o : Option ℕ) → IsOrderly rows next → row_of rows i ≡ Some r → r.parent ≡ o → height o < height (Some i)
parent_lower rows next i r None orderly lives above = omega arith
parent_lower rows next i r (Some p) orderly lives above =
    let lower : p < i = (orderly.parents i p r lives above).0.lower in omega arith

-- What stands above an incarnation is lower than it, whether it has a row or not.
lower_by : (rows : List Row) (next i : ℕ) (o : Option Row) → IsOrderly rows next → row_of rows i ≡ o → height (option_and_then (λ r. r.parent) o) < height (Some i)
lower_by rows next i None orderly lives = omega arith
lower_by rows next i (Some r) orderly lives = parent_lower rows next i r r.parent orderly lives refl

-- the parent of an instance has a lower incarnation
pub parent-lower : (rows : List Row) (next i : ℕ) → IsOrderly rows next → height (option_and_then (λ r. r.parent) (row_of rows i)) < height (Some i)
parent-lower rows next i orderly = lower_by rows next i (row_of rows i) orderly refl

-- There are no names down to an incarnation without a row.
names_of_none : (n : ℕ) (rows : List Row) (i : ℕ) → row_of rows i ≡ None → names_to n rows (Some i) ≡ []
names_of_none zero rows i none = refl
names_of_none (suc n) rows i none = rw (none, names_to) refl

-- The names down to a row are those down to its parent, then its own.
names_by : (rows : List Row) (next i : ℕ) (o : Option Row) → IsOrderly rows next → row_of rows i ≡ o → names_to (length rows) rows (Some i) ≡ names_to (length rows) rows (option_and_then (λ r. r.parent) o) ++ option_to_list (option_and_then (λ r. r.name) o)
names_by rows next i None orderly lives = names_of_none (length rows) rows i lives ∙ sym (ap (λ names. names ++ []) (names_root (length rows) rows))
names_by rows next i (Some r) orderly lives = names_to-step rows next i r orderly lives

-- the names down to an instance are those down to its parent, and its own
pub names-up : (rows : List Row) (next i : ℕ) → IsOrderly rows next → names_to (length rows) rows (Some i) ≡ names_to (length rows) rows (option_and_then (λ r. r.parent) (row_of rows i)) ++ option_to_list (option_and_then (λ r. r.name) (row_of rows i))
names-up rows next i orderly = names_by rows next i (row_of rows i) orderly refl

-- A list of one item or none is its own reverse.
reverse_one : (o : Option ChildName) → reverse (option_to_list o) ≡ option_to_list o
reverse_one None = refl
reverse_one (Some c) = refl

-- With one name more gathered on the way up, what is gathered and what is above make all names.
pub names-more : (all seen more : List ChildName) (rows : List Row) (next i : ℕ) → IsOrderly rows next → all ≡ names_to (length rows) rows (Some i) ++ reverse seen → more ≡ seen ++ option_to_list (option_and_then (λ r. r.name) (row_of rows i)) → all ≡ names_to (length rows) rows (option_and_then (λ r. r.parent) (row_of rows i)) ++ reverse more
names-more all seen more rows next i orderly so_far pushed =
    let name : List ChildName = option_to_list (option_and_then (λ r. r.name) (row_of rows i)) in
    let above : List ChildName = names_to (length rows) rows (option_and_then (λ r. r.parent) (row_of rows i)) in
    so_far
    ∙ ap (λ names. names ++ reverse seen) (names-up rows next i orderly)
    ∙ append_assoc above name (reverse seen)
    ∙ sym (ap (λ names. above ++ names) (ap reverse pushed ∙ reverse-append seen name ∙ ap (λ names. names ++ reverse seen) (reverse_one (option_and_then (λ r. r.name) (row_of rows i)))))

-- a loop that is at an instance, and goes on at its parent, is lower there
pub loop-lower : (rows : List Row) (next i : ℕ) (at above : Option ℕ) → IsOrderly rows next → at ≡ Some i → above ≡ option_and_then (λ r. r.parent) (row_of rows i) → height above < height at
loop-lower rows next i at above orderly here up =
    rw (here, up) (parent-lower rows next i orderly)

-- A step up puts the instance's name behind those that were seen, and leaves the ones above.
pub loop-more : (all seen more : List ChildName) (name : Option ChildName) (rows : List Row) (next i : ℕ) (at above : Option ℕ) → IsOrderly rows next → at ≡ Some i → above ≡ option_and_then (λ r. r.parent) (row_of rows i) → all ≡ names_to (length rows) rows at ++ reverse seen → name ≡ option_and_then (λ r. r.name) (row_of rows i) → more ≡ seen ++ option_to_list name → all ≡ names_to (length rows) rows above ++ reverse more
loop-more all seen more name rows next i at above orderly here up so_far named pushed =
    names-more all seen more rows next i orderly (so_far ∙ ap (λ o. names_to (length rows) rows o ++ reverse seen) here) (pushed ∙ ap (λ o. seen ++ option_to_list o) named)
    ∙ sym (ap (λ o. names_to (length rows) rows o ++ reverse more) up)

-- the parent that a place tells is lower
pub place-lower : (rows : List Row) (next at p : ℕ) → IsOrderly rows next → Some p ≡ option_and_then (λ r. r.parent) (row_of rows at) → p < at
place-lower rows next at p orderly up =
    let lower : p + 1 < at + 1 = loop-lower rows next at (Some at) (Some p) orderly refl up in omega arith

-- where no place is told, all names have been seen
pub place-none : (all seen : List ChildName) (rows : List Row) (next at : ℕ) → IsOrderly rows next → None ≡ option_and_then (λ r. r.parent) (row_of rows at) → None ≡ option_and_then (λ r. r.name) (row_of rows at) → all ≡ names_to (length rows) rows (Some at) ++ reverse seen → all ≡ reverse seen
place-none all seen rows next at orderly top bare so_far =
    so_far
    ∙ ap (λ names. names ++ reverse seen) (names-up rows next at orderly ∙ sym (ap₂ (λ o c. names_to (length rows) rows o ++ option_to_list c) top bare) ∙ ap (λ names. names ++ []) (names_root (length rows) rows))

-- The moniker with these names.
abbrev pub moniker_with : List ChildName → Moniker
moniker_with names = record { parts = names }

-- the names that have been seen, the other way round, are then the moniker
pub moniker-made : (parts seen : List ChildName) (rows : List Row) (next inc at : ℕ) → IsOrderly rows next → None ≡ option_and_then (λ r. r.parent) (row_of rows at) → None ≡ option_and_then (λ r. r.name) (row_of rows at) → names_to (length rows) rows (Some inc) ≡ names_to (length rows) rows (Some at) ++ reverse seen → parts ≡ reverse seen → moniker_with parts ≡ moniker_of rows inc
moniker-made parts seen rows next inc at orderly top bare so_far made =
    ap moniker_with (made ∙ sym (place-none (names_to (length rows) rows (Some inc)) seen rows next at orderly top bare so_far))
