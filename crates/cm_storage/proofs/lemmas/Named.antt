-- The names from the root down to an instance are names, as is read of each on the way up.
use Rattle.std.proofs.Common.{◌≡◌, ℕ, List, [], ◌∷◌, ◌++◌, Some, None, length, option_and_then, option_to_list, sym, ◌∙◌, ap, ap₂, subst}
use Rattle.std.specs.Prelude.{All}
use Rattle.std.proofs.lemmas.List.Elements.{All-append, All-cons, All-nil}
use Rattle.cm_names.specs.declared.child.ChildName.{ChildName}
use Rattle.cm_names.specs.Moniker.{IsChildName}
use Rattle.cm_world.specs.declared.row.Row.{Row}
use Rattle.cm_world.specs.Rows.{row_of, names_to}
use Rattle.cm_world.specs.RowsInside.{name_of}
use Rattle.cm_world.specs.Sound.{IsOrderly}
use Rattle.cm_world.proofs.lemmas.trees.Climbing.{names_root}
use Rattle.cm_walk.proofs.lemmas.ways.Monikers.{names-up}
use Rattle.cm_storage.specs.Laws.{AreNamed}

-- the names down to the first row are names if those down to the other are
abbrev pub AreNamedFrom : List Row → ℕ → ℕ → Type 0
AreNamedFrom rows i at = AreNamed rows at → AreNamed rows i

-- one row more, whose name is one
pub named_more : (rows : List Row) (next i at p : ℕ) (c : ChildName) → IsOrderly rows next → Some p ≡ option_and_then (λ (r : Row). r.parent) (row_of rows at) → Some c ≡ name_of rows at → IsChildName c → AreNamedFrom rows i at → AreNamedFrom rows i p
named_more rows next i at p c orderly above name is so_far = λ named.
    let both : names_to (length rows) rows (Some at) ≡ names_to (length rows) rows (Some p) ++ c ∷ [] =
    names-up rows next at orderly ∙ sym (ap₂ (λ o n. names_to (length rows) rows o ++ option_to_list n) above name) in
    so_far (subst (All IsChildName) (sym both) (All-append IsChildName (names_to (length rows) rows (Some p)) (c ∷ []) named (All-cons IsChildName c [] is (All-nil IsChildName))))

-- Names up to a row that has no parent are all names of the way.
pub named_all : (rows : List Row) (next i at : ℕ) → IsOrderly rows next → None ≡ option_and_then (λ (r : Row). r.parent) (row_of rows at) → None ≡ name_of rows at → AreNamedFrom rows i at → AreNamed rows i
named_all rows next i at orderly top bare so_far =
    let none : names_to (length rows) rows (Some at) ≡ [] =
    names-up rows next at orderly ∙ sym (ap₂ (λ o n. names_to (length rows) rows o ++ option_to_list n) top bare) ∙ ap (λ names. names ++ []) (names_root (length rows) rows) in
    so_far (subst (All IsChildName) (sym none) (All-nil IsChildName))
