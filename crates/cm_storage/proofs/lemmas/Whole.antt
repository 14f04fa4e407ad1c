-- A tree has one report on its storage.
use Rattle.std.proofs.Common.{◌≡◌, ℕ, List, [], ◌∷◌, ◌++◌, refl, ◌∙◌, ap}
use Rattle.cm_decl.specs.declared.storage.StorageUse.{StorageUse}
use Rattle.cm_world.specs.declared.row.Row.{Row}
use Rattle.cm_world.specs.declared.frame.Builtin.{Builtin}
use Rattle.cm_world.specs.Rows.{decl_of}
use Rattle.cm_world.specs.Sound.{IsOrderly}
use Rattle.cm_env.specs.Rows.{told_rows}
use Rattle.cm_storage.specs.Places.{Placed, IsPlaced}
use Rattle.cm_storage.specs.Report.{UsesTold, RowsTold, no_use, next_use, no_row, next_row, uses_by, use_line}
use Rattle.cm_storage.specs.Laws.{ReportsOnce, ReportsEnd}
use Rattle.cm_storage.proofs.lemmas.Once.{places_once, places_end}

-- A row's uses have one text of lines.
uses_once : (rows : List Row) (builtins : List Builtin) (i : ℕ) (us : List StorageUse) (text other : List ℕ) → UsesTold rows builtins i us text → UsesTold rows builtins i us other → text ≡ other
uses_once rows builtins i [] text other no_use no_use = refl
uses_once rows builtins i (u ∷ us) text other (next_use {text = t} r here below) (next_use {text = v} q there under) =
    ap (λ x. use_line rows i u.path x ++ t) (places_once rows builtins i u.path r q here there)
    ∙ ap (λ x. use_line rows i u.path q ++ x) (uses_once rows builtins i us t v below under)

-- Rows have one text of lines on their storage.
rows_once : (rows : List Row) (builtins : List Builtin) (is : List ℕ) (text other : List ℕ) → RowsTold rows builtins is text → RowsTold rows builtins is other → text ≡ other
rows_once rows builtins [] text other no_row no_row = refl
rows_once rows builtins (i ∷ is) text other (next_row {text = t} {others = ts} here below) (next_row {text = v} {others = vs} there under) =
    ap (λ x. x ++ ts) (uses_once rows builtins i (uses_by (decl_of rows i)) t v here there)
    ∙ ap (λ x. v ++ x) (rows_once rows builtins is ts vs below under)

-- A tree has at most one report on its storage.
pub reports_once : ReportsOnce
reports_once rows builtins text other first second = rows_once rows builtins (told_rows rows) text other first second

-- In orderly rows, a row's uses have a text of lines.
uses_end : (rows : List Row) (next : ℕ) (builtins : List Builtin) (i : ℕ) → IsOrderly rows next → (us : List StorageUse) → (text : List ℕ) × UsesTold rows builtins i us text
uses_end rows next builtins i orderly [] = ([], no_use)
uses_end rows next builtins i orderly (u ∷ us) =
    let placed : (r : Placed) × IsPlaced rows builtins i u.path r = places_end rows next builtins i u.path orderly in
    let below : (text : List ℕ) × UsesTold rows builtins i us text = uses_end rows next builtins i orderly us in
    (use_line rows i u.path placed.0 ++ below.0, next_use placed.0 placed.1 below.1)

-- In orderly rows, rows have a text of lines on their storage.
rows_end : (rows : List Row) (next : ℕ) (builtins : List Builtin) → IsOrderly rows next → (is : List ℕ) → (text : List ℕ) × RowsTold rows builtins is text
rows_end rows next builtins orderly [] = ([], no_row)
rows_end rows next builtins orderly (i ∷ is) =
    let here : (text : List ℕ) × UsesTold rows builtins i (uses_by (decl_of rows i)) text = uses_end rows next builtins i orderly (uses_by (decl_of rows i)) in
    let below : (text : List ℕ) × RowsTold rows builtins is text = rows_end rows next builtins orderly is in
    (here.0 ++ below.0, next_row here.1 below.1)

-- An orderly tree has a report on its storage.
pub reports_end : ReportsEnd
reports_end rows next builtins orderly = rows_end rows next builtins orderly (told_rows rows)
