-- The report on storage, line by line.
use Rattle.std.proofs.Common.{◌≡◌, ℕ, ◌+◌, ◌<◌, ◌≤◌, List, [], ◌∷◌, ◌++◌, length, drop, get_or, refl, sym, ◌∙◌, ap, subst, append_assoc, append-nil}
use Rattle.std.proofs.lemmas.List.{drop_more, drop_all}
use Rattle.std.specs.Prelude.{String, string_bytes, Result, Ok, Err, OnOk}
use Rattle.cm_decl.specs.declared.storage.StorageUse.{StorageUse}
use Rattle.cm_world.specs.declared.row.Row.{Row}
use Rattle.cm_world.specs.declared.frame.Builtin.{Builtin}
use Rattle.cm_world.specs.Rows.{decl_of}
use Rattle.cm_reply.specs.Lists.{TextBytes}
use Rattle.cm_reply.specs.ListsInside.{GainsText}
use Rattle.cm_storage.specs.Places.{Placed, IsPlaced}
use Rattle.cm_storage.specs.Report.{UsesTold, no_use, next_use, RowsTold, no_row, next_row, use_line, uses_by}
use Rattle.cm_storage.specs.Telling.{TellsUse, TellsUses, TellsRows}

-- what has been told, behind which the lines of what is left make the lines of all
pub record HasTold {Z A : Type 0} (ToldRow : List A → TextBytes → Type 0) (all : List A) (i : ℕ) (old now : String Z) : Type 0 where
  pub text : TextBytes
  pub gains : GainsText old now text
  pub whole : (rest : TextBytes) → ToldRow (drop i all) rest → ToldRow all (text ++ rest)

-- At first nothing has been told, and the string is as it was.
pub told_none : {Z A : Type 0} (ToldRow : List A → TextBytes → Type 0) (all : List A) (old : String Z) → HasTold ToldRow all 0 old old
told_none ToldRow all old = record { text = []; gains = sym (append-nil (string_bytes old)); whole = λ rest told. told }

-- With the text of the next item one item more has been told.
pub told_next : {Z A : Type 0} (ToldRow : List A → TextBytes → Type 0) (all : List A) (i : ℕ) (x : A) (old now new : String Z) (text : TextBytes) → ((xs : List A) (rest : TextBytes) → ToldRow xs rest → ToldRow (x ∷ xs) (text ++ rest)) → i < length all → x ≡ get_or all i x → HasTold ToldRow all i old now → GainsText now new text → HasTold ToldRow all (i + 1) old new
told_next ToldRow all i x old now new text one below at before more = record {
  text = before.text ++ text;
  gains = more ∙ ap (λ bytes. bytes ++ text) before.gains ∙ append_assoc (string_bytes old) before.text text;
  whole = λ rest told.
      subst (ToldRow all) (sym (append_assoc before.text text rest))
      (before.whole (text ++ rest) (subst (λ xs. ToldRow xs (text ++ rest)) (sym (drop_more all i x below ∙ ap (λ y. y ∷ drop (i + 1) all) (sym at))) (one (drop (i + 1) all) rest told)));
}

-- Where all items have been told, the string has gained the text of all.
pub told_whole : {Z A : Type 0} (ToldRow : List A → TextBytes → Type 0) (all : List A) (i : ℕ) (old now : String Z) → ToldRow [] [] → length all ≤ i → HasTold ToldRow all i old now → (text : TextBytes) × ToldRow all text × GainsText old now text
told_whole ToldRow all i old now none past told =
    (told.text, subst (ToldRow all) (append-nil told.text) (told.whole [] (subst (λ xs. ToldRow xs []) (sym (drop_all i all past)) none)), told.gains)

-- With the line of the next use of a row one use more has been told.
pub use_told : {Z : Type 0} (rows : List Row) (builtins : List Builtin) (row : ℕ) (all : List StorageUse) (i : ℕ) (u : StorageUse) (old now new : String Z) → i < length all → u ≡ get_or all i u → HasTold (UsesTold rows builtins row) all i old now → TellsUse rows builtins row u.path now new → HasTold (UsesTold rows builtins row) all (i + 1) old new
use_told rows builtins row all i u old now new below at before tells =
    told_next (UsesTold rows builtins row) all i u old now new (use_line rows row u.path tells.0) (λ xs rest told. next_use tells.0 tells.1 told) below at before tells.2

-- With the uses of the next row one row more has been told.
pub row_told : {Z : Type 0} (rows : List Row) (builtins : List Builtin) (all : List ℕ) (i j : ℕ) (old now new : String Z) → i < length all → j ≡ get_or all i j → HasTold (RowsTold rows builtins) all i old now → TellsUses rows builtins j (uses_by (decl_of rows j)) now new → HasTold (RowsTold rows builtins) all (i + 1) old new
row_told rows builtins all i j old now new below at before tells =
    told_next (RowsTold rows builtins) all i j old now new tells.0 (λ xs rest told. next_row tells.1 told) below at before tells.2

-- A text that gains one text and then another gains both.
pub gains_both : {Z A E : Type 0} (r : Result A E) (old mid new : String Z) (x y : TextBytes) → GainsText old mid x → OnOk r (GainsText mid new y) → OnOk r (GainsText old new (x ++ y))
gains_both (Ok a) old mid new x y first second = second ∙ ap (λ bytes. bytes ++ y) first ∙ append_assoc (string_bytes old) x y
gains_both (Err e) old mid new x y first second = tt
