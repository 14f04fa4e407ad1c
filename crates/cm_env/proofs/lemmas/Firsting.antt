-- The first of the rows that have a text, as a map has it to which the rows come from the last one on.
use Rattle.std.proofs.Common.{◌≡◌, ℕ, ◌+◌, ◌<◌, List, [], ◌∷◌, Bool, true, false, cond, Option, Some, find, drop, length, get_or, refl, sym, ◌∙◌, ap, arith}
use Rattle.std.specs.Option.{option_copied}
use Rattle.std.specs.HashMap.{HashMap, get_by, UpdatesBy}
use Rattle.std.specs.Map.{lookup}
use Rattle.std.specs.Str.{bytes_eq}
use Rattle.std.proofs.lemmas.List.{drop_more, drop_all}
use Rattle.std.proofs.lemmas.Map.Text.{hash_map_updates_str}
use Rattle.cm_env.specs.Firsts.{HasFirsts}
use denote.Ref.{Bor}

-- an empty map has nothing, as no row has
pub firsts_none : {A S : Type 0} (key : A → List ℕ) (rows : List A) (left : ℕ) (firsts : HashMap (Bor (List ℕ)) (Bor A) S) → left ≡ length rows → firsts.entries ≡ [] → HasFirsts key (drop left rows) firsts
firsts_none key rows left firsts all none text =
    ap (λ es. option_copied (lookup (λ k. bytes_eq text k.now) es)) none
    ∙ sym (ap (find (λ row. bytes_eq (key row) text)) (drop_all left rows (omega (arith, all))))

-- What a test chooses of a lent row and another is copied as the row itself or the other.
put_by : {A : Type 0} (t : Bool) (row : Bor A) (o : Option (Bor A)) → option_copied (cond t (Some row) o) ≡ cond t (Some row.now) (option_copied o)
put_by true row o = refl
put_by false row o = refl

-- With the row before them put in, the index has the first row of each key of these and it.
pub firsts_more : {A S : Type 0} (key : A → List ℕ) (rows : List A) (left : ℕ) (text : Bor (List ℕ)) (row : Bor A) (old new : HashMap (Bor (List ℕ)) (Bor A) S) → left < length rows → row.now ≡ get_or rows left row.now → text.now ≡ key row.now → HasFirsts key (drop (left + 1) rows) old → UpdatesBy (λ x y. bytes_eq x.now y.now) (λ k. bytes_eq text.now k.now) old new (Some row) → HasFirsts key (drop left rows) new
firsts_more key rows left text row old new within at own before put wanted =
    ap option_copied (hash_map_updates_str text.now old new (Some row) put wanted)
    ∙ put_by (bytes_eq text.now wanted) row (get_by (λ k. bytes_eq wanted k.now) old)
    ∙ ap (λ o. cond (bytes_eq text.now wanted) (Some row.now) o) (before wanted)
    ∙ ap (λ l. cond (bytes_eq l wanted) (Some row.now) (find (λ x. bytes_eq (key x) wanted) (drop (left + 1) rows))) own
    ∙ sym (ap (find (λ x. bytes_eq (key x) wanted)) (drop_more rows left row.now within ∙ ap (λ x. x ∷ drop (left + 1) rows) (sym at)))

-- where none is left, they are all rows
pub firsts_all : {A S : Type 0} (key : A → List ℕ) (rows : List A) (left : ℕ) (firsts : HashMap (Bor (List ℕ)) (Bor A) S) → left ≡ 0 → HasFirsts key (drop left rows) firsts → HasFirsts key rows firsts
firsts_all key rows left firsts none so_far text =
    so_far text ∙ ap (λ n. find (λ row. bytes_eq (key row) text) (drop n rows)) none
