-- The report, row by row.
use Rattle.std.proofs.Common.{◌≡◌, ℕ, zero, suc, ◌+◌, ◌<◌, take, get_or, subst, List, [], ◌∷◌, ◌++◌, true, false, cond, Option, Some, None, is_some, length, reverse, refl, sym, ◌∙◌, ap, append_assoc, append-nil, flat_map}
use Rattle.std.specs.Prelude.{All}
use Rattle.std.proofs.lemmas.List.Concat.{flat_map-append}
use Rattle.std.proofs.lemmas.List.Elements.{All-pop, All-push}
use Rattle.std.proofs.lemmas.List.{map-append, take_more}
use Rattle.cm_decl.specs.declared.decl.Decl.{Decl}
use Rattle.cm_world.specs.declared.row.Row.{Row}
use Rattle.cm_world.specs.Rows.{row_of, decl_of, has_parent, has_doomed, is_resolved}
use Rattle.cm_world.specs.Sound.{IsOrderly, IsParent}
use Rattle.cm_reply.specs.Lists.{when_some}
use Rattle.cm_env.specs.declared.reach.Looker.{Looker}
use Rattle.cm_env.specs.Report.{lines_by, lines_of, env_report}
use Rattle.cm_env.specs.ReportInside.{own_lines}
use Rattle.cm_env.specs.Rows.{children_of, told_itself, told_below, told_from}
use Rattle.cm_env.specs.Reach.{LooksThere, incs}
use Rattle.cm_env.proofs.lemmas.Visiting.{Each, down, ahead_text, popped, each_kid, all_live, kid_parent}
use Rattle.cm_env.proofs.lemmas.Steps.{unresolved_by}

-- ---- one row

-- The lines of a row, if it has a declaration, are those that its declaration says.
lines_by_cases : (rows : List Row) (i : ℕ) (o : Option Decl) → decl_of rows i ≡ o → flat_map (lines_of rows) (cond (is_some o) (i ∷ []) []) ≡ when_some (lines_by rows i) o
lines_by_cases rows i None e = refl
lines_by_cases rows i (Some d) e = append-nil (lines_of rows i) ∙ ap (when_some (lines_by rows i)) e

-- Of a row that isn't doomed its own lines are told; an unresolved one has none.
pub told_here : (rows : List Row) (i : ℕ) → has_doomed rows i ≡ false → own_lines rows i ≡ lines_of rows i
told_here rows i alive =
    ap (λ t. flat_map (lines_of rows) (cond t [] (cond (is_resolved rows i) (i ∷ []) []))) alive
    ∙ lines_by_cases rows i (decl_of rows i) refl

-- Of a row that is marked to be destroyed no lines are told.
pub told_nothing : (rows : List Row) (i : ℕ) → has_doomed rows i ≡ true → own_lines rows i ≡ []
told_nothing rows i doomed = ap (λ t. flat_map (lines_of rows) (cond t [] (cond (is_resolved rows i) (i ∷ []) []))) doomed

-- A list of which no item can be is empty.
no_each : (xs : List ℕ) → Each (λ j. ⊥) xs → xs ≡ []
no_each [] each = refl
no_each (x ∷ xs) each = absurd each.0

-- an unresolved row has no children
pub no_children : (rows : List Row) (next i : ℕ) → IsOrderly rows next → None ≡ decl_of rows i → children_of rows i ≡ []
no_children rows next i orderly none =
    no_each (children_of rows i)
    (each_kid (has_parent i) (λ r. row_of rows r.inc ≡ Some r) (λ j. ⊥) rows
    (λ r lives below.
    let parent : IsParent rows i r.inc = kid_parent rows next i r orderly lives below in
    unresolved_by rows i parent.row parent.row.decl parent.lives refl parent.resolved (sym (sym none)))
    (all_live rows next orderly.increasing))

-- ---- all rows

-- Two functions that agree everywhere give the same, put together over a list.
flat_same : {B : Type 0} (f g : ℕ → List B) (xs : List ℕ) → ((x : ℕ) → f x ≡ g x) → flat_map f xs ≡ flat_map g xs
flat_same f g [] same = refl
flat_same f g (x ∷ xs) same = ap (λ l. l ++ flat_map f xs) (same x) ∙ ap (λ l. g x ++ l) (flat_same f g xs same)

-- What is put together over what was put together may be put together item by item.
flat_flat : {A B C : Type 0} (f : B → List C) (g : A → List B) (xs : List A) → flat_map f (flat_map g xs) ≡ flat_map (λ x. flat_map f (g x)) xs
flat_flat f g [] = refl
flat_flat f g (x ∷ xs) = flat_map-append f (g x) (flat_map g xs) ∙ ap (λ l. flat_map f (g x) ++ l) (flat_flat f g xs)

-- The lines of the rows that a report tells of are each row's own, down the tree.
lines_down : (n : ℕ) (rows : List Row) (i : ℕ) → flat_map (lines_of rows) (told_from n rows i) ≡ down (own_lines rows) n rows i
lines_down zero rows i = refl
lines_down (suc n) rows i =
    flat_map-append (lines_of rows) (told_itself rows i) (flat_map (told_from n rows) (told_below rows i))
    ∙ ap (λ l. own_lines rows i ++ l)
    (flat_flat (lines_of rows) (told_from n rows) (told_below rows i)
    ∙ flat_same (λ j. flat_map (lines_of rows) (told_from n rows j)) (down (own_lines rows) n rows) (told_below rows i) (lines_down n rows))

-- ---- the loop

-- With nothing told and the root ahead, what will be told is the report.
pub told_first : (rows : List Row) (text : List ℕ) (ahead : List ℕ) → text ≡ [] → ahead ≡ 0 ∷ [] → text ++ ahead_text (own_lines rows) rows ahead ≡ env_report rows
told_first rows text ahead none one =
    ap (λ l. l ++ ahead_text (own_lines rows) rows ahead) none
    ∙ ap (λ l. ahead_text (own_lines rows) rows l) one
    ∙ append-nil (down (own_lines rows) (length rows) rows 0)
    ∙ sym (lines_down (length rows) rows 0)

-- A row's lines told, and its children put ahead, leave what will be told as it was.
pub told_more : (rows : List Row) (next i : ℕ) (text more_text all : List ℕ) (ahead rest more : List ℕ) → IsOrderly rows next → ahead ≡ rest ++ i ∷ [] → more ≡ rest ++ reverse (told_below rows i) → more_text ≡ text ++ own_lines rows i → text ++ ahead_text (own_lines rows) rows ahead ≡ all → more_text ++ ahead_text (own_lines rows) rows more ≡ all
told_more rows next i text more_text all ahead rest more orderly was is told so_far =
    ap (λ l. l ++ ahead_text (own_lines rows) rows more) told
    ∙ append_assoc text (own_lines rows i) (ahead_text (own_lines rows) rows more)
    ∙ ap (λ l. text ++ l) (sym (popped (own_lines rows) rows next i ahead rest more orderly was is))
    ∙ so_far

-- With nothing ahead, all lines are told.
pub told_all : (rows : List Row) (text ahead all : List ℕ) → ahead ≡ [] → text ++ ahead_text (own_lines rows) rows ahead ≡ all → text ≡ all
told_all rows text ahead all none so_far =
    sym (append-nil text) ∙ ap (λ l. text ++ ahead_text (own_lines rows) rows l) (sym none) ∙ so_far

-- ---- what is ahead

-- The incarnations of what is ahead are those of the rest, and then that of the one taken off.
pub incs_popped : (ahead rest : List Looker) (s : Looker) → ahead ≡ rest ++ s ∷ [] → incs ahead ≡ incs rest ++ s.inc ∷ []
incs_popped ahead rest s was = ap incs was ∙ map-append (λ (x : Looker). x.inc) rest (s ∷ [])

-- Where all that is ahead looks where it should, so does the rest, and so does the one taken off.
pub all_popped : (rows : List Row) (ahead rest : List Looker) (s : Looker) → ahead ≡ rest ++ s ∷ [] → All (LooksThere rows) ahead → All (LooksThere rows) rest × LooksThere rows s
all_popped rows ahead rest s was all = All-pop (LooksThere rows) ahead rest (Some s) was all

-- With one child's looker more, the incarnations told are those of so many children.
pub children_more : (old now more : List Looker) (below : List ℕ) (k : ℕ) (s : Looker) → k < length below → s.inc ≡ get_or below k 0 → more ≡ now ++ s ∷ [] → incs now ≡ incs old ++ take k below → incs more ≡ incs old ++ take (k + 1) below
children_more old now more below k s within at pushed so_far =
    ap incs pushed
    ∙ map-append (λ (x : Looker). x.inc) now (s ∷ [])
    ∙ ap (λ l. l ++ s.inc ∷ []) so_far
    ∙ append_assoc (incs old) (take k below) (s.inc ∷ [])
    ∙ ap (λ i. incs old ++ (take k below ++ i ∷ [])) at
    ∙ ap (λ l. incs old ++ l) (sym (take_more below k 0 within))

-- Where all look where they should, and one more does, so do they with that one at the end.
pub all_more : (rows : List Row) (now more : List Looker) (s : Looker) → more ≡ now ++ s ∷ [] → All (LooksThere rows) now → LooksThere rows s → All (LooksThere rows) more
all_more rows now more s pushed all one = subst (All (LooksThere rows)) (sym pushed) (All-push (LooksThere rows) now s all one)
