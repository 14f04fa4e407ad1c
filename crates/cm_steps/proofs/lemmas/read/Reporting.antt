-- The replies to lists of children and to surveys, from what was read row by row.
use Rattle.std.proofs.Common.{◌≡◌, ℕ, List, [], Bool, true, false, cond, not, ◌&&◌, bytes_eq, Option, Some, None, is_some, filter, map, option_map, option_and_then, refl, sym, ◌∙◌, ap}
use Rattle.std.specs.List.{filter_map}
use Rattle.std.specs.Option.{option_eq, option_map_or}
use Rattle.cm_names.specs.declared.child.ChildName.{ChildName}
use Rattle.cm_names.specs.declared.moniker.Moniker.{Moniker}
use Rattle.cm_decl.specs.declared.decl.Decl.{Decl}
use Rattle.cm_world.specs.declared.row.Row.{Row}
use Rattle.cm_world.specs.declared.view.Facts.{Facts}
use Rattle.cm_world.specs.declared.report.Kid.{Kid}
use Rattle.cm_world.specs.declared.report.SurveyRow.{SurveyRow}
use Rattle.cm_world.specs.declared.reply.Reply.TheVariants.{Gone, Surveyed}
use Rattle.cm_world.specs.Rows.{row_of, decl_of, moniker_of, has_parent, subtree, is_gone, is_resolved, is_on, is_shut}
use Rattle.cm_world.specs.RowsInside.{name_of, facts_of}
use Rattle.cm_world.specs.Reports.{kid_by, kid_of, paths_used, survey_row, survey_reply}
use Rattle.cm_world.proofs.lemmas.trees.Finding.{row_of-inc}
use Rattle.cm_steps.specs.Reporting.{kid_as, kid_in, paths_by, surveyed_row}
use Rattle.cm_steps.proofs.lemmas.read.Reading.{told_of}
use Rattle.cm_walk.proofs.lemmas.descents.Behind.{made_of}

-- ---- lists of children

-- a row of another parent is no child
pub other_kid : (p : ℕ) (coll : List ℕ) (r : Row) → has_parent p r ≡ false → kid_of p coll r ≡ None
other_kid p coll r other = other_by r.name where
  other_by : (o : Option ChildName) → option_and_then (kid_by p coll r) o ≡ None
  other_by None = refl
  other_by (Some c) = ap (λ b. cond {A = Option Kid} (b && option_eq bytes_eq c.coll (Some coll) && not r.doomed) (Some (record { name = c.name; inc = r.inc })) None) other

-- The child that a parent's own row is in a collection is what the row says.
pub own_kid : (p : ℕ) (coll : List ℕ) (r : Row) → has_parent p r ≡ true → kid_in coll r ≡ kid_of p coll r
own_kid p coll r own =
    sym (ap (λ b. option_and_then (λ c. cond {A = Option Kid} (b && option_eq bytes_eq c.coll (Some coll) && not r.doomed) (Some (record { name = c.name; inc = r.inc })) None) r.name) own)

-- A child of a collection, made of what was read of its row, is that of the row.
pub kid_found : (rows : List Row) (i : ℕ) (coll : List ℕ) (f : Facts) (c : ChildName) (found : Option Kid) (r : Row) → Some f ≡ option_map facts_of (row_of rows i) → Some c ≡ name_of rows i → found ≡ kid_as coll i f.doomed c → row_of rows i ≡ Some r → found ≡ kid_in coll r
kid_found rows i coll f c found r e named is lives =
    is
    ∙ ap (λ b. kid_as coll i b c) (ap (λ z. z.doomed) (told_of rows i f r e lives))
    ∙ ap (option_and_then (kid_as coll i r.doomed)) (named ∙ ap (option_and_then (λ s. s.name)) lives)
    ∙ sym (ap (λ j. option_and_then (kid_as coll j r.doomed) r.name) (row_of-inc rows i r lives))

-- ---- one row of a survey

-- A row is told in a survey unless it is gone.
by_gone : (rows : List Row) (i : ℕ) (b : Bool) (r : Row) → is_gone rows i ≡ b → row_of rows i ≡ Some r → surveyed_row rows r ≡ cond (not b) (Some (survey_row rows r)) None
by_gone rows i b r gone lives =
    ap (λ j. cond {A = Option SurveyRow} (not (is_gone rows j)) (Some (survey_row rows r)) None) (row_of-inc rows i r lives)
    ∙ ap (λ t. cond {A = Option SurveyRow} (not t) (Some (survey_row rows r)) None) gone

-- a row that is gone isn't in it
pub gone_unseen : (rows : List Row) (i : ℕ) (r : Row) → is_gone rows i ≡ true → row_of rows i ≡ Some r → None ≡ surveyed_row rows r
gone_unseen rows i r gone lives = sym (by_gone rows i true r gone lives)

-- another one is, as it was read
pub here_seen : (rows : List Row) (i : ℕ) (row : SurveyRow) (r : Row) → is_gone rows i ≡ false → row ≡ survey_row rows r → row_of rows i ≡ Some r → Some row ≡ surveyed_row rows r
here_seen rows i row r here made lives = ap Some made ∙ sym (by_gone rows i false r here lives)

-- The paths of what a row uses are those that its declaration, if it has one, has.
paths_are : (o : Option Decl) → paths_by o ≡ elim o as (λ _. List (List ℕ)) [ None ↦ [] | Some d ↦ map (λ u. u.path) d.uses ]
paths_are None = refl
paths_are (Some d) = refl

-- A record of what was read of a row is the row as a survey tells it.
pub row_made : (rows : List Row) (i : ℕ) (m : Moniker) (resolved on shut : Bool) (paths : List (List ℕ)) (r : Row) → m ≡ moniker_of rows i → resolved ≡ is_resolved rows i → on ≡ is_on rows i → shut ≡ is_shut rows i → paths ≡ paths_by (decl_of rows i) → row_of rows i ≡ Some r → record { inc = i; moniker = m; resolved = resolved; on = on; shut = shut; paths = paths } ≡ survey_row rows r
row_made rows i m resolved on shut paths r m_is resolved_is on_is shut_is paths_is lives =
    let made : ℕ → Moniker → Bool → Bool → Bool → List (List ℕ) → SurveyRow = λ j n a b c p. record { inc = j; moniker = n; resolved = a; on = b; shut = c; paths = p } in
    ap (λ n. made i n resolved on shut paths) m_is
    ∙ ap (λ a. made i (moniker_of rows i) a on shut paths) (resolved_is ∙ ap (λ o. is_some (option_and_then (λ s. s.decl) o)) lives)
    ∙ ap (λ b. made i (moniker_of rows i) (is_some r.decl) b shut paths) (on_is ∙ ap (λ o. option_map_or (λ s. s.on) o false) lives)
    ∙ ap (λ c. made i (moniker_of rows i) (is_some r.decl) r.on c paths) (shut_is ∙ ap (λ o. option_map_or (λ s. s.shut) o false) lives)
    ∙ ap (made i (moniker_of rows i) (is_some r.decl) r.on r.shut) (paths_is ∙ ap (λ o. paths_by (option_and_then (λ s. s.decl) o)) lives ∙ paths_are r.decl)
    ∙ ap (λ j. made j (moniker_of rows j) (is_some r.decl) r.on r.shut (paths_used r)) (sym (row_of-inc rows i r lives))

-- ---- a survey

-- Where the top isn't gone, the rows at or below it that aren't gone are the reply to a survey.
pub survey_all : (rows : List Row) (top : ℕ) (seen : List SurveyRow) → is_gone rows top ≡ false → seen ≡ filter_map (surveyed_row rows) (subtree rows top) → Surveyed seen ≡ survey_reply rows top
survey_all rows top seen here is =
    ap Surveyed (is ∙ made_of (λ r. not (is_gone rows r.inc)) (survey_row rows) (subtree rows top))
    ∙ sym (ap (λ b. cond b (Gone top) (Surveyed (map (survey_row rows) (filter (λ r. not (is_gone rows r.inc)) (subtree rows top))))) here)
