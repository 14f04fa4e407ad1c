-- Promised.
-- The replies that tell how instances are.
use Rattle.std.specs.Prelude.{ℕ, List, [], Bool, not, ◌&&◌, Option, Some, None, filter, filter_map, map}
use Rattle.std.specs.Prelude.{is_some, option_map, option_and_then, if◌then◌else◌}
use Rattle.std.specs.Str.{bytes_eq}
use Rattle.std.specs.Option.{option_eq}
use Rattle.cm_names.specs.declared.child.ChildName.{ChildName}
use Rattle.cm_world.specs.declared.row.Row.{Row}
use Rattle.cm_world.specs.declared.report.Kid.{Kid}
use Rattle.cm_world.specs.declared.report.Look.{Look}
use Rattle.cm_world.specs.declared.report.SurveyRow.{SurveyRow}
use Rattle.cm_world.specs.declared.reply.Reply.{Reply}
use Rattle.cm_world.specs.declared.reply.Reply.TheVariants.{Gone, Already, NoCollection, Listed, Shown}
use Rattle.cm_world.specs.declared.reply.Reply.TheVariants.{Surveyed, Left, Tailed}
use Rattle.cm_world.specs.Rows.{row_of, decl_of, is_gone, has_parent, subtree, moniker_of}
use Rattle.cm_world.specs.Create.{collection_of}
use Rattle.cm_world.specs.Openings.{unready}

-- ---- the children in a collection

-- row r, named c, as a child of p in this collection, if it is one that isn't doomed
abbrev pub kid_by : ℕ → List ℕ → Row → ChildName → Option Kid
kid_by p coll r c =
    if has_parent p r && option_eq bytes_eq c.coll (Some coll) && not r.doomed
    then Some (record { name = c.name; inc = r.inc })
    else None

-- a row as a child of p in this collection, if it is one that isn't doomed
abbrev pub kid_of : ℕ → List ℕ → Row → Option Kid
kid_of p coll r = option_and_then (kid_by p coll r) r.name

-- whether row i is resolved and declares this collection
abbrev pub has_collection : List Row → ℕ → List ℕ → Bool
has_collection rows i coll = is_some (option_and_then (λ d. collection_of d coll) (decl_of rows i))

-- the reply to a listing at a resolved row: the children that aren't doomed, or that there is no such
-- collection
abbrev pub list_by : List Row → ℕ → List ℕ → Reply
list_by rows i coll =
    if has_collection rows i coll then Listed (filter_map (kid_of i coll) rows) else NoCollection

-- the reply to who asks for the children in a collection
abbrev pub list_reply : List Row → ℕ → List ℕ → Reply
list_reply rows i coll =
    elim (unready rows i) as (λ _. Reply) [ Some refusal ↦ refusal | None ↦ list_by rows i coll ]

-- ---- one instance

-- a row as `show` tells it; the URL is as declared, not the absolute one
abbrev pub look_at : Row → Look
look_at r = record {
  inc = r.inc;
  url = r.url;
  resolved = is_some r.decl;
  on = r.on;
  closing = r.closing;
  shut = r.shut;
  pending = option_map (λ p. p.0) r.pending;
}

-- the reply to who asks how an instance is
abbrev pub show_reply : List Row → ℕ → Reply
show_reply rows i =
    if is_gone rows i then Gone i else
    elim (row_of rows i) as (λ _. Reply) [ None ↦ Gone i | Some r ↦ Shown (look_at r) ]

-- ---- an instance and all below it

-- the paths that a row's declaration uses; none where it isn't resolved
abbrev pub paths_used : Row → List (List ℕ)
paths_used r = elim r.decl as (λ _. List (List ℕ)) [ None ↦ [] | Some d ↦ map (λ u. u.path) d.uses ]

-- a row as a survey tells it
abbrev pub survey_row : List Row → Row → SurveyRow
survey_row rows r = record {
  inc = r.inc;
  moniker = moniker_of rows r.inc;
  resolved = is_some r.decl;
  on = r.on;
  shut = r.shut;
  paths = paths_used r;
}

-- the reply to a survey: the instance and all below it that isn't gone
abbrev pub survey_reply : List Row → ℕ → Reply
survey_reply rows i =
    if is_gone rows i then Gone i
    else Surveyed (map (survey_row rows) (filter (λ r. not (is_gone rows r.inc)) (subtree rows i)))

-- ---- an exit, and the length of the history

-- the reply to who tells that a program ended by itself; none where an action is pending, for which
-- the caller waits. A row that is only doomed can still exit
abbrev pub exit_reply : List Row → ℕ → Option Reply
exit_reply rows i =
    elim (row_of rows i) as (λ _. Option Reply) [
      | None ↦ Some (Gone i)
      | Some r ↦
          if is_some r.pending then None
          else if r.on then Some (Left (moniker_of rows i)) else Some Already
    ]

-- the reply to `events`: how many entries the history has, unless the instance is gone
abbrev pub tail_reply : List Row → ℕ → ℕ → Reply
tail_reply rows entries i = if is_gone rows i then Gone i else Tailed entries
