-- Promised.
-- The replies to a mark, by which a shutdown or a destruction begins, and to a purge, which ends a
-- destruction.
use Rattle.std.specs.Prelude.{ℕ, List, Bool, false, Some, None, map, is_some, if◌then◌else◌}
use Rattle.std.specs.Option.{option_map_or}
use Rattle.cm_world.specs.declared.row.Row.{Row}
use Rattle.cm_world.specs.declared.report.Lost.{Lost}
use Rattle.cm_world.specs.declared.reply.Reply.{Reply}
use Rattle.cm_world.specs.declared.reply.Reply.TheVariants.{Gone, Already, Marked, NotDynamic, PurgedBefore}
use Rattle.cm_world.specs.declared.reply.Reply.TheVariants.{Purged}
use Rattle.cm_world.specs.Rows.{row_of, has_closing, is_live, is_gone, subtree, moniker_of}

-- the reply to a mark to be shut down
abbrev pub close_reply : List Row → ℕ → Reply
close_reply rows i =
    if is_gone rows i then Gone i
    else if has_closing rows i then Already else Marked

-- whether a row is a child in a collection; only these may be destroyed
abbrev pub is_dynamic : Row → Bool
is_dynamic r = option_map_or (λ c. is_some c.coll) r.name false

-- the reply to a mark to be destroyed. A row that is doomed itself is told so even where one above it
-- is doomed too
abbrev pub doom_reply : List Row → ℕ → Reply
doom_reply rows i =
    elim (row_of rows i) as (λ _. Reply) [
      | None ↦ Gone i
      | Some r ↦
          if r.doomed then Already else if is_gone rows i then Gone i
          else if is_dynamic r then Marked else NotDynamic
    ]

-- the reply to a mark, to be destroyed or only shut down
abbrev pub mark_reply : List Row → Bool → ℕ → Reply
mark_reply rows doom i = if doom then doom_reply rows i else close_reply rows i

-- a row as a purge tells that it was removed
abbrev pub lost_of : List Row → Row → Lost
lost_of rows r = record { inc = r.inc; moniker = moniker_of rows r.inc }

-- the reply to a purge: all at and below the row, or that it went before
abbrev pub purge_reply : List Row → ℕ → Reply
purge_reply rows i = if is_live rows i then Purged (map (lost_of rows) (subtree rows i)) else PurgedBefore
