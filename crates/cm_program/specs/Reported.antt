-- Promised.
-- What is reported of the tree at the end of a run.
use Rattle.std.specs.Prelude.{◌≡◌, List, []}
use Rattle.cm_world.specs.declared.row.Row.{Row}
use Rattle.cm_world.specs.declared.frame.Builtin.{Builtin}
use Rattle.cm_world.specs.declared.frame.Frame.{Frame}
use Rattle.cm_world.specs.declared.reply.Entry.{Entry}
use Rattle.cm_world.specs.World.{start}
use Rattle.cm_world.specs.Legal.{replay}
use Rattle.cm_reply.specs.Lists.{TextBytes}
use Rattle.cm_env.specs.Report.{env_report}
use Rattle.cm_storage.specs.Report.{IsStorageReport}
use Rattle.cm_call.specs.declared.call.Wanted.{Wanted}
use Rattle.cm_call.specs.declared.call.Wanted.TheVariants.{Answers, Summary, Environments, Storage}

-- the rows of the tree that a history leaves
abbrev pub rows_after : Frame → List Entry → List Row
rows_after f history = (replay (start f) history).rows

-- the report on a tree with these rows and builtins, where one is wanted
abbrev pub IsReportOn : Wanted → List Row → List Builtin → TextBytes → Type 0
IsReportOn Environments rows builtins report = report ≡ env_report rows
IsReportOn Storage rows builtins report = IsStorageReport rows builtins report
IsReportOn (Answers journal) rows builtins report = report ≡ []
IsReportOn (Summary instances) rows builtins report = report ≡ []

-- the report on the tree that a history leaves, where one is wanted
abbrev pub IsReport : Wanted → Frame → List Entry → TextBytes → Type 0
IsReport wanted f history report = IsReportOn wanted (rows_after f history) f.builtins report
