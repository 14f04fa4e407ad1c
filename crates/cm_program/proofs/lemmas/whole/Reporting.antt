-- The tree at the end of a history has a report.
use Rattle.std.proofs.Common.{◌≡◌, List, [], refl, subst}
use Rattle.cm_world.specs.declared.row.Row.{Row}
use Rattle.cm_world.specs.declared.frame.Builtin.{Builtin}
use Rattle.cm_world.specs.declared.frame.Frame.{Frame}
use Rattle.cm_world.specs.declared.reply.Entry.{Entry}
use Rattle.cm_world.specs.World.{start}
use Rattle.cm_world.specs.Legal.{replay}
use Rattle.cm_laws.specs.Story.{Story, world_of}
use Rattle.cm_reply.specs.Lists.{TextBytes}
use Rattle.cm_env.specs.Report.{env_report}
use Rattle.cm_storage.proofs.lemmas.Whole.{reports_end}
use Rattle.cm_call.specs.declared.call.Wanted.{Wanted}
use Rattle.cm_call.specs.declared.call.Wanted.TheVariants.{Answers, Summary, Environments, Storage}
use Rattle.cm_program.specs.Headline.{EndsWell}
use Rattle.cm_program.specs.Reported.{IsReport, IsReportOn, rows_after}

-- The tree that a history leaves has a report, where the history ends well.
pub report_ends : (wanted : Wanted) (f : Frame) (history : List Entry) → EndsWell f history → (report : TextBytes) × IsReport wanted f history report
report_ends (Answers journal) f history ends = ([], refl)
report_ends (Summary instances) f history ends = ([], refl)
report_ends Environments f history ends = (env_report (rows_after f history), refl)
report_ends Storage f history ends = reports_end (rows_after f history) (replay (start f) history).next_inc f.builtins ends.laws.sound.orderly

-- a report on the tree that a realm has is one on what its history leaves
pub report_on : (wanted : Wanted) (s : Story) (rows : List Row) (builtins : List Builtin) (report : TextBytes) → rows ≡ (world_of s).rows → builtins ≡ s.frame.builtins → IsReportOn wanted rows builtins report → IsReport wanted s.frame s.entries report
unfolding world_of
report_on wanted s rows builtins report same given made =
    subst (λ (b : List Builtin). IsReportOn wanted (rows_after s.frame s.entries) b report) given
    (subst (λ (r : List Row). IsReportOn wanted r builtins report) same made)
