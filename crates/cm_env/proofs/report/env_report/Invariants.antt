use Rattle.std.proofs.Common.{◌≡◌, ◌++◌, string_bytes}
use Rattle.std.specs.Prelude.{All}
use Rattle.cm_env.specs.Report.{env_report}
use Rattle.cm_env.specs.ReportInside.{own_lines}
use Rattle.cm_env.specs.Reach.{LooksThere, incs}
use Rattle.cm_env.proofs.lemmas.Visiting.{ahead_text, count_ahead}
use Rattle.cm_env.proofs.report.env_report.Given as goal

-- what has been told, and what is ahead
abbrev pub invariant-next : goal.invariant-next
invariant-next g l =
    let rows = g.V.View.rows l.view in record {
      kept : All (LooksThere rows) l.kept.items;
      ahead : All (LooksThere rows) l.ahead.items;
      told : string_bytes l.text ++ ahead_text (own_lines rows) rows (incs l.ahead.items) ≡ env_report rows;
    }

abbrev pub decreases-next : goal.decreases-next
decreases-next g l = count_ahead (g.V.View.rows l.view) (incs l.ahead.items)
