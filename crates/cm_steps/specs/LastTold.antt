-- Inside.
-- What was told last of how instances are: it is told again while the rows stay as they are.
use Rattle.std.specs.Prelude.{◌≡◌, List, None, IfSome}
use Rattle.cm_world.specs.declared.row.Row.{Row}
use Rattle.cm_world.specs.Reports.{survey_reply, list_reply}
use Rattle.cm_steps.specs.declared.told.LastTold.{LastTold}

-- nothing was told
abbrev pub nothing_told : LastTold
nothing_told = record { survey = None; list = None }

-- what was told last is what would be told of these rows now
pub record IsToldNow (rows : List Row) (last : LastTold) : Type 0 where
  pub survey : IfSome last.survey (λ s. s.reply ≡ survey_reply rows s.inc)
  pub list : IfSome last.list (λ l. l.reply ≡ list_reply rows l.inc l.coll)
