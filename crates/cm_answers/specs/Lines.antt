-- Promised.
-- The lines of `doctor`, which checks the route of each use at and below an instance.
use Rattle.std.specs.Prelude.{List, [], ◌∷◌, ◌++◌, ℕ, Some, None, Result, Ok, Err}
use Rattle.cm_names.specs.declared.moniker.Moniker.{Moniker}
use Rattle.cm_world.specs.declared.reply.Reply.{Reply}
use Rattle.cm_world.specs.declared.reply.Reply.TheVariants as reply
use Rattle.cm_world.specs.declared.report.SurveyRow.{SurveyRow}
use Rattle.cm_world.specs.declared.route.Route.{Route}
use Rattle.cm_world.specs.declared.answer.Answer.{Answer}
use Rattle.cm_world.specs.declared.answer.Answer.TheVariants as answer
use Rattle.cm_world.specs.declared.answer.Checked.{Checked}
use Rattle.cm_world.specs.declared.answer.Refusal.{Refusal}
use Rattle.cm_world.specs.declared.answer.Refusal.TheVariants as refusal
use Rattle.cm_answers.specs.Answers.{refusal_of}

-- the route that a reply gives, or the refusal that it, or what came before it, stands for
abbrev pub route_by : Result Reply Refusal → Result Route Refusal
route_by (Ok (reply.Given route)) = Ok route
route_by (Ok r) = Err (refusal_of r)
route_by (Err x) = Err x

-- the line of one use, with its route or why it has none; lack of memory and a full history end the
-- call
abbrev pub line_of : Moniker → List ℕ → Result Route Refusal → Result (List Checked) Refusal
line_of m p (Err refusal.Memory) = Err refusal.Memory
line_of m p (Err refusal.HistoryFull) = Err refusal.HistoryFull
line_of m p found = Ok (record { moniker = m; path = Some p; result = found } ∷ [])

-- the line of an instance that isn't resolved
abbrev pub unresolved_line : Moniker → Checked
unresolved_line m = record { moniker = m; path = None; result = Err refusal.NoSuchUse }

-- these lines and then others, unless the call ended among those
abbrev pub in_prefix : List Checked → Result (List Checked) Refusal → Result (List Checked) Refusal
in_prefix lines (Ok others) = Ok (lines ++ others)
in_prefix lines (Err x) = Err x

-- the instances that a survey gives, or the refusal that the reply, or what came before it, stands for
abbrev pub surveyed_by : Result Reply Refusal → Result (List SurveyRow) Refusal
surveyed_by (Ok (reply.Surveyed rows)) = Ok rows
surveyed_by (Ok r) = Err (refusal_of r)
surveyed_by (Err x) = Err x

-- the answer that these lines make, unless the call ended
abbrev pub doctored_by : Result (List Checked) Refusal → Result Answer Refusal
doctored_by (Ok lines) = Ok (answer.Doctored lines)
doctored_by (Err x) = Err x
