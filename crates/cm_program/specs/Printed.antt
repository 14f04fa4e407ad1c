-- Promised.
-- What is printed of the run of a script.
-- ---- the answer to each line, and the journal after them
use Rattle.std.specs.Prelude.{ℕ, List, [], ◌++◌, map, flat_map, count_by, codes}
use Rattle.std.specs.Prelude.{decimal, Bool, true, false, if◌then◌else◌, Result, Ok}
use Rattle.cm_world.specs.declared.answer.Answer.{Answer}
use Rattle.cm_world.specs.declared.answer.Answer.TheVariants as answer
use Rattle.cm_world.specs.declared.answer.Refusal.{Refusal}
use Rattle.cm_world.specs.declared.frame.Frame.{Frame}
use Rattle.cm_world.specs.declared.reply.Entry.{Entry}
use Rattle.cm_command.specs.declared.script.Line.{Line}
use Rattle.cm_reply.specs.Lists.{TextBytes}
use Rattle.cm_reply.specs.Answers.{reply_text}
use Rattle.cm_reply.specs.Journal.{line, journal_text}
use Rattle.cm_lanes.specs.Script.{AnsweredLine}
use Rattle.cm_call.specs.declared.call.Wanted.{Wanted}
use Rattle.cm_call.specs.declared.call.Wanted.TheVariants.{Answers, Summary, Environments, Storage}

-- the line that is printed for an answer: the lane, a space, and the text of the answer
unfoldable pub line_text : Line → Result Answer Refusal → TextBytes
line_text l result = decimal l.lane ++ (codes " " ++ line (reply_text l.command result))

-- the line that is printed for a line of the script with its answer
abbrev pub answered_text : AnsweredLine → TextBytes
answered_text a = line_text a.line a.result

-- the lines that are printed for all phases, in the order of the script
abbrev pub phases_text : List (List AnsweredLine) → TextBytes
phases_text answered = flat_map (λ phase. flat_map answered_text phase) answered

-- the journal that is printed after the answers, where it is wanted
abbrev pub journal_of : Bool → Frame → List Entry → TextBytes
journal_of wanted f entries = if wanted then journal_text f entries else []

-- ---- how many answers there are of some kinds

-- whether this answer tells that an instance was started; they are counted for the summary
unfoldable pub is_started : Result Answer Refusal → Bool
is_started (Ok (answer.Started action)) = true
is_started _ = false

-- whether this answer tells that something was opened; they are counted for the summary
unfoldable pub is_opened : Result Answer Refusal → Bool
is_opened (Ok (answer.Opened route)) = true
is_opened _ = false

-- whether this answer shows an instance; they are counted for the summary
unfoldable pub is_shown : Result Answer Refusal → Bool
is_shown (Ok (answer.Shown look)) = true
is_shown _ = false

-- the answers to the lines of all phases, without the lines
abbrev pub results_of : List (List AnsweredLine) → List (Result Answer Refusal)
results_of answered = flat_map (λ phase. map (λ a. a.result) phase) answered

-- the line `instances N started S opened O shown H kept K` that `generate` prints; kept counts the
-- cache hits
abbrev pub summary_text : ℕ → List (Result Answer Refusal) → ℕ → TextBytes
summary_text instances results kept =
    codes "instances " ++ (decimal instances
    ++ (codes " started " ++ (decimal (count_by is_started results)
    ++ (codes " opened " ++ (decimal (count_by is_opened results)
    ++ (codes " shown " ++ (decimal (count_by is_shown results)
    ++ (codes " kept " ++ (decimal kept ++ codes "\n")))))))))

-- ---- what is wanted of these

-- all that is printed of a run: by what is wanted its answers and the journal, the summary, or the
-- report on the tree at the end
abbrev pub wanted_text : Wanted → Frame → List (List AnsweredLine) → List Entry → ℕ → TextBytes → TextBytes
wanted_text (Answers journal) f answered entries kept report =
    phases_text answered ++ journal_of journal f entries
wanted_text (Summary instances) f answered entries kept report =
    summary_text instances (results_of answered) kept
wanted_text Environments f answered entries kept report = report
wanted_text Storage f answered entries kept report = report

-- ---- the same, of what the lanes hand out
