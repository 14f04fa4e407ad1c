-- Inside.
-- What a run writes before its journal: its answers, none of whose lines is `journal`.
use Rattle.std.specs.Prelude.{List, ◌++◌, flat_map, codes, decimal}
use Rattle.cm_reply.specs.Lists.{TextBytes}
use Rattle.cm_reply.specs.Answers.{reply_text}
use Rattle.cm_reply.specs.Journal.{line}
use Rattle.cm_lanes.specs.Script.{AnsweredLine}
use Rattle.cm_audit.specs.Laws.{IsInPrefix}
use Rattle.cm_journal.specs.Made.{AreWritable}
use Rattle.cm_journal.specs.Said.{AreLegibleAnswers}

-- the line of an answer: the lane, a space, and its text
abbrev pub answer_line : AnsweredLine → TextBytes
answer_line a = decimal a.line.lane ++ (codes " " ++ line (reply_text a.line.command a.result))

-- the lines of all answers, in the order of the script
abbrev pub said_text : List (List AnsweredLine) → TextBytes
said_text answered = flat_map (λ phase. flat_map answer_line phase) answered

-- what is written of answers may stand before a journal
abbrev pub SaidIsInPrefix : Type 0
SaidIsInPrefix =
    (answered : List (List AnsweredLine)) → AreWritable answered → AreLegibleAnswers answered
    → IsInPrefix (said_text answered)
