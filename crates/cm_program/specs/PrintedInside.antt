-- Inside.
-- What is printed of a run, by the answers as the lanes hand them out.
use Rattle.std.specs.Prelude.{◌≡◌, ◌≢◌, ◌⊎◌, ℕ, List, [], ◌∷◌, ◌++◌, All, map, flat_map}
use Rattle.std.specs.Prelude.{if◌then◌else◌, Option, Err}
use Rattle.std.specs.Io.KnownBytes.{Appends}
use Rattle.cm_world.specs.declared.answer.Answer.TheVariants as answer
use Rattle.cm_world.specs.declared.answer.Refusal.TheVariants as refusal
use Rattle.cm_world.specs.declared.reply.Entry.{Entry}
use Rattle.cm_command.specs.declared.script.Line.{Line}
use Rattle.cm_reply.specs.Lists.{TextBytes}
use Rattle.cm_reply.specs.Journal.{entries_text}
use Rattle.cm_lanes.specs.declared.said.Said.{Said}
use Rattle.cm_program.specs.Written.{AppendsPrefix}
use Rattle.cm_call.specs.declared.call.Wanted.{Wanted}
use Rattle.cm_call.specs.declared.call.Wanted.TheVariants.{Answers, Summary, Environments, Storage}
use Rattle.cm_program.specs.Printed.{line_text, summary_text}

-- the texts of these lines; the answers stand in the same order
abbrev pub texts_of : List Line → List Said → TextBytes
texts_of [] said = []
texts_of (l ∷ ls) [] = []
texts_of (l ∷ ls) (s ∷ others) = line_text l s.result ++ texts_of ls others

-- all that is printed of a run, by what is wanted; head is the beginning of its journal
abbrev pub printed_text : List (List Line) → List Said → Wanted → TextBytes → List Entry → ℕ → TextBytes
    → TextBytes
printed_text phases said (Answers journal) head entries kept report =
    texts_of (flat_map (λ lines. lines) phases) said
    ++ (if journal then head ++ entries_text 1 entries else [])
printed_text phases said (Summary instances) head entries kept report =
    summary_text instances (map (λ s. s.result) said) kept
printed_text phases said Environments head entries kept report = report
printed_text phases said Storage head entries kept report = report

-- what was written of the text by the status: all of it at 0, else a prefix; at 0 and 4 memory
-- sufficed for each answer
pub record IsPrinted
    (text : TextBytes) (said : List Said) (status : ℕ) (old new : Option (List ℕ)) : Type 0 where
  pub all : status ≡ 0 → Appends old new text
  pub had_memory : (status ≡ 0) ⊎ (status ≡ 4) → All (λ s. s.result ≢ Err refusal.Memory) said
  pub prefix : AppendsPrefix old new text
