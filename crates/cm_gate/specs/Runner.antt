-- Inside.
-- What a runner is asked over its socket, and what its answers mean.
use Rattle.std.specs.Prelude.{ℕ, List, [], ◌∷◌, ◌++◌, codes, decimal, cond, Option}
use Rattle.std.specs.Str.{bytes_eq}
use Rattle.cm_names.specs.Moniker.{moniker_text}
use Rattle.cm_gate.specs.declared.asked.Job.{Job}
use Rattle.cm_gate.specs.declared.asked.Launched.{Launched}
use Rattle.cm_gate.specs.declared.asked.Launched.TheVariants as launched
use Rattle.cm_gate.specs.declared.asked.Halted.{Halted}
use Rattle.cm_gate.specs.declared.asked.Halted.TheVariants as halted

-- a word, a space, and what follows
abbrev pub worded : List ℕ → List ℕ → List ℕ
worded word rest = word ++ (codes " " ++ rest)

-- the line that asks a runner: what is to be done, and for which instance
abbrev pub question_line : List ℕ → Job → List ℕ
question_line word job =
    worded word (worded (decimal job.action) (worded (decimal job.inc)
    (worded job.runner (worded job.url (moniker_text job.moniker ++ 10 ∷ [])))))

-- what an answer to a launch means; all but the known lines are a failure
abbrev pub launched_by : List ℕ → Launched
launched_by answer =
    cond (bytes_eq answer (codes "running" ++ 10 ∷ [])) launched.Running
    (cond (bytes_eq answer (codes "declined" ++ 10 ∷ [])) launched.Declined launched.Failed)

-- what an answer to a halt means; all but the known line is a failure
abbrev pub halted_by : List ℕ → Halted
halted_by answer = cond (bytes_eq answer (codes "stopped" ++ 10 ∷ [])) halted.Stopped halted.Failed

-- gates to a folder as contracts see them: what they read and connect through, where their runner is,
-- if they have one, and how often they failed
pub record FolderView (F : Type 0) : Type 0 where
  pub files : F
  pub runner : Option (List ℕ)
  pub faults : ℕ
