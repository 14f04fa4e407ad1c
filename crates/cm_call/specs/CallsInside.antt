-- Inside.
-- What the functions that read the program's words promise.
use Rattle.std.specs.Prelude.{◌≡◌, ◌<◌, ◌≤◌, ◌^◌, List}
use Rattle.std.specs.Prelude.{Result, Ok, Err}
use Rattle.clap.specs.Words.{found_of}
use Rattle.clap.specs.Walk.{Text, rows_of}
use Rattle.clap.specs.Simple.{App}
use Rattle.clap.specs.declared.ArgMatches.{ArgMatches}
use Rattle.cm_call.specs.declared.call.Call.{Call}
use Rattle.cm_call.specs.declared.call.Call.TheVariants.{Run, Check, Generate, Serve, Audit}
use Rattle.cm_call.specs.declared.call.ServeOptions.{ServeOptions}
use Rattle.cm_call.specs.declared.call.Workload.{Workload}
use Rattle.cm_call.specs.declared.call.WordsFault.{WordsFault}
use Rattle.cm_call.specs.declared.call.WordsFault.TheVariants.{Usage, Memory}
use Rattle.cm_call.specs.Calls.{WordsResult, most_sessions, most_workers, rows_read}

-- what a function returned is what reading gives, unless memory ran out
abbrev pub GivesCall : {X : Type 0} → WordsResult X → WordsResult X → Type 0
GivesCall (Ok x) read = read ≡ Ok x
GivesCall (Err Memory) read = Unit {0}
GivesCall (Err Usage) read = read ≡ Err Usage

-- what the parser returned is what the definition parses, unless memory ran out
abbrev pub Parses : App → List Text → Result ArgMatches WordsFault → Type 0
Parses app words (Ok matches) = rows_read app words ≡ Ok (rows_of (found_of matches))
Parses app words (Err Memory) = Unit {0}
Parses app words (Err Usage) = rows_read app words ≡ Err Usage

-- numbers of sessions and workers that words can ask for
pub record IsServing (o : ServeOptions) : Type 0 where
  pub some_sessions : 0 < o.sessions
  pub sessions : o.sessions ≤ most_sessions
  pub some_workers : 0 < o.workers
  pub workers : o.workers ≤ most_workers

-- a seed and a size that words can ask for
pub record IsWorkload (w : Workload) : Type 0 where
  pub seed : w.seed < 2 ^ 31
  pub some : 0 < w.size
  pub limit : w.size ≤ 10000

-- what is asked for is within all limits
abbrev pub IsPossible : Call → Type 0
IsPossible (Run options) = Unit {0}
IsPossible Check = Unit {0}
IsPossible (Generate w) = IsWorkload w
IsPossible (Serve o) = IsServing o
IsPossible Audit = Unit {0}
