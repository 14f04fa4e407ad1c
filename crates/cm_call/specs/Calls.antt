-- Promised.
-- What the words that follow the program's name ask for. An `App` is a parser of words, and a `Rule`
-- says one option.
use Rattle.std.specs.Prelude.{ℕ, Bool, true, false, List, [], ◌∷◌, codes}
use Rattle.std.specs.Prelude.{Option, Some, None, Result, Ok, Err, if◌then◌else◌}
use Rattle.std.specs.Str.{bytes_eq}
use Rattle.std.specs.Str.Parse.{digits_value, without_leading_plus}
use Rattle.clap.specs.Words.{first_of}
use Rattle.clap.specs.Walk.{Rule, Row, Text}
use Rattle.clap.specs.Simple.{App, new_app, new_rule, with_rule, on_top, matches_of}
use Rattle.clap.specs.Faults.{fault_of}
use Rattle.clap.specs.Kinds.{Kinds}
use Rattle.clap.specs.ValueTests.{accepts}
use Rattle.clap.specs.declared.builder.ValueParser.TheVariants as value
use Rattle.clap.specs.declared.builder.ArgAction.TheVariants.{Set, SetTrue}
use Rattle.cm_names.specs.Steps.{◌>>=◌}
use Rattle.cm_call.specs.declared.call.Call.{Call}
use Rattle.cm_call.specs.declared.call.Call.TheVariants.{Run, Check, Generate, Serve, Audit}
use Rattle.cm_call.specs.declared.call.RunOptions.{RunOptions}
use Rattle.cm_call.specs.declared.call.Wanted.{Wanted}
use Rattle.cm_call.specs.declared.call.Wanted.TheVariants.{Answers, Environments, Storage}
use Rattle.cm_call.specs.declared.call.WordsFault.{WordsFault}
use Rattle.cm_call.specs.declared.call.WordsFault.TheVariants.{Usage}

-- what words ask for, or that they ask for nothing (or memory ran out)
abbrev pub WordsResult : Type 0 → Type 0
WordsResult A = Result A WordsFault

-- the option `--journal`, which has no value
abbrev pub journal_rule : Rule
journal_rule = record (new_rule (codes "journal")) { long = Some (codes "journal"); action = Some SetTrue }

-- the option `--repo DIR`
abbrev pub repo_rule : Rule
repo_rule = record (new_rule (codes "repo")) { long = Some (codes "repo"); action = Some Set }

-- a parser without options, for the words that follow this command
abbrev pub app_named : List ℕ → App
app_named name = on_top (λ s. record s { no_binary_name = true }) (new_app name)

-- the parser for `run`: `[--journal] [--repo DIR]`
abbrev pub run_app : App
run_app = with_rule (with_rule (app_named (codes "run")) journal_rule) repo_rule

-- the parser for `environments` and `storage`: `[--repo DIR]`; its own name is never printed
abbrev pub report_app : App
report_app = with_rule (app_named (codes "report")) repo_rule

-- the parser for `check`, which takes no further words
abbrev pub check_app : App
check_app = app_named (codes "check")

-- the parser for `audit`, which takes no further words
abbrev pub audit_app : App
audit_app = app_named (codes "audit")

-- a whole number from low to high, given by its place, which has to be there
abbrev pub number_rule : List ℕ → ℕ → ℕ → Rule
number_rule name low high =
    record (new_rule name) { required = true; action = Some Set; parser = Some (value.Unsigned low high) }

-- the greatest seed of a workload
abbrev pub last_seed : ℕ
last_seed = 2147483647

-- the most instances of a workload
abbrev pub most_instances : ℕ
most_instances = 10000

-- the parser for `generate`: `SEED SIZE`
abbrev pub generate_app : App
generate_app =
    with_rule (with_rule (app_named (codes "generate")) (number_rule (codes "seed") 0 last_seed))
    (number_rule (codes "size") 1 most_instances)

-- a text, given by its place, which has to be there
abbrev pub text_rule : List ℕ → Rule
text_rule name = record (new_rule name) { required = true; action = Some Set }

-- a text, given by `--` and this name, which has to be there
abbrev pub named_rule : List ℕ → Rule
named_rule name = record (text_rule name) { long = Some name }

-- a whole number from low to high, given by `--` and this name
abbrev pub count_rule : List ℕ → ℕ → ℕ → Rule
count_rule name low high =
    record (new_rule name) { long = Some name; action = Some Set; parser = Some (value.Unsigned low high) }

-- the most sessions that `serve` can be asked for
abbrev pub most_sessions : ℕ
most_sessions = 4096

-- the most workers that `serve` can be asked for
abbrev pub most_workers : ℕ
most_workers = 16

-- the first part of the parser for `serve`: `SOCKET --root URL`, where links come and the realm's root
abbrev pub place_app : App
place_app =
    with_rule (with_rule (app_named (codes "serve")) (text_rule (codes "socket"))) (named_rule (codes "root"))

-- the first two parts of the parser for `serve`: `SOCKET --root URL --repo DIR`, with the folder of
-- manifests
abbrev pub needed_app : App
needed_app = with_rule place_app (named_rule (codes "repo"))

-- the parser for `serve`: `SOCKET --root URL --repo DIR [--sessions N] [--workers W]`
abbrev pub serve_app : App
serve_app =
    with_rule (with_rule needed_app (count_rule (codes "sessions") 1 most_sessions))
    (count_rule (codes "workers") 1 most_workers)

-- whether a parser found no fault
abbrev pub is_free : Kinds → Bool
is_free [] = true
is_free (kind ∷ kinds) = false

-- what a parser makes of words, where it finds no fault in them
abbrev pub rows_read : App → List Text → WordsResult (List Row)
rows_read app words = if is_free (fault_of app words) then Ok (matches_of app words) else Err Usage

-- whether an option without a value was given
abbrev pub is_yes : Option Text → Bool
is_yes None = false
is_yes (Some text) = bytes_eq text (codes "true")

-- what the parsed words of `run` ask for
abbrev pub options_in : List Row → RunOptions
options_in rows =
    record {
      wanted = Answers (is_yes (first_of (codes "journal") rows));
      repository = first_of (codes "repo") rows;
    }

-- what the parsed words of a report ask for
abbrev pub report_in : Wanted → List Row → RunOptions
report_in wanted rows = record { wanted = wanted; repository = first_of (codes "repo") rows }

-- what is asked for, made of the parsed words, or the parser's fault
abbrev pub on_rows : {X : Type 0} → (List Row → X) → WordsResult (List Row) → WordsResult X
on_rows f (Ok rows) = Ok (f rows)
on_rows f (Err e) = Err e

-- what the words after `run` ask for
abbrev pub run_words : List Text → WordsResult Call
run_words words = on_rows (λ rows. Run (options_in rows)) (rows_read run_app words)

-- what the words after `environments` or `storage` ask for
abbrev pub report_words : Wanted → List Text → WordsResult Call
report_words wanted words = on_rows (λ rows. Run (report_in wanted rows)) (rows_read report_app words)

-- what the words after `check` ask for
abbrev pub check_words : List Text → WordsResult Call
check_words words = on_rows (λ rows. Check) (rows_read check_app words)

-- what the words after `audit` ask for
abbrev pub audit_words : List Text → WordsResult Call
audit_words words = on_rows (λ rows. Audit) (rows_read audit_app words)

-- the number that a text is, if it is one from low to high; a plus may stand before its digits
abbrev pub number_in : ℕ → ℕ → Option Text → WordsResult ℕ
number_in low high None = Err Usage
number_in low high (Some text) =
    if accepts false (value.Unsigned low high) text then Ok (digits_value 10 (without_leading_plus text))
    else Err Usage

-- what the parsed words of `generate` ask for
unfoldable pub workload_in : List Row → WordsResult Call
workload_in rows = do
  seed ← number_in 0 last_seed (first_of (codes "seed") rows)
  size ← number_in 1 most_instances (first_of (codes "size") rows)
  Ok (Generate (record { seed = seed; size = size }))

-- what the words after `generate` ask for
unfoldable pub generate_words : List Text → WordsResult Call
generate_words words = do
  rows ← rows_read generate_app words
  workload_in rows

-- the text that was given, which has to be there
abbrev pub text_in : Option Text → WordsResult Text
text_in None = Err Usage
text_in (Some text) = Ok text

-- the number that was given, from low to high, or the other one where none was given
abbrev pub number_or : ℕ → ℕ → ℕ → Option Text → WordsResult ℕ
number_or other low high None = Ok other
number_or other low high (Some text) = number_in low high (Some text)

-- what the parsed words of `serve` ask for; there are one session and four workers unless they say
-- else
unfoldable pub serving_in : List Row → WordsResult Call
serving_in rows = do
  socket ← text_in (first_of (codes "socket") rows)
  root ← text_in (first_of (codes "root") rows)
  repository ← text_in (first_of (codes "repo") rows)
  sessions ← number_or 1 1 most_sessions (first_of (codes "sessions") rows)
  workers ← number_or 4 1 most_workers (first_of (codes "workers") rows)
  Ok (Serve (record {
    socket = socket;
    root = root;
    repository = repository;
    sessions = sessions;
    workers = workers;
  }))

-- what the words after `serve` ask for
unfoldable pub serve_words : List Text → WordsResult Call
serve_words words = do
  rows ← rows_read serve_app words
  serving_in rows

-- what all words ask for: the first is the command, and the others are for its parser
unfoldable pub words_of : List Text → WordsResult Call
words_of [] = Err Usage
words_of (word ∷ words) =
    if bytes_eq word (codes "run") then run_words words
    else if bytes_eq word (codes "check") then check_words words
    else if bytes_eq word (codes "generate") then generate_words words
    else if bytes_eq word (codes "serve") then serve_words words
    else if bytes_eq word (codes "audit") then audit_words words
    else if bytes_eq word (codes "environments") then report_words Environments words
    else if bytes_eq word (codes "storage") then report_words Storage words
    else Err Usage
