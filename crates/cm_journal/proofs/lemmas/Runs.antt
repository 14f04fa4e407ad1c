-- The journal of a run is legal.
use Rattle.std.proofs.Common.{ℕ, ◌+◌, ◌<◌, ◌≤◌, ◌^◌, List, [], ◌∷◌, ◌++◌, length, map, All, sym, subst, arith, length-append}
use Rattle.std.proofs.lemmas.List.Elements.{All-cons, All-nil, All-head, All-tail}
use Rattle.cm_world.specs.declared.action.Finish.TheVariants as finish
use Rattle.cm_world.specs.declared.event.Event.TheVariants as event
use Rattle.cm_world.specs.declared.frame.Frame.{Frame}
use Rattle.cm_world.specs.declared.reply.Entry.{Entry}
use Rattle.cm_reply.specs.Lists.{TextBytes}
use Rattle.cm_reply.specs.Journal.{line, entry_text, header_text, entries_text, journal_text}
use Rattle.cm_command.specs.declared.script.Line.{Line}
use Rattle.cm_command.specs.WrittenInside.{IsWritable}
use Rattle.cm_lanes.specs.Script.{AnsweredLine, answered_lines}
use Rattle.cm_lanes.specs.ScriptInside.{IsFit}
use Rattle.cm_audit.specs.Laws.{IsLegibleHistory}
use Rattle.cm_audit.specs.Verdict.{journal_limit}
use Rattle.cm_typed.specs.Typed.{IsTypedEntry}
use Rattle.cm_legible.proofs.lemmas.Journals.{all_named, journals_are_legal}
use Rattle.cm_journal.specs.Asked.{AreWritableLines}
use Rattle.cm_journal.specs.Prefix.{said_text}
use Rattle.cm_journal.specs.Said.{OfReplies, AreOfLanes}
use Rattle.cm_journal.specs.Made.{IsBrought, AreWritable}
use Rattle.cm_journal.specs.Legible.{SaidIsLegible, RunsWriteLegalJournals}
use Rattle.cm_journal.proofs.lemmas.Made.{phases_make_asked, of_all_by}
use Rattle.cm_journal.proofs.lemmas.Results.{results_are_legible}
use Rattle.cm_journal.proofs.lemmas.Spoken.{said_is_in_prefix}

-- An event that is legible by its types, its command and the work of its action is legible.
pub said_is_legible : SaidIsLegible
said_is_legible (event.Find m) t a b = a
said_is_legible (event.Begin k i) t a b = t
said_is_legible (event.End x (finish.Resolved u d)) t a b = (t.0, b)
said_is_legible (event.End x (finish.Other o)) t a b = t
said_is_legible (event.Await x) t a b = t
said_is_legible (event.Create i child) t a b = (t, a.0, a.1, a.2, a.3)
said_is_legible (event.Mark d i) t a b = t
said_is_legible (event.Pick i) t a b = t
said_is_legible (event.Purge i) t a b = t
said_is_legible (event.Route i p) t a b = t
said_is_legible (event.OpenUse i p) t a b = t
said_is_legible (event.OpenExposed i n) t a b = t
said_is_legible (event.Listing i n) t a b = t
said_is_legible (event.Show i) t a b = t
said_is_legible (event.Survey i) t a b = t
said_is_legible (event.Exited i) t a b = t
said_is_legible (event.Tail i from) t a b = t
said_is_legible (event.Reap i) t a b = t

-- a journal has more bytes than entries
longer : (n : ℕ) (es : List Entry) → length es ≤ length (entries_text n es)
longer n [] = omega arith
longer n (e ∷ es) = omega (arith, longer (n + 1) es, length-append (line (entry_text n e)) (entries_text (n + 1) es), length-append (entry_text n e) (10 ∷ []))

-- A history whose journal is within the limit has fewer entries than 64 bits count.
few : (f : Frame) (prefix : TextBytes) (es : List Entry) → length (prefix ++ journal_text f es) ≤ journal_limit → length es < 2 ^ 64
few f prefix es short =
    omega (arith, longer 1 es, length-append prefix (journal_text f es), length-append (header_text f) (entries_text 1 es), short)

-- What holds of each answer whose line has a property holds of all, where all lines have it.
of_lines : (P : AnsweredLine → Type 0) (Q : Line → Type 0) → ((a : AnsweredLine) → Q a.line → P a) → (xs : List AnsweredLine) → All Q (answered_lines xs) → All P xs
of_lines P Q each [] h = All-nil P
of_lines P Q each (x ∷ xs) h = All-cons P x xs (each x (All-head Q x.line (answered_lines xs) h)) (of_lines P Q each xs (All-tail Q x.line (answered_lines xs) h))

-- What follows of the lines of answers holds of the answers in all phases.
of_phases : (P : AnsweredLine → Type 0) (Q : Line → Type 0) → ((a : AnsweredLine) → Q a.line → P a) → (answered : List (List AnsweredLine)) → All (All Q) (map answered_lines answered) → All (All P) answered
of_phases P Q each [] h = All-nil (All P)
of_phases P Q each (xs ∷ others) h =
    All-cons (All P) xs others (of_lines P Q each xs (All-head (All Q) (answered_lines xs) (map answered_lines others) h)) (of_phases P Q each others (All-tail (All Q) (answered_lines xs) (map answered_lines others) h))

-- What is written of a run with its journal is a legal journal, unless it is too large.
pub runs_write : RunsWriteLegalJournals
runs_write f phases answered history run h short =
    let writable : AreWritable answered = of_phases _ (λ (l : Line). IsWritable l.command) (λ a w. w) answered (subst (All AreWritableLines) (sym run.lines) run.writable) in
    let few_lanes : AreOfLanes answered = of_phases _ IsFit (λ a w. w.lane) answered (subst (All (λ (ls : List Line). All IsFit ls)) (sym run.lines) run.fit) in
    let asked = phases_make_asked f answered history writable run.performed run.callers in
    let brought : All (λ (e : Entry). IsBrought e.event) history = of_all_by (λ (e : Entry). IsBrought e.event) history run.callers run.works in
    let legible : IsLegibleHistory history = record {
      callers = λ k x lt. (let t : IsTypedEntry _ = run.typed k x lt in t.caller);
      events = λ k x lt. (let t : IsTypedEntry _ = run.typed k x lt in said_is_legible _ t.event (asked k x lt) (brought k x lt));
      few = few f (said_text answered) history short;
    } in
    let replies : OfReplies history = all_named f history h run.legal legible in
    journals_are_legal (said_text answered) f history
    (said_is_in_prefix answered writable (results_are_legible f answered history replies few_lanes run.performed))
    h run.legal legible short
