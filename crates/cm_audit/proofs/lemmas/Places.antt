-- Places of a journal: from one line to the next, and the verdict that is found there.
use Rattle.std.proofs.Common.{◌≡◌, ◌⊎◌, inl, inr, ℕ, suc, ◌+◌, ◌-◌, ◌<◌, ◌≤◌, min, Bool, true, false, cond, ◌==◌, List, [], ◌∷◌, ◌++◌, length, refl, sym, ap, subst, ◌∙◌, arith, rules, length-append}
use Rattle.std.proofs.lemmas.List.{append_assoc, append-nil}
use Rattle.cm_facts.proofs.Lists.{cons_first}
use Rattle.cm_command.specs.Scripts.{lines_of, in_prefix}
use Rattle.cm_reply.specs.Lists.{TextBytes}
use Rattle.cm_world.specs.declared.event.Event.{Event}
use Rattle.cm_world.specs.declared.frame.Builtin.{Builtin}
use Rattle.cm_world.specs.declared.reply.Entry.{Entry}
use Rattle.cm_laws.specs.Story.{Story, world_of, entry_of}
use Rattle.cm_reply.specs.Journal.{builtin_text}
use Rattle.cm_reply.specs.Replies.{replied_text}
use Rattle.cm_reply.specs.Lines.{IsEntryLine}
use Rattle.cm_command.specs.Words.{IsUrlText}
use Rattle.cm_audit.specs.declared.head.HeadLine.{HeadLine}
use Rattle.cm_audit.specs.declared.head.HeadLine.TheVariants as said
use Rattle.cm_audit.specs.Expected.{Expects, number_text}
use Rattle.cm_audit.specs.declared.fault.JournalLineFault.{JournalLineFault}
use Rattle.cm_audit.specs.declared.fault.JournalLineFault.TheVariants as fault
use Rattle.cm_audit.specs.Journal.{Stage, before, head, told, Reads, ReadsAll, IsBad, HasNoRoot, frame_of, root_text}
use Rattle.cm_audit.specs.Verdict.{size_of, bytes_of, journal_limit, IsLegalJournal, HasIllegal, HasBadText}
use Rattle.cm_audit.specs.Reading.{IsAt, IsCut, PassesLimit, IsStop, IsIllegal, IsJournalLineFault, IsHeadLine, StepTaken, stage_of, stop_at}

-- ---- lines, one more

-- One more line adds its bytes and its line feed to the size of lines.
pub size_more : (prefix : List TextBytes) (t : TextBytes) → size_of (prefix ++ t ∷ []) ≡ size_of prefix + (length t + 1)
size_more [] t = omega arith
size_more (u ∷ us) t = let more : size_of (us ++ t ∷ []) ≡ size_of us + (length t + 1) = size_more us t in omega (arith, more)

-- Lines that lead to a stage, and one more that leads on from there, lead to the last stage.
pub reads_more : (ts : List TextBytes) (t : TextBytes) (s m u : Stage) → ReadsAll s ts m → Reads m t u → ReadsAll s (ts ++ t ∷ []) u
reads_more [] t s m u same read = (u, subst (λ x. Reads x t u) (sym same) read, refl)
reads_more (x ∷ xs) t s m u all read = (all.0, all.1, reads_more xs t all.0 m u all.2 read)

-- What was taken up to the end of a line and what is left behind it are as many bytes as all.
taken_more : (l s t r b : ℕ) → min l s + r ≡ l → min r (t + 1) + b ≡ r → min l (s + (t + 1)) + b ≡ l
taken_more l s t r b e f = omega arith

module _ {bytes rest : TextBytes} {n : ℕ} {s : Stage} (at : IsAt bytes n rest s) (t behind : TextBytes) (lines : lines_of rest ≡ t ∷ lines_of behind) (end : min (length rest) (length t + 1) + length behind ≡ length rest) where
  -- From a place with a line more, the lines are those taken, that line, and those behind it.
  lines_more : lines_of bytes ≡ at.prefix ++ t ∷ lines_of behind
  lines_more = at.lines ∙ ap (λ ls. at.prefix ++ ls) lines

  -- The lines taken with the next one, and what is left behind it, are as long as all bytes.
  pub taken_next : bytes_of bytes (at.prefix ++ t ∷ []) + length behind ≡ length bytes
  taken_next =
      ap (λ k. min (length bytes) k + length behind) (size_more at.prefix t)
      ∙ taken_more (length bytes) (size_of at.prefix) (length t) (length rest) (length behind) at.taken end

  -- the next line isn't in the grammar
  pub bad : IsBad s t → HasBadText bytes n
  bad wrong = record {
    prefix = at.prefix;
    rest = t ∷ lines_of behind;
    lines = lines_more;
    short = at.short;
    stage = s;
    reads = at.reads;
    fails = inr wrong;
    number_is = at.counted;
  }

  -- or passes the limit
  pub beyond : journal_limit + length behind < length bytes → HasBadText bytes n
  beyond over = record {
    prefix = at.prefix;
    rest = t ∷ lines_of behind;
    lines = lines_more;
    short = at.short;
    stage = s;
    reads = at.reads;
    fails = inl (let all : bytes_of bytes (at.prefix ++ t ∷ []) + length behind ≡ length bytes = taken_next in omega (arith, all, over));
    number_is = at.counted;
  }

-- Where the next line passes the limit, the journal has a bad text at that line.
pub passes : {bytes rest : TextBytes} {n : ℕ} {s : Stage} → IsAt bytes n rest s → PassesLimit (length bytes) rest → HasBadText bytes n
passes at p = beyond at p.line p.behind p.lines p.end p.beyond

-- Before its first line the reading of a journal stands at line 1 with all bytes left.
pub at_start : (bytes : TextBytes) → IsAt bytes 1 bytes before
at_start bytes = record {
  prefix = [];
  lines = refl;
  taken = omega arith;
  short = omega arith;
  counted = refl;
  early = omega arith;
  reads = refl;
}

-- From a place in a journal one line read leads to the place behind that line.
pub at_next : {bytes rest t behind : TextBytes} {n : ℕ} {s u : Stage} → IsAt bytes n rest s → IsCut (length bytes) rest t behind → Reads s t u → IsAt bytes (n + 1) behind u
at_next {bytes} {rest} {t} {behind} {n} {s} {u} at cut read =
    let all : bytes_of bytes (at.prefix ++ t ∷ []) + length behind ≡ length bytes = taken_next at t behind cut.lines cut.end in
    let count : length (at.prefix ++ t ∷ []) ≡ length at.prefix + 1 = length-append at.prefix (t ∷ []) in
    record {
      prefix = at.prefix ++ t ∷ [];
      lines = at.lines ∙ ap (λ ls. at.prefix ++ ls) cut.lines ∙ sym (append_assoc at.prefix (t ∷ []) (lines_of behind));
      taken = all;
      short = omega (arith, all, cut.within);
      counted = omega (arith, at.counted, count);
      early = omega (arith, at.early, at.taken, all, cut.shorter);
      reads = reads_more at.prefix t before s u at.reads read;
    }

-- ---- the first line

-- The first line of some bytes is no longer than they are.
first_short : (bs t : TextBytes) (ts : List TextBytes) → lines_of bs ≡ t ∷ ts → length t ≤ length bs
first_short [] t ts e = absurd (cc e)
first_short (b ∷ bs) t ts e = by (b == 10) (lines_of bs) (first_short bs) e
  where
    by : (v : Bool) (ls : List TextBytes) → ((u : TextBytes) (us : List TextBytes) → ls ≡ u ∷ us → length u ≤ length bs) → cond v ([] ∷ ls) (in_prefix b ls) ≡ t ∷ ts → length t ≤ length (b ∷ bs)
    by true ls ih is = let none : length t ≡ 0 = ap length (sym (cons_first [] t ls ts is)) in omega (arith, none)
    by false [] ih is = let one : length t ≡ 1 = ap length (sym (cons_first (b ∷ []) t [] ts is)) in omega (arith, one)
    by false (u ∷ us) ih is =
        let more : length t ≡ suc (length u) = ap length (sym (cons_first (b ∷ u) t us ts is)) in
        let short : length u ≤ length bs = ih u us refl in
        omega (arith, more, short)

-- The rest of a journal begins with a line, where that line ends within the limit.
pub cut_made : (size : ℕ) (rest t behind : TextBytes) → length rest ≤ size → lines_of rest ≡ t ∷ lines_of behind → min (length rest) (length t + 1) + length behind ≡ length rest → length behind < length rest → size - length behind ≤ journal_limit → IsCut size rest t behind
cut_made size rest t behind within lines end shorter small =
    let short : length t ≤ length rest = first_short rest t (lines_of behind) lines in
    record {
      lines = lines;
      end = end;
      shorter = shorter;
      within = omega (arith, small, shorter, within);
      short = omega (arith, small, shorter, within, end, short);
    }

-- ---- the end

-- Where what is left of a journal has no bytes, it is the empty text.
pub no_rest : {bytes rest : TextBytes} {n : ℕ} {s : Stage} → IsAt bytes n rest s → length rest ≡ 0 → IsAt bytes n [] s
no_rest {rest = []} at e = at
no_rest {rest = b ∷ bs} at e = absurd (omega (arith, e))

-- At a place where nothing is left, the lines are those that were taken.
lines_end : {bytes : TextBytes} {n : ℕ} {s : Stage} (at : IsAt bytes n [] s) → lines_of bytes ≡ at.prefix
lines_end at = at.lines ∙ append-nil at.prefix

-- A journal that ends before the line of the root has a bad text one line behind its last.
pub unended : {bytes rest : TextBytes} {n : ℕ} {s : Stage} → IsAt bytes n rest s → length rest ≡ 0 → HasNoRoot s → HasBadText bytes n
unended {bytes} {n = n} {s = s} at e none = by (no_rest at e)
  where
    by : IsAt bytes n [] s → HasBadText bytes n
    by end = record {
      prefix = end.prefix;
      rest = [];
      lines = end.lines;
      short = end.short;
      stage = s;
      reads = end.reads;
      fails = none;
      number_is = end.counted;
    }

-- A journal that ends behind entries in order is legal, with as many entries as were read.
pub legal : {bytes rest : TextBytes} {n : ℕ} (s : Story) → IsAt bytes n rest (stage_of s) → length rest ≡ 0 → IsLegalJournal bytes (length s.entries)
legal {bytes} {n = n} s at e = by (no_rest at e)
  where
    by : IsAt bytes n [] (stage_of s) → IsLegalJournal bytes (length s.entries)
    by end = record {
      frame = s.frame;
      entries = s.entries;
      reads = subst (λ ls. ReadsAll before ls (stage_of s)) (sym (lines_end end)) end.reads;
      short = let all : bytes_of bytes end.prefix + 0 ≡ length bytes = end.taken in omega (arith, all, end.short);
      counts = refl;
    }

-- ---- a line with a fault

-- A line whose entry isn't legal makes that the verdict on the journal.
pub illegal : {bytes rest t behind : TextBytes} {n number : ℕ} {given expected : TextBytes} (s : Story) → IsAt bytes n rest (stage_of s) → IsCut (length bytes) rest t behind → IsIllegal s t number given expected → HasIllegal bytes number given expected
unfolding world_of
illegal {bytes} {rest} {t} {behind} s at cut wrong =
    let all : bytes_of bytes (at.prefix ++ t ∷ []) + length behind ≡ length bytes = taken_next at t behind cut.lines cut.end in
    record {
      prefix = at.prefix;
      here = t;
      rest = lines_of behind;
      lines = at.lines ∙ ap (λ ls. at.prefix ++ ls) cut.lines;
      short = omega (arith, all, cut.within);
      frame = s.frame;
      entries = s.entries;
      reads = at.reads;
      caller = wrong.caller;
      event = wrong.event;
      line = wrong.line;
      expects = wrong.expects;
    }

-- A fault of the next line ends the reading with the right verdict, or with lack of memory.
pub stops : {bytes rest t behind : TextBytes} {n : ℕ} (s : Story) → IsAt bytes n rest (stage_of s) → IsCut (length bytes) rest t behind → (x : JournalLineFault) → IsJournalLineFault s t x → IsStop bytes (stop_at n x)
stops {t = t} {behind = behind} s at cut fault.Bad wrong = bad at t behind cut.lines cut.end wrong
stops s at cut (fault.Illegal number given expected) wrong = illegal s at cut wrong
stops s at cut fault.Memory wrong = tt

-- ---- where a line leads

-- A head line that says the root leads from the builtins to an empty history with that root.
pub root_reads : (t : TextBytes) (bs : List Builtin) (x : HeadLine) (url : TextBytes) → x ≡ said.Root url → IsHeadLine t x → Reads (head bs) t (told (frame_of bs url) [])
root_reads t bs x url is so =
    let here : IsUrlText url × (t ≡ root_text url) = subst (IsHeadLine t) is so in
    subst (λ l. Reads (head bs) l (told (frame_of bs url) [])) (sym here.1) (Reads.root here.0)

-- A head line that says a builtin leads on to the builtins with that one at their end.
pub builtin_reads : (t : TextBytes) (bs new : List Builtin) (x : HeadLine) (b : Builtin) → x ≡ said.Builtin b → new ≡ bs ++ b ∷ [] → IsHeadLine t x → Reads (head bs) t (head new)
builtin_reads t bs new x b is more so =
    let here : IsHeadLine t (said.Builtin b) = subst (IsHeadLine t) is so in
    subst (λ l. Reads (head bs) l (head new)) (sym here.1)
    (subst (λ ns. Reads (head bs) (builtin_text b) (head ns)) (sym more) (Reads.builtin b here.0))

-- A line with the next number whose event was made with the given reply leads to the new history.
pub took_reads : (old new : Story) (t : TextBytes) (number caller : ℕ) (e : Event) (given : TextBytes) → number ≡ length old.entries + 1 → IsEntryLine t number caller e given → StepTaken old new caller e given → Reads (stage_of old) t (stage_of new)
unfolding world_of
took_reads old new t number caller e given next line took =
    let here : IsEntryLine t (length old.entries + 1) caller e (replied_text took.reply) =
    subst (λ n. IsEntryLine t n caller e (replied_text took.reply)) next (subst (λ g. IsEntryLine t number caller e g) took.same line) in
    subst (λ f. Reads (stage_of old) t (told f new.entries)) (sym took.tells.frame)
    (subst (λ es. Reads (stage_of old) t (told old.frame es)) (sym took.tells.entries)
    (Reads.entry (entry_of caller e took.reply) here took.tells.step))

-- An entry with a number that isn't the next is illegal, and that next number is expected.
pub next_expected : (s : Story) (t : TextBytes) (number caller : ℕ) (e : Event) (given expected : TextBytes) (x : JournalLineFault) → (number ≡ length s.entries + 1 → ⊥) → IsEntryLine t number caller e given → expected ≡ number_text (length s.entries + 1) → x ≡ fault.Illegal number given expected → IsJournalLineFault s t x
next_expected s t number caller e given expected x other line same is =
    subst (IsJournalLineFault s t) (sym is) (record {
      caller = caller;
      event = e;
      line = line;
      expects = subst (λ (y : TextBytes). Expects (world_of s) (length s.entries + 1) number caller e given y) (sym same) (Expects.number other);
    })

-- The entries that were read up to a stage; none before the root.
entries_of : Stage → List Entry
entries_of (told f es) = es
entries_of s = []

-- an entry's line is one entry more
pub one_more : (s u : Story) (t : TextBytes) → Reads (stage_of s) t (stage_of u) → length u.entries ≡ length s.entries + 1
unfolding entries_of
one_more s u t read = by _ _ t read refl refl
  where
    by : (x y : Stage) (l : TextBytes) → Reads x l y → x ≡ stage_of s → y ≡ stage_of u → length u.entries ≡ length s.entries + 1
    by x y l (Reads.entry {es = es} e line step) a b =
        ap length (ap entries_of (sym b)) ∙ length-append es (e ∷ []) ∙ ap (λ ls. length ls + 1) (ap entries_of a)
    by x y l (Reads.skips other) a b = absurd (cc a)
    by x y l Reads.begins a b = absurd (cc a)
    by x y l (Reads.builtin k legible) a b = absurd (cc a)
    by x y l (Reads.root url) a b = absurd (cc a)
