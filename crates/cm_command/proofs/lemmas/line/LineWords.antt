-- The words of a line, read one by one.
use Rattle.std.proofs.Common.{◌≡◌, ◌≢◌, inl, inr, ℕ, ◌+◌, ◌-◌, ◌<◌, ◌≤◌, ◌^◌, [], ◌∷◌, ◌++◌, length, ◌==◌, Result, Ok, Err, MatchResult, codes, refl, sym, ap, subst, ◌∙◌, arith, length-append, zero-add}
use Rattle.std.proofs.lemmas.List.Splits.{slice_split_none, slice_split_at}
use Rattle.cm_names.specs.Prefixes.{HasCompletion, IsLongestPrefix}
use Rattle.cm_facts.proofs.Numbers.{eq_self as same, add_between}
use Rattle.cm_world.specs.declared.frame.Builtin.{Builtin}
use Rattle.cm_command.specs.declared.command.Command.{Command}
use Rattle.cm_command.specs.declared.command.Command.TheVariants as command
use Rattle.cm_command.specs.declared.command.CommandFault.TheVariants as command_fault
use Rattle.cm_command.specs.declared.place.ParsedLine.{ParsedLine}
use Rattle.cm_command.specs.declared.place.ParsedLine.TheVariants as sentence
use Rattle.cm_command.specs.declared.place.LineState.{LineState}
use Rattle.cm_command.specs.declared.place.LineState.TheVariants as place
use Rattle.cm_command.specs.declared.tokens.WordFault.{WordFault}
use Rattle.cm_command.specs.declared.tokens.WordFault.TheVariants.{Bad, Memory}
use Rattle.cm_command.specs.Counts.{CountsPrefixes, IsWordFault, Fits, fault_behind}
use Rattle.cm_command.specs.Words.{words_of}
use Rattle.cm_command.specs.Grammar.{LineBytes, CommandText, CommandWords, IsCommandFault, BuiltinText, BuiltinWords, IsBuiltinFault}
use Rattle.cm_command.specs.Pieces.{PiecesLead, SaysText, Wants}
use Rattle.cm_command.specs.Places.{WordLeads, EndsLine, IsUnended, IsShort, line_fault}
use Rattle.cm_command.proofs.lemmas.bytes.Pieces.{Lacks}
use Rattle.cm_command.proofs.lemmas.counts.Count.{some_prefix, longest}
use Rattle.cm_command.proofs.lemmas.counts.Kind.{counts_same}
use Rattle.cm_command.proofs.lemmas.line.Machine.{BeginsWithPiece, word_says, more_says, counts_piece, counts_more, counts_end}
use Rattle.cm_command.proofs.lemmas.line.LineMachine.{line_machine, name_a, root, root_dot}
use Rattle.cm_command.proofs.lemmas.line.LineGrammar.{command_leads, leads_command, builtin_leads, leads_builtin}

-- what the words of a line say from a place on
abbrev Line : LineState → LineBytes → Type 0
Line p t = SaysText 32 WordLeads EndsLine p t

-- what the rest of the line says from the place on is what the line says
pub record IsUnderWay (from : LineState) (line : LineBytes) (p : LineState) (rest : LineBytes) (prefix : ℕ) : Type 0 where
  pub whole : prefix + length rest ≡ length line
  pub says : (s : ParsedLine) → PiecesLead WordLeads EndsLine p (words_of rest) s → PiecesLead WordLeads EndsLine from (words_of line) s
  pub said : SaysText 32 WordLeads EndsLine from line → SaysText 32 WordLeads EndsLine p rest
  pub counts : (n : ℕ) → CountsPrefixes (SaysText 32 WordLeads EndsLine p) rest n → CountsPrefixes (SaysText 32 WordLeads EndsLine from) line (prefix + n)

-- Before the first word, what the rest of a line says is what the line says.
pub at_start : (from : LineState) (line : LineBytes) → IsUnderWay from line from line 0
at_start from line = record {
  whole = omega arith;
  says = λ s h. h;
  said = λ h. h;
  counts = λ n h. subst (CountsPrefixes (Line from) line) (sym (zero-add n)) h;
}

-- The place that a word leads to is the one that it is known to lead to.
same_place : (p next a : LineState) (word : LineBytes) → WordLeads p word next → WordLeads p word a → a ≡ next
same_place p next a word st other = line_machine.one_way p word a next other st

-- Behind a word that leads on and a space, the rest still says what the line says.
pub further : {from p : LineState} {line rest : LineBytes} {prefix : ℕ} (h : IsUnderWay from line p rest prefix) (word more : LineBytes) (next : LineState) → Lacks 32 word → rest ≡ word ++ 32 ∷ more → WordLeads p word next → IsUnderWay from line next more (prefix + length word + 1)
further {from} {p} {line} {rest} {prefix} h word more next clean e st = record {
  whole = omega (arith, h.whole, ap length e, length-append word (32 ∷ more));
  says = λ s led. h.says s (subst (λ t. PiecesLead WordLeads EndsLine p (words_of t) s) (sym e) (subst (λ ws. PiecesLead WordLeads EndsLine p ws s) (sym (slice_split_at (λ b. b == 32) word 32 more clean (same 32))) (next, st, led)));
  said = λ all. let on = more_says 32 WordLeads EndsLine p word more clean (subst (Line p) e (h.said all)) in subst (λ q. Line q more) (same_place p next on.0 word st on.1) on.2;
  counts = λ n c. subst (CountsPrefixes (Line from) line) (add_between prefix (length word) n) (h.counts (length word + 1 + n) (subst (λ t. CountsPrefixes (Line p) t (length word + 1 + n)) (sym e) (counts_more 32 WordLeads EndsLine line_machine p next word more n st c)));
}

-- the next word begins inside of the line
pub room : {from p : LineState} {line rest : LineBytes} {prefix : ℕ} (h : IsUnderWay from line p rest prefix) (word more : LineBytes) → rest ≡ word ++ 32 ∷ more → length line < 2 ^ 32 → prefix + length word + 1 < 2 ^ 64
room h word more e short = omega (arith, h.whole, ap length e, length-append word (32 ∷ more))

-- The first word of what a place reads as a line leads on from there.
wanted : (p : LineState) (rest word : LineBytes) → Lacks 32 word → BeginsWithPiece 32 word rest → Line p rest → Wants WordLeads p word
wanted p rest word clean (inl e) h =
    let on = word_says 32 WordLeads EndsLine p word clean (subst (Line p) e h) in
    (on.0, on.1)
wanted p rest word clean (inr m) h =
    let on = more_says 32 WordLeads EndsLine p word m.0 clean (subst (Line p) m.1 h) in
    (on.0, on.1)

-- The first word of a text is no longer than the text.
piece_within : (rest word : LineBytes) → BeginsWithPiece 32 word rest → length word ≤ length rest
piece_within rest word (inl e) = omega (arith, ap length e)
piece_within rest word (inr m) = omega (arith, ap length m.1, length-append word (32 ∷ m.0))

-- the fault of the word fits behind what is read
pub fits : {from p : LineState} {line rest : LineBytes} {prefix : ℕ} (h : IsUnderWay from line p rest prefix) (word : LineBytes) (e : WordFault) → length line < 2 ^ 32 → BeginsWithPiece 32 word rest → IsWordFault (Wants WordLeads p) word e → Fits prefix e
fits h word (Bad n) short begins fault = omega (arith, h.whole, fault.1.within, piece_within _ word begins)
fits h word Memory short begins fault = tt

-- Where a word leads nowhere from a state, the line's fault is that of the word, behind what was read.
pub faulty : {from p : LineState} {line rest : LineBytes} {prefix : ℕ} (h : IsUnderWay from line p rest prefix) (word : LineBytes) (e : WordFault) → Lacks 32 word → BeginsWithPiece 32 word rest → IsWordFault (Wants WordLeads p) word e → IsWordFault (SaysText 32 WordLeads EndsLine from) line (fault_behind prefix e)
faulty {from} {p} {line} {rest} {prefix} h word (Bad n) clean begins fault =
    ((λ all. fault.0 (wanted p rest word clean begins (h.said all))), h.counts n (counts_piece 32 WordLeads EndsLine line_machine p word rest n clean fault.0 fault.1 begins))
faulty h word Memory clean begins fault = tt

-- A text that has no space is one word.
last_word : (word : LineBytes) → Lacks 32 word → words_of word ≡ word ∷ []
last_word word clean = slice_split_none (λ b. b == 32) word clean

-- Where the word that leads on is the last one, the line ends there: it says something, or is unended.
pub ended : {from p : LineState} {line rest : LineBytes} {prefix : ℕ} (h : IsUnderWay from line p rest prefix) (word : LineBytes) (next : LineState) (r : Result ParsedLine WordFault) → Lacks 32 word → rest ≡ word → WordLeads p word next → MatchResult r (λ s. EndsLine next s) (λ e. IsUnended next (length line) e) → MatchResult r (λ s. PiecesLead WordLeads EndsLine from (words_of line) s) (λ e. IsWordFault (SaysText 32 WordLeads EndsLine from) line e)
ended {from} {p} {line} {rest} h word next (Ok s) clean e st ends =
    h.says s (subst (λ t. PiecesLead WordLeads EndsLine p (words_of t) s) (sym e) (subst (λ ws. PiecesLead WordLeads EndsLine p ws s) (sym (last_word word clean)) (next, st, ends)))
ended {from} {p} {line} {rest} {prefix} h word next (Err (Bad n)) clean e st ends =
    let counts = h.counts (length word + 1) (subst (λ t. CountsPrefixes (Line p) t (length word + 1)) (sym e) (counts_end 32 WordLeads EndsLine line_machine p next word st)) in
    let same : prefix + (length word + 1) ≡ n = omega (arith, h.whole, ends.1, ap length e) in
    ((λ all. let on = word_says 32 WordLeads EndsLine p word clean (subst (Line p) e (h.said all)) in ends.0 on.2.0 (subst (λ q. EndsLine q on.2.0) (same_place p next on.0 word st on.1) on.2.1)), subst (CountsPrefixes (Line from) line) same counts)
ended h word next (Err Memory) clean e st ends = tt

-- ---- the lines of a kind

-- each line of the kind says one thing, to which its words lead from the place, and nothing else does
pub record IsKind {A : Type 0} (from : LineState) (say : A → ParsedLine) (Is : LineBytes → A → Type 0) : Type 0 where
  leads : (t : LineBytes) (s : ParsedLine) → PiecesLead WordLeads EndsLine from (words_of t) s → (a : A) × (s ≡ say a) × Is t a
  says : (t : LineBytes) (a : A) → Is t a → PiecesLead WordLeads EndsLine from (words_of t) (say a)
  begins : HasCompletion (λ t. (a : A) × Is t a) []
  one : (a b : A) → say a ≡ say b → a ≡ b

module _ {A : Type 0} {from : LineState} {say : A → ParsedLine} {Is : LineBytes → A → Type 0} (k : IsKind from say Is) where
  -- A line whose words lead to something of a kind is a line of that kind that says this.
  pub read : (t : LineBytes) (s : ParsedLine) (a : A) → s ≡ say a → PiecesLead WordLeads EndsLine from (words_of t) s → Is t a
  read t s a e h =
      let said = k.leads t s h in
      subst (Is t) (k.one said.0 a (sym said.1 ∙ e)) said.2

  -- the words lead to nothing else
  pub no_other : (t : LineBytes) (s : ParsedLine) → ((a : A) → s ≡ say a → ⊥) → PiecesLead WordLeads EndsLine from (words_of t) s → ⊥
  no_other t s other h = let said = k.leads t s h in other said.0 said.1

  -- A text that is something of the kind is read as a line from the start.
  line_says : (t : LineBytes) → (a : A) × Is t a → Line from t
  line_says t h = (say h.0, k.says t h.0 h.1)

  -- Prefixes counted for lines from the start are counted for texts that are something of the kind.
  counts : (t : LineBytes) (n : ℕ) → CountsPrefixes (Line from) t n → CountsPrefixes (λ u. (a : A) × Is u a) t n
  counts t n h = counts_same {P = Line from} {Q = λ u. (a : A) × Is u a} t n (λ u says. let said = k.leads u says.0 says.1 in (said.0, said.2)) line_says h

  -- The fault of a line below 2 to the 32 bytes counts a prefix at least, and stays in 32 bits.
  pub short : (t : LineBytes) (e : WordFault) → length t < 2 ^ 32 → IsWordFault (SaysText 32 WordLeads EndsLine from) t e → IsShort e
  short t (Bad n) low h = (some_prefix t n (counts t n h.1) k.begins, omega (arith, h.1.within))
  short t Memory low h = tt

  -- a line that is none of the kind has a longest prefix
  pub longest_prefix : (t : LineBytes) (n : ℕ) → IsWordFault (SaysText 32 WordLeads EndsLine from) t (Bad n) → ((a : A) × Is t a → ⊥) × IsLongestPrefix (λ u. (a : A) × Is u a) t (n - 1)
  longest_prefix t n h = ((λ is. h.0 (line_says t is)), longest t n (counts t n h.1) (some_prefix t n (counts t n h.1) k.begins))

-- ---- commands

-- Each line of a command says that command, to which its words lead from the first place.
pub commands : IsKind place.Start sentence.Command CommandText
commands = record {
  leads = λ t s h. leads_command (words_of t) s h;
  says = λ t c h. command_leads h;
  begins = (codes "show .", (command.Show root, CommandWords.show root_dot));
  one = λ c d same. cc same;
}

-- No words lead from the first place of a line to a builtin.
pub no_builtin : (t : LineBytes) (s : ParsedLine) (b : Builtin) → s ≡ sentence.Builtin b → PiecesLead WordLeads EndsLine place.Start (words_of t) s → ⊥
no_builtin t s b e h = no_other commands t s (λ c same. differ c (sym e ∙ same)) h where
  differ : (c : Command) → sentence.Builtin b ≡ sentence.Command c → ⊥
  differ c same = cc same

-- Where memory lasts, the fault of a line from its first place is that of one without a command.
pub command_faulty : (t : LineBytes) (e : WordFault) → IsWordFault (SaysText 32 WordLeads EndsLine place.Start) t e → line_fault e ≢ command_fault.Memory → IsCommandFault t (line_fault e)
command_faulty t (Bad n) h told = longest_prefix commands t n h
command_faulty t Memory h told = absurd (told refl)

-- ---- builtin capabilities

-- Each text of a builtin says that builtin, to which its words lead from behind `builtin`.
pub builtins : IsKind place.BuiltinKind sentence.Builtin BuiltinText
builtins = record {
  leads = λ t s h. leads_builtin (words_of t) s h;
  says = λ t b h. builtin_leads h;
  begins = (codes "protocol a", (_, BuiltinWords.protocol name_a));
  one = λ b c same. cc same;
}

-- No words lead from the place behind `builtin` to a command.
pub no_command : (t : LineBytes) (s : ParsedLine) (c : Command) → s ≡ sentence.Command c → PiecesLead WordLeads EndsLine place.BuiltinKind (words_of t) s → ⊥
no_command t s c e h = no_other builtins t s (λ b same. differ b (sym e ∙ same)) h where
  differ : (b : Builtin) → sentence.Command c ≡ sentence.Builtin b → ⊥
  differ b same = cc same

-- Where memory lasts, the fault of a text behind `builtin` is that of one without a builtin.
pub builtin_faulty : (t : LineBytes) (e : WordFault) → IsWordFault (SaysText 32 WordLeads EndsLine place.BuiltinKind) t e → line_fault e ≢ command_fault.Memory → IsBuiltinFault t (line_fault e)
builtin_faulty t (Bad n) h told = longest_prefix builtins t n h
builtin_faulty t Memory h told = absurd (told refl)
