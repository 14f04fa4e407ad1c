-- An event is told in one way.
use Rattle.std.proofs.Common.{IsUtf8, ◌≡◌, ℕ, ◌<◌, ◌^◌, List, [], ◌∷◌, ◌++◌, codes, decimal, Bool, true, false, Some, refl, sym, ap, ap₂, subst, ◌∙◌, append-nil, inl, inr, ◌⊎◌, true≢false, drop, arith}
use Rattle.std.proofs.lemmas.Fmt.{decimal_injective}
use Rattle.std.proofs.lemmas.Option.{same_Some}
use Rattle.cm_names.specs.Moniker.{moniker_text, IsMonikerTextOf}
use Rattle.cm_names.proofs.lemmas.texts.MonikerParts.{reads_one_way_lem, writes_its_text_lem}
use Rattle.cm_decl.specs.Words.{section_word}
use Rattle.cm_decl.specs.declared.section.Section.{Section}
use Rattle.cm_read.specs.Readable.{IsReadable}
use Rattle.cm_read.proofs.lemmas.back.TextBack.{texts_are_read_back_lem}
use Rattle.cm_world.specs.declared.action.ActKind.{ActKind}
use Rattle.cm_world.specs.declared.action.ActKind.TheVariants as act
use Rattle.cm_world.specs.declared.action.FaultNote.{FaultNote}
use Rattle.cm_world.specs.declared.action.Finish.{Finish}
use Rattle.cm_world.specs.declared.action.Finish.TheVariants as finish
use Rattle.cm_world.specs.declared.action.Outcome.{Outcome}
use Rattle.cm_world.specs.declared.action.Outcome.TheVariants as outcome
use Rattle.cm_world.specs.declared.event.Event.{Event}
use Rattle.cm_command.specs.declared.command.Command.{Command}
use Rattle.cm_command.proofs.lemmas.bytes.Pieces.{Lacks}
use Rattle.cm_command.proofs.lemmas.line.LineGrammar as grammar
use Rattle.cm_command.proofs.lemmas.line.SpacelessWords.{url_lacks}
use Rattle.cm_reply.specs.Lists.{TextBytes}
use Rattle.cm_reply.specs.States.{act_word, outcome_text}
use Rattle.cm_reply.specs.Events.{mark_word, finish_text, event_text}
use Rattle.cm_reply.specs.Legible.{IsLegible, IsLegibleFinish, IsLegibleOutcome, IsLegibleNote}
use Rattle.cm_reply.specs.Lines.{asked_text, IsEntryLine}
use Rattle.cm_reply.specs.LinesInside.{IsCutAtLast, AreSame, EntriesReadOneWay}
use Rattle.cm_reply.specs.EventWords.{Told, event_of, told_text, word_of, IsTold, event_named}
use Rattle.cm_reply.specs.Reading.{IsPlain, outcome_named, section_named, note_words, IsAskable, text_of_asked, line_of}
use Rattle.cm_reply.specs.declared.reading.Asked.{Asked}
use Rattle.cm_reply.specs.declared.event_words.EventWord.{EventWord}
use Rattle.cm_reply.specs.declared.event_words.EventWord.TheVariants as word
use Rattle.cm_reply.proofs.lemmas.back.Cuts.{cut_once, digits_lack}
use Rattle.cm_reply.proofs.lemmas.back.Named.{has_at, word_lacks, event_found, each_is_told_lem, kind_lacks, mark_lacks, outcome_found, IsInvalid, invalid_is, section_lacks, section_found, resolved_no_outcome}
use Rattle.cm_reply.proofs.lemmas.back.Declared.{decl_one}
use Rattle.cm_reply.proofs.lemmas.back.Created.{command_of, told_created}
use Rattle.cm_reply.proofs.lemmas.back.Arrows.{one_cut, entry_is}

-- ---- words

-- Two numbers of 64 bits, each with a space and a rest, are the same where they are written alike.
numbers_one : (n m : ℕ) (x y : TextBytes) → n < 2 ^ 64 → m < 2 ^ 64 → decimal n ++ 32 ∷ x ≡ decimal m ++ 32 ∷ y → (n ≡ m) × (x ≡ y)
numbers_one n m x y small low e =
    let parts : (decimal n ≡ decimal m) × (x ≡ y) = cut_once 32 (decimal n) (decimal m) x y (digits_lack n small) (digits_lack m low) e in
    (decimal_injective n m small low parts.0, parts.1)

-- No two kinds of actions have the same word.
kinds_one : (k l : ActKind) → act_word k ≡ act_word l → k ≡ l
kinds_one act.Resolve act.Resolve e = refl
kinds_one act.Resolve act.Start e = absurd (true≢false (ap (has_at 0 114) e))
kinds_one act.Resolve act.Stop e = absurd (true≢false (ap (has_at 0 114) e))
kinds_one act.Start act.Resolve e = absurd (true≢false (sym (ap (has_at 0 114) e)))
kinds_one act.Start act.Start e = refl
kinds_one act.Start act.Stop e = absurd (true≢false (ap (has_at 2 97) e))
kinds_one act.Stop act.Resolve e = absurd (true≢false (sym (ap (has_at 0 114) e)))
kinds_one act.Stop act.Start e = absurd (true≢false (sym (ap (has_at 2 97) e)))
kinds_one act.Stop act.Stop e = refl

-- The two marks have different words.
marks_one : (a b : Bool) → mark_word a ≡ mark_word b → a ≡ b
marks_one true true e = refl
marks_one true false e = absurd (true≢false (ap (has_at 0 100) e))
marks_one false true e = absurd (true≢false (sym (ap (has_at 0 100) e)))
marks_one false false e = refl

-- ---- outcomes

-- Two plain outcomes that are written alike are the same.
plain_one : (o p : Outcome) → IsPlain o → IsPlain p → outcome_text o ≡ outcome_text p → o ≡ p
plain_one o p h k e = same_Some o p (sym (outcome_found o h) ∙ ap outcome_named e ∙ outcome_found p k)

-- No two notes have the same word for different sections.
sections_one : (n m : FaultNote) → section_word n.section ≡ section_word m.section → n.section ≡ m.section
sections_one n m e = same_Some n.section m.section (sym (section_found n.section) ∙ ap section_named e ∙ section_found m.section)

-- The note of a fault of this number, section and index.
note_at : ℕ → Section → ℕ → FaultNote
note_at n s i = record { number = n; section = s; index = i }

-- Notes of faults with the same number, section and index are the same.
note_same : (n m : FaultNote) → n.number ≡ m.number → n.section ≡ m.section → n.index ≡ m.index → n ≡ m
unfolding note_at
note_same n m a b c =
    ap (λ k. note_at k n.section n.index) a ∙ ap (λ k. note_at m.number k n.index) b ∙ ap (note_at m.number m.section) c

-- Two legible notes of faults that are written alike are the same.
notes_one : (n m : FaultNote) → IsLegibleNote n → IsLegibleNote m → note_words n ≡ note_words m → n ≡ m
notes_one n m h k e =
    let small : n.number < 2 ^ 64 = omega (arith, h.number) in
    let low : m.number < 2 ^ 64 = omega (arith, k.number) in
    let first = numbers_one n.number m.number _ _ small low e in
    let second = cut_once 32 (section_word n.section) (section_word m.section) _ _ (section_lacks n.section) (section_lacks m.section) first.1 in
    let last : decimal n.index ≡ decimal m.index = sym (append-nil (decimal n.index)) ∙ second.1 ∙ append-nil (decimal m.index) in
    note_same n m first.0 (sections_one n m second.0) (decimal_injective n.index m.index (omega (arith, h.index)) (omega (arith, k.index)) last)

-- An outcome is plain, or is that of a declaration found invalid, with a note.
plain_or : (o : Outcome) → IsPlain o ⊎ ((note : FaultNote) × (o ≡ outcome.Invalid note))
plain_or outcome.Resolved = inl tt
plain_or outcome.Started = inl tt
plain_or outcome.Stopped = inl tt
plain_or outcome.Killed = inl tt
plain_or outcome.Absent = inl tt
plain_or outcome.BadUrl = inl tt
plain_or (outcome.Invalid note) = inr (note, refl)
plain_or outcome.Declined = inl tt
plain_or outcome.GateFailed = inl tt
plain_or outcome.Full = inl tt
plain_or outcome.NoMemory = inl tt

-- Two legible outcomes that are written alike are the same.
outcomes_one : (o p : Outcome) → IsLegibleOutcome o → IsLegibleOutcome p → outcome_text o ≡ outcome_text p → o ≡ p
outcomes_one o p h k e = elim (plain_or o) [
  | inl one ↦ (elim (plain_or p) [
    | inl other ↦ plain_one o p one other e
    | inr note ↦
        let is : IsInvalid o (note_words note.0) = invalid_is o (note_words note.0) (sym (e ∙ ap outcome_text note.1)) in
        absurd (subst IsPlain is.outcome one)
  ])
  | inr note ↦
      let is : IsInvalid p (note_words note.0) = invalid_is p (note_words note.0) (sym (ap outcome_text note.1) ∙ e) in
      note.1 ∙ ap outcome.Invalid (notes_one note.0 is.note (subst IsLegibleOutcome note.1 h) (subst IsLegibleOutcome is.outcome k) is.text) ∙ sym is.outcome
]

-- ---- ends

-- Two legible ways to finish an action that are written alike are the same.
finishes_one : (f g : Finish) → IsLegibleFinish f → IsLegibleFinish g → finish_text f ≡ finish_text g → f ≡ g
finishes_one (finish.Resolved u d) (finish.Resolved v b) h k e =
    let parts = cut_once 32 u v _ _ (url_lacks u h.0) (url_lacks v k.0) (ap (drop 9) e) in
    ap₂ finish.Resolved parts.0 (decl_one _ d b (texts_are_read_back_lem d h.1) k.1 parts.1)
finishes_one (finish.Resolved u d) (finish.Other o) h k e = absurd (resolved_no_outcome o _ (sym e))
finishes_one (finish.Other o) (finish.Resolved v b) h k e = absurd (resolved_no_outcome o _ e)
finishes_one (finish.Other o) (finish.Other p) h k e = ap finish.Other (outcomes_one o p h k e)

-- ---- events

-- What is told of two creations is the same where their commands are.
created_same : (x y : Told word.Create) → command_of x ≡ command_of y → x ≡ y
created_same (i, (a, (b, (u, g)))) (j, (c, (d, (v, h)))) e = cc e

-- Two legible events of one word whose texts are alike are the same.
told_one : (v : EventWord) (x y : Told v) → IsLegible (event_of v x) → IsLegible (event_of v y) → told_text v x ≡ told_text v y → x ≡ y
told_one word.Find m n h k e =
    reads_one_way_lem (moniker_text m) m n (writes_its_text_lem m h.0) (subst (λ t. IsMonikerTextOf t n) (sym e) (writes_its_text_lem n k.0))
told_one word.Begin (k, i) (l, j) h g e =
    let parts = cut_once 32 (act_word k) (act_word l) _ _ (kind_lacks k) (kind_lacks l) e in
    ap₂ (λ a b. (a, b)) (kinds_one k l parts.0) (decimal_injective i j h g parts.1)
told_one word.End (a, f) (b, g) h k e =
    let parts = numbers_one a b _ _ h.0 k.0 e in
    ap₂ (λ n p. (n, p)) parts.0 (finishes_one f g h.1 k.1 parts.1)
told_one word.Await a b h k e = decimal_injective a b h k e
told_one word.Create x y h k e =
    created_same x y (grammar.reads_one_way_lem (codes "create @" ++ told_text word.Create x) (command_of x) (command_of y) (told_created (told_text word.Create x) x h refl) (told_created (told_text word.Create x) y k e))
told_one word.Mark (a, i) (b, j) h k e =
    let parts = cut_once 32 (mark_word a) (mark_word b) _ _ (mark_lacks a) (mark_lacks b) e in
    ap₂ (λ n p. (n, p)) (marks_one a b parts.0) (decimal_injective i j h k parts.1)
told_one word.Pick a b h k e = decimal_injective a b h k e
told_one word.Purge a b h k e = decimal_injective a b h k e
told_one word.Route (i, p) (j, q) h k e = let parts = numbers_one i j p q h.0 k.0 e in ap₂ (λ n t. (n, t)) parts.0 parts.1
told_one word.Open (i, p) (j, q) h k e = let parts = numbers_one i j p q h.0 k.0 e in ap₂ (λ n t. (n, t)) parts.0 parts.1
told_one word.OpenExposed (i, p) (j, q) h k e = let parts = numbers_one i j p q h.0 k.0 e in ap₂ (λ n t. (n, t)) parts.0 parts.1
told_one word.List (i, p) (j, q) h k e = let parts = numbers_one i j p q h.0 k.0 e in ap₂ (λ n t. (n, t)) parts.0 parts.1
told_one word.Show a b h k e = decimal_injective a b h k e
told_one word.Survey a b h k e = decimal_injective a b h k e
told_one word.Exited a b h k e = decimal_injective a b h k e
told_one word.Tail (i, a) (j, b) h k e =
    let parts = numbers_one i j _ _ h.0 k.0 e in
    ap₂ (λ n p. (n, p)) parts.0 (decimal_injective a b h.1 k.1 parts.1)
told_one word.Reap a b h k e = decimal_injective a b h k e

-- No two kinds of events have the same word.
words_one : (v u : EventWord) → word_of v ≡ word_of u → v ≡ u
words_one v u e = same_Some v u (sym (event_found v) ∙ ap event_named e ∙ event_found u)

-- Two legible events whose words are the same, and their texts alike, are the same.
of_word : (v u : EventWord) (x : Told v) (y : Told u) → v ≡ u → IsLegible (event_of v x) → IsLegible (event_of u y) → told_text v x ≡ told_text u y → event_of v x ≡ event_of u y
of_word v u x y same = subst (λ w. (y : Told w) → IsLegible (event_of v x) → IsLegible (event_of w y) → told_text v x ≡ told_text w y → event_of v x ≡ event_of w y) same (λ z h k e. ap (event_of v) (told_one v x z h k e)) y

-- Two events that can be read back, and have the same text, are the same.
pub events_one : (e f : Event) → IsLegible e → IsLegible f → event_text e ≡ event_text f → e ≡ f
events_one e f h k same =
    let one : IsTold e = each_is_told_lem e in
    let other : IsTold f = each_is_told_lem f in
    let parts = cut_once 32 (word_of one.word) (word_of other.word) _ _ (word_lacks one.word) (word_lacks other.word) (sym one.text ∙ same ∙ other.text) in
    sym one.event
    ∙ of_word one.word other.word one.told other.told (words_one one.word other.word parts.0) (subst IsLegible (sym one.event) h) (subst IsLegible (sym other.event) k) parts.1
    ∙ other.event

-- ---- entries

-- A number of 32 bits is one of 64 bits.
small : (c : ℕ) → c < 2 ^ 32 → c < 2 ^ 64
small c h = omega (arith, h)

-- The line of an entry is read in one way at most.
pub entries_read_one_way_lem : EntriesReadOneWay
entries_read_one_way_lem t n m c d e f r s h k =
    let both = one_cut t (asked_text n c e) (asked_text m d f) r s (record { whole = h.whole; last = h.last }) (record { whole = k.whole; last = k.last }) in
    let first = numbers_one n m _ _ h.of_64_bits k.of_64_bits both.0 in
    let second = numbers_one c d _ _ (small c h.of_32_bits) (small d k.of_32_bits) first.1 in
    record { numbers = first.0; callers = second.0; events = events_one e f h.legible k.legible second.1; replies = both.1 }

-- Entries of the same number, caller, event and reply have the same line.
line_same : (n c : ℕ) (e : Event) (r : TextBytes) (m d : ℕ) (f : Event) (s : TextBytes) → n ≡ m → c ≡ d → e ≡ f → r ≡ s → line_of n c e r ≡ line_of m d f s
line_same n c e r m d f s a b x y =
    ap (λ k. line_of k c e r) a ∙ ap (λ k. line_of m k e r) b ∙ ap (λ k. line_of m d k r) x ∙ ap (line_of m d f) y

-- what was read of a line that is cut so is the entry that the line tells of
pub line_found : (t prefix rest reply : TextBytes) (a : Asked) → IsCutAtLast t prefix rest → IsAskable a → prefix ≡ text_of_asked a → reply ≡ rest → (n c : ℕ) (e : Event) (r : TextBytes) → IsEntryLine t n c e r → line_of a.number a.caller a.event reply ≡ line_of n c e r
line_found t prefix rest reply a cut is same text n c e r line =
    let both : (prefix ≡ asked_text n c e) × (rest ≡ r) = one_cut t prefix (asked_text n c e) rest r cut (record { whole = line.whole; last = line.last }) in
    let here : IsEntryLine t a.number a.caller a.event rest = entry_is t prefix rest a cut (subst IsUtf8 (sym both.1) line.utf8) is same in
    let one : AreSame a.number a.caller a.event rest n c e r = entries_read_one_way_lem t a.number n a.caller c a.event e rest r here line in
    line_same a.number a.caller a.event reply n c e r one.numbers one.callers one.events (text ∙ both.1)
