-- Monikers and targets.
use Rattle.std.proofs.Common.{◌≡◌, ◌⊎◌, inl, inr, ⊎_elim, ℕ, ◌+◌, ◌<◌, ◌≤◌, min, List, [], ◌∷◌, ◌++◌, length, take, codes, false, Some, None, All, refl, sym, subst, ◌∙◌, arith, rules}
use Rattle.std.specs.Str.{IsUtf8}
use Rattle.std.proofs.lemmas.Option.{none-some}
use Rattle.std.proofs.lemmas.List.{take_all, length-take-le}
use Rattle.std.proofs.lemmas.List.Elements.{All-cons, All-nil}
use Rattle.cm_names.specs.declared.grammar.MonikerState.{MonikerState}
use Rattle.cm_names.specs.declared.grammar.MonikerState.TheVariants.{Start, Whole, Root, Part, First, Colon, Second}
use Rattle.cm_names.specs.Prefixes.{IsLongestPrefix}
use Rattle.cm_names.specs.Name.{begins_name, continues_name}
use Rattle.cm_names.specs.MonikerInside.{IsMonikerText}
use Rattle.cm_names.specs.MonikerStates.{next, may_end}
use Rattle.cm_names.proofs.lemmas.prefixes.Prefixes.{Accepts, onward}
use Rattle.cm_names.proofs.lemmas.prefixes.MonikerGrammar.{moniker_accepted}
use Rattle.cm_facts.proofs.Numbers.{eq_high}
use Rattle.cm_world.specs.declared.event.Target.{Target}
use Rattle.cm_world.specs.declared.event.Target.TheVariants.{Named, Inc}
use Rattle.cm_command.specs.declared.tokens.WordFault.{WordFault}
use Rattle.cm_command.specs.declared.tokens.WordFault.TheVariants.{Bad, Memory}
use Rattle.cm_command.specs.Counts.{CountsPrefixes, IsWordFault, IsSureFault, either_fault}
use Rattle.cm_command.specs.NumbersInside.{IsU64Text}
use Rattle.cm_command.specs.Words.{IsTargetText}
use Rattle.cm_command.specs.WordsInside.{IsIncarnation}
use Rattle.cm_command.proofs.lemmas.counts.Kind.{IsBehind, counts_limited, counts_longest, counts_whole, fault_either}
use Rattle.cm_command.proofs.lemmas.counts.NumberCounts.{number_begins}
use Rattle.cm_command.proofs.lemmas.bytes.Runs.{ascii_text}

-- ---- bytes of monikers

-- A byte above 127 doesn't begin a name.
high_begins : (b : ℕ) → 128 ≤ b → begins_name b ≡ false
high_begins b h = grind (arith, rules)

-- A byte above 127 doesn't continue a name.
high_continues : (b : ℕ) → 128 ≤ b → continues_name b ≡ false
high_continues b h = grind (arith, rules)

-- A byte above 127 leads nowhere in a moniker.
high_stops : (p : MonikerState) (b : ℕ) → 128 ≤ b → next p b ≡ None
high_stops Start b h = rw (eq_high b 46 h (omega arith), eq_high b 47 h (omega arith), high_begins b h) refl
high_stops Whole b h = refl
high_stops Root b h = rw (high_begins b h) refl
high_stops Part b h = rw (high_begins b h) refl
high_stops (First n) b h = rw (eq_high b 58 h (omega arith), eq_high b 47 h (omega arith), high_continues b h) refl
high_stops Colon b h = rw (high_begins b h) refl
high_stops (Second n) b h = rw (eq_high b 47 h (omega arith), high_continues b h) refl

-- A byte is below 128 or it isn't.
low_or_high : (b : ℕ) → (b < 128) ⊎ (128 ≤ b)
low_or_high b = grind arith

-- A byte that leads on in a moniker is below 128.
low : (p q : MonikerState) (b : ℕ) → next p b ≡ Some q → b < 128
low p q b h = ⊎_elim (λ lt. lt) (λ high. absurd (none-some q (sym (high_stops p b high) ∙ h))) (low_or_high b)

-- A text that is accepted as the rest of a moniker has bytes below 128 alone.
accepted_low : (p : MonikerState) (t : List ℕ) → Accepts next may_end p t → All (λ b. b < 128) t
accepted_low p [] h = All-nil (λ b. b < 128)
accepted_low p (b ∷ bs) h =
    let on = onward p b bs h in
    All-cons (λ c. c < 128) b bs (low p on.place b on.is) (accepted_low on.place bs on.rest)

-- The text of a moniker is UTF-8.
pub moniker_utf8 : (t : List ℕ) → IsMonikerText t → IsUtf8 t
moniker_utf8 t h = ascii_text t (accepted_low Start t (moniker_accepted t h.0 h.1))

-- ---- counts

-- The text of a moniker has 4096 bytes at most.
moniker_short : (t : List ℕ) → IsMonikerText t → length t ≤ 4096
moniker_short t h = h.2

-- the first bytes, as many as a moniker may have, are none
pub moniker_stops : (w : List ℕ) (m n : ℕ) → m ≡ min (length w) 4096 → IsLongestPrefix IsMonikerText (take m w) n → (IsMonikerText (take m w) → ⊥) → (IsMonikerText w → ⊥) × CountsPrefixes IsMonikerText w (n + 1)
moniker_stops w m n e prefix never =
    (λ h. never (subst IsMonikerText (sym (take_all m w (omega (arith, h.2)))) h), counts_limited 4096 w m (n + 1) moniker_short e (counts_longest (take m w) n prefix))

-- the first bytes are one, and more follow
pub moniker_full : (w : List ℕ) (m : ℕ) → m ≡ min (length w) 4096 → 4096 < length w → IsMonikerText (take m w) → (IsMonikerText w → ⊥) × CountsPrefixes IsMonikerText w 4097
moniker_full w m e more whole =
    let len : length (take m w) ≡ m = length-take-le m w (omega arith) in
    let n : length (take m w) + 1 ≡ 4097 = omega arith in
    (λ h. absurd (omega (arith, h.2)), counts_limited 4096 w m 4097 moniker_short e (subst (CountsPrefixes IsMonikerText (take m w)) n (counts_whole (take m w) whole)))

-- ---- targets

-- The text of an incarnation is `@` and a number.
incarnation_rest : (t : List ℕ) → IsIncarnation t → (x : List ℕ) × IsU64Text x × (t ≡ codes "@" ++ x)
incarnation_rest t h = (h.1.0, (h.0, h.1.2, h.1.3), h.1.1)

-- The words for an incarnation are exactly `@` and a number of 64 bits.
pub incarnation_behind : IsBehind (codes "@") IsU64Text IsIncarnation
incarnation_behind =
    record { rest = incarnation_rest; whole = λ x p. (p.0, (x, refl, p.1, p.2)); some = number_begins }

-- a fault of a reader that takes no memory is one
pub sure_fault : (w : List ℕ) (e : WordFault) → IsSureFault IsU64Text w e → IsWordFault IsU64Text w e
sure_fault w (Bad n) h = h
sure_fault w Memory h = absurd h

-- The text of a target is that of an incarnation or of a moniker.
target_parts : (t : List ℕ) (a : Target) → IsTargetText t a → IsIncarnation t ⊎ IsMonikerText t
target_parts t (Named m) h = inr (m, h.0, h.1)
target_parts t (Inc n) h = inl (n, h)

-- A word that names no instance has the longer fault: as an incarnation, or as a moniker.
pub target_fault : (w : List ℕ) (d e f : WordFault) → f ≡ either_fault d e → IsWordFault IsIncarnation w d → IsWordFault IsMonikerText w e → IsWordFault (λ t. (a : Target) × IsTargetText t a) w f
target_fault w d e f same g h =
    fault_either {P = IsIncarnation} {Q = IsMonikerText} {R = λ t. (a : Target) × IsTargetText t a} w d e f (λ t p. (Inc p.0, p.1)) (λ t q. (Named q.0, (q.1, q.2))) (λ t r. target_parts t r.0 r.1) same g h
