-- What the prefix of a text says of the whole: what was read of a source is known of all that it had left.
use Rattle.std.proofs.Common.{◌≡◌, ◌⊎◌, inl, inr, ℕ, ◌+◌, ◌<◌, ◌≤◌, min, List, [], ◌∷◌, ◌++◌, length, Bool, true, false, cond, ◌==◌, Option, Some, None, sym, ap, subst, ◌∙◌, arith, rules, length-append, lit≤}
use Rattle.std.proofs.Math.Nat.{min-eq_left, min-eq_right, min-le_left, min-le_right}
use Rattle.std.proofs.lemmas.List.{append-nil}
use Rattle.std.specs.Io.KnownBytes.{Consumes, IsAtEnd}
use Rattle.cm_command.specs.Scripts.{lines_of, in_prefix, ReadsLines, Faults, Fits, end_of, line_limit, script_limit, IsScript}
use Rattle.cm_command.specs.Scripts as scripts
use Rattle.cm_command.specs.declared.fault.ScriptNumber.{ScriptNumber}
use Rattle.cm_command.specs.declared.fault.ScriptNumber.TheVariants as fault
use Rattle.cm_command.specs.declared.script.Script.{Script}
use Rattle.cm_command.specs.declared.script_reader.Draft.{Draft}
use Rattle.cm_program.specs.Written.{OfSome}
use Rattle.cm_program.specs.Stock.{LoadsScript, RefusesScript, IsScriptRefusal}
use Rattle.cm_program.specs.declared.stock.LoadedScript.{LoadedScript}
use Rattle.cm_program.specs.declared.fault.ScriptRefusal.{ScriptRefusal}
use Rattle.cm_program.specs.declared.fault.ScriptRefusal.TheVariants.{Unread, Unserved, Memory}
use Rattle.cm_audit.proofs.lemmas.Prefixes.{Goes, lines_go}

-- ---- the bytes of lines

-- How many bytes lines have together, each with one for its line feed.
abbrev pub total : List (List ℕ) → ℕ
total [] = 0
total (t ∷ ts) = length t + 1 + total ts

-- Lines with a byte put before the first have at least one byte more.
in_prefix_total : (b : ℕ) (ts : List (List ℕ)) → 1 + total ts ≤ total (in_prefix b ts)
in_prefix_total b [] = grind (arith, rules)
in_prefix_total b (t ∷ ts) = grind (arith, rules)

-- A text has no more bytes than its lines have with their line feeds.
lines_total : (bytes : List ℕ) → length bytes ≤ total (lines_of bytes)
lines_total [] = omega arith
lines_total (b ∷ bs) = by (b == 10) (lines_total bs) (in_prefix_total b (lines_of bs))
  where
    by : (v : Bool) → length bs ≤ total (lines_of bs) → 1 + total (lines_of bs) ≤ total (in_prefix b (lines_of bs)) → length (b ∷ bs) ≤ total (cond v ([] ∷ lines_of bs) (in_prefix b (lines_of bs)))
    by true ih more = grind (arith, rules)
    by false ih more = grind (arith, rules)

-- Of two numbers, the first is no higher than the second, or the second is lower.
either : (a b : ℕ) → (a ≤ b) ⊎ (b < a)
either a b = search arith

-- a line that fits ends within the limit, or the whole text does
ends_within : (size end limit : ℕ) → min size end ≤ limit → (size ≤ limit) ⊎ (end ≤ limit)
ends_within size end limit h = by (either size end)
  where
    by : (size ≤ end) ⊎ (end < size) → (size ≤ limit) ⊎ (end ≤ limit)
    by (inl le) = inl (let e : min size end ≡ size = min-eq_left le in subst (λ n. n ≤ limit) e h)
    by (inr lt) = inr (let le : end ≤ size = omega (arith, lt) in let e : min size end ≡ end = min-eq_right le in subst (λ n. n ≤ limit) e h)

-- ---- a script is within the limit

-- A size that is at most an end and more is at most the lesser of both and more.
end_total : (size end more : ℕ) → size ≤ end + more → size ≤ min size end + more
end_total size end more h = by (either size end)
  where
    by : (size ≤ end) ⊎ (end < size) → size ≤ min size end + more
    by (inl le) = let e : min size end ≡ size = min-eq_left le in subst (λ n. size ≤ n + more) (sym e) (omega arith)
    by (inr lt) = let le : end ≤ size = omega (arith, lt) in let e : min size end ≡ end = min-eq_right le in subst (λ n. size ≤ n + more) (sym e) h

-- A script whose lines are read from within the limit is within the limit.
reads_within : (size : ℕ) {place n : ℕ} {d e : Draft} {ts : List (List ℕ)} → ReadsLines size place n d ts e → size ≤ place + total ts → place ≤ script_limit → size ≤ script_limit
reads_within size {place} ReadsLines.no_more h p = let all : size ≤ place + 0 = h in omega (arith, all, p)
reads_within size {place} (ReadsLines.one_more {t = t} {ts = ts} fits takes rest) h p =
    let all : size ≤ place + (length t + 1 + total ts) = h in
    reads_within size rest (end_total size (place + length t + 1) (total ts) (omega (arith, all))) fits.script

-- A script has no more bytes than a script may have.
pub script_within : (bytes : List ℕ) (s : Script) → IsScript bytes s → length bytes ≤ script_limit
script_within bytes s h = reads_within (length bytes) h.reads (omega (arith, lines_total bytes)) (lit≤ tt)

-- what was read of a script that is served is all that its source had
pub served_ended : (bytes : List ℕ) (served : LoadedScript) (left : Option (List ℕ)) → (length bytes ≤ 67174401 → IsAtEnd left) → LoadsScript bytes served → IsAtEnd left
served_ended bytes served left all h = all (omega (arith, script_within bytes h.script h.reads))

-- ---- a fault of a prefix that passes the limit by far is one of the whole

-- the line that passes the limit is too long, wherever it ends
too_far : (size place : ℕ) (t : List ℕ) (ts : List (List ℕ)) → ts ≡ [] → script_limit + 65537 < size → size ≤ place + total (t ∷ ts) → place ≤ script_limit → line_limit < length t
too_far size place t ts e far h p =
    let none : total ts ≡ 0 = ap total e in
    let all : size ≤ place + (length t + 1 + total ts) = h in omega (arith, far, all, p, none)

-- A line that fits in a text which passes the limit by far ends within the limit, and fits in a text of any
-- size.
fits_on : (size more place : ℕ) (t : List ℕ) → script_limit + 65537 < size → Fits size place t → (place + length t + 1 ≤ script_limit) × Fits more place t
fits_on size more place t far fits = by (ends_within size (place + length t + 1) script_limit fits.script)
  where
    by : (size ≤ script_limit) ⊎ (place + length t + 1 ≤ script_limit) → (place + length t + 1 ≤ script_limit) × Fits more place t
    by (inl within) = absurd (omega (arith, far, within))
    by (inr within) = (within, record { line = fits.line; script = let le : min more (place + length t + 1) ≤ place + length t + 1 = min-le_right more (place + length t + 1) in omega (arith, le, within) })

-- A line that ends past the limit of a text ends past it in a longer one.
ends_on : (size more place : ℕ) (t : List ℕ) → size ≤ more → script_limit < end_of size place t → script_limit < end_of more place t
ends_on size more place t le h = by (either more (place + length t + 1))
  where
    below : script_limit < size
    below = let m : min size (place + length t + 1) ≤ size = min-le_left size (place + length t + 1) in omega (arith, h, m)

    before : script_limit < place + length t + 1
    before = let m : min size (place + length t + 1) ≤ place + length t + 1 = min-le_right size (place + length t + 1) in omega (arith, h, m)

    by : (more ≤ place + length t + 1) ⊎ (place + length t + 1 < more) → script_limit < min more (place + length t + 1)
    by (inl within) = let e : min more (place + length t + 1) ≡ more = min-eq_left within in subst (λ n. script_limit < n) (sym e) (omega (arith, below, le))
    by (inr lt) = let le' : place + length t + 1 ≤ more = omega (arith, lt) in let e : min more (place + length t + 1) ≡ place + length t + 1 = min-eq_right le' in subst (λ n. script_limit < n) (sym e) before

-- A line that ends within the limit of a text that passes it ends with its line feed.
end_is : (size place : ℕ) (t : List ℕ) → script_limit < size → place + length t + 1 ≤ script_limit → end_of size place t ≡ place + length t + 1
end_is size place t far within = let le : place + length t + 1 ≤ size = omega (arith, far, within) in min-eq_right le

-- A text that passes the limit by far doesn't end at a place within the limit.
no_end : (size place : ℕ) → script_limit + 65537 < size → size ≤ place + 0 → place ≤ script_limit → ⊥
no_end size place far h p = omega (arith, far, h, p)

-- The first fault of lines that pass the limit by far is that of lines that go on from them.
faults_go : (size more : ℕ) {place n : ℕ} {d : Draft} {ts : List (List ℕ)} {m : ℕ} {number : ScriptNumber} {at : ℕ} → Faults size place n d ts m number at → (us : List (List ℕ)) → Goes ts us → size ≤ more → script_limit + 65537 < size → size ≤ place + total ts → place ≤ script_limit → Faults more place n d us m number at
faults_go size more (Faults.too_long {t = t} h) [] g le far all p = absurd g
faults_go size more (Faults.too_long {t = t} h) (u ∷ us) (inl e) le far all p =
    Faults.too_long (let same : length t ≡ length u = ap length e.0 in omega (arith, h, same))
faults_go size more (Faults.too_long {t = t} h) (u ∷ us) (inr e) le far all p =
    Faults.too_long (let longer : length t ≤ length u = e.1 in omega (arith, h, longer))
faults_go size more (Faults.too_large {t = t} h k) [] g le far all p = absurd g
faults_go size more {place} {n} {d} (Faults.too_large {t = t} h k) (u ∷ us) (inl e) le far all p =
    subst (λ x. Faults more place n d (x ∷ us) n fault.TooLarge 0) e.0 (Faults.too_large h (ends_on size more place t le k))
faults_go size more {place} (Faults.too_large {t = t} {ts = ts} h k) (u ∷ us) (inr e) le far all p =
    absurd (let long : line_limit < length t = too_far size place t ts e.0 far all p in omega (arith, long, h))
faults_go size more (Faults.here {t = t} fits f) [] g le far all p = absurd g
faults_go size more {place} {n} {d} {number = number} {at = at} (Faults.here {t = t} fits f) (u ∷ us) (inl e) le far all p =
    subst (λ x. Faults more place n d (x ∷ us) n number at) e.0 (Faults.here (fits_on size more place t far fits).1 f)
faults_go size more {place} (Faults.here {t = t} {ts = ts} fits f) (u ∷ us) (inr e) le far all p =
    absurd (let long : line_limit < length t = too_far size place t ts e.0 far all p in let short : length t ≤ line_limit = fits.line in omega (arith, long, short))
faults_go size more (Faults.later {t = t} fits takes rest) [] g le far all p = absurd g
faults_go size more {place} {n} {d} {m = m} {number = number} {at = at} (Faults.later {e = after} {t = t} {ts = ts} fits takes rest) (u ∷ us) (inl e) le far all p =
    let on = fits_on size more place t far fits in
    let over : script_limit < size = omega (arith, far) in
    let over' : script_limit < more = omega (arith, over, le) in
    let here_end : end_of size place t ≡ place + length t + 1 = end_is size place t over on.0 in
    let there_end : end_of more place t ≡ place + length t + 1 = end_is more place t over' on.0 in
    let others : size ≤ place + (length t + 1 + total ts) = all in
    let gone = faults_go size more rest us e.1 le far (end_total size (place + length t + 1) (total ts) (omega (arith, others))) fits.script in
    subst (λ x. Faults more place n d (x ∷ us) m number at) e.0 (Faults.later on.1 takes (subst (λ p. Faults more p (n + 1) after us m number at) (here_end ∙ sym there_end) gone))
faults_go size more {place} (Faults.later {t = t} {ts = ts} fits takes rest) (u ∷ us) (inr e) le far all p =
    absurd (let long : line_limit < length t = too_far size place t ts e.0 far all p in let short : length t ≤ line_limit = fits.line in omega (arith, long, short))
faults_go size more {place} (Faults.unclosed b) us g le far all p = absurd (no_end size place far all p)
faults_go size more {place} (Faults.rootless b r) us g le far all p = absurd (no_end size place far all p)

-- The first fault of a prefix that passes the limit by far is that of the whole.
fault_goes : (prefix rest : List ℕ) {line : ℕ} {number : ScriptNumber} {at : ℕ} → scripts.FirstFault prefix line number at → script_limit + 65537 < length prefix → scripts.FirstFault (prefix ++ rest) line number at
fault_goes prefix rest h far =
    let le : length prefix ≤ length (prefix ++ rest) = omega (arith, length-append prefix rest) in
    let all : length prefix ≤ 0 + total (lines_of prefix) = omega (arith, lines_total prefix) in
    faults_go (length prefix) (length (prefix ++ rest)) h (lines_of (prefix ++ rest)) (lines_go prefix rest) le far all (lit≤ tt)

-- ---- what a source had left

-- the most bytes after which nothing may be left
abbrev pub read_limit : ℕ
read_limit = 67174401

-- What holds of a prefix holds of the whole, where nothing is left behind it.
whole_prefix : (P : List ℕ → Type 0) (prefix rest : List ℕ) → rest ≡ [] → P prefix → P (prefix ++ rest)
whole_prefix P prefix rest e h = subst P (sym (ap (λ r. prefix ++ r) e ∙ append-nil prefix)) h

-- A script served from a prefix is served from the whole, where one within the limit is all.
served_whole : (prefix rest : List ℕ) (served : LoadedScript) → (length prefix ≤ read_limit → rest ≡ []) → LoadsScript prefix served → LoadsScript (prefix ++ rest) served
served_whole prefix rest served all h =
    let within : length prefix ≤ script_limit = script_within prefix h.script h.reads in
    whole_prefix (λ bytes. LoadsScript bytes served) prefix rest (all (omega (arith, within))) h

-- A script refused from a prefix is refused from the whole, where one within the limit is all.
refused_whole : (prefix rest : List ℕ) (f : ScriptRefusal) → (length prefix ≤ read_limit → rest ≡ []) → RefusesScript prefix f → RefusesScript (prefix ++ rest) f
refused_whole prefix rest f all h =
    let within : length prefix ≤ script_limit = script_within prefix h.script h.reads in
    whole_prefix (λ bytes. RefusesScript bytes f) prefix rest (all (omega (arith, within))) h

-- The first fault of a prefix is the whole's, where a prefix within the limit is all.
unread_whole : (prefix rest : List ℕ) (line : ℕ) (number : ScriptNumber) (at : ℕ) → (length prefix ≤ read_limit → rest ≡ []) → scripts.FirstFault prefix line number at → scripts.FirstFault (prefix ++ rest) line number at
unread_whole prefix rest line number at all h = by (either (length prefix) read_limit)
  where
    by : (length prefix ≤ read_limit) ⊎ (read_limit < length prefix) → scripts.FirstFault (prefix ++ rest) line number at
    by (inl short) = whole_prefix (λ bytes. scripts.FirstFault bytes line number at) prefix rest (all short) h
    by (inr long) = fault_goes prefix rest h long

-- A refusal of a prefix is one of the whole, where a prefix within the limit is all.
fault_whole : (prefix rest : List ℕ) (f : ScriptRefusal) → (length prefix ≤ read_limit → rest ≡ []) → IsScriptRefusal prefix f → IsScriptRefusal (prefix ++ rest) f
fault_whole prefix rest (Unread line number at) all h = unread_whole prefix rest line number at all h
fault_whole prefix rest (Unserved line problem) all h = refused_whole prefix rest (Unserved line problem) all h
fault_whole prefix rest Memory all h = absurd h

-- what is known of the bytes that were read is known of all that was left
pub served_some : (old new : Option (List ℕ)) (prefix : List ℕ) (served : LoadedScript) → Consumes old new prefix → (length prefix ≤ read_limit → IsAtEnd new) → LoadsScript prefix served → OfSome (λ bytes. LoadsScript bytes served) old
served_some None new prefix served gone all h = (prefix, h)
served_some (Some whole) None prefix served gone all h = absurd gone
served_some (Some whole) (Some rest) prefix served gone all h =
    subst (λ bytes. LoadsScript bytes served) (sym gone) (served_whole prefix rest served all h)

-- What was read of a source is refused for the same fault as all that the source had left.
pub fault_known : (old new : Option (List ℕ)) (prefix : List ℕ) (f : ScriptRefusal) → Consumes old new prefix → (length prefix ≤ read_limit → IsAtEnd new) → IsScriptRefusal prefix f → OfSome (λ bytes. IsScriptRefusal bytes f) old
fault_known None new prefix f gone all h = (prefix, h)
fault_known (Some whole) None prefix f gone all h = absurd gone
fault_known (Some whole) (Some rest) prefix f gone all h =
    subst (λ bytes. IsScriptRefusal bytes f) (sym gone) (fault_whole prefix rest f all h)
