-- A text is one script at most, and none where it has a fault.
use Rattle.std.proofs.Common.{◌≡◌, ◌⊎◌, inl, inr, ℕ, ◌+◌, ◌<◌, ◌≤◌, List, [], ◌∷◌, ◌++◌, true, false, true≢false, cond, ◌==◌, Option, Some, None, IsTrue, IsFalse, codes, refl, sym, ap, subst, ◌∙◌, arith, rules}
use Rattle.std.specs.List.{slice_split}
use Rattle.std.proofs.lemmas.List.{append_cancel_left}
use Rattle.std.proofs.lemmas.List.Splits.{slice_split_at}
use Rattle.cm_world.specs.declared.frame.Builtin.{Builtin}
use Rattle.cm_command.specs.declared.fault.ScriptNumber.{ScriptNumber}
use Rattle.cm_command.specs.declared.command.Command.{Command}
use Rattle.cm_command.specs.declared.script.Block.{Block}
use Rattle.cm_command.specs.declared.script.Script.{Script}
use Rattle.cm_command.specs.declared.script_reader.Draft.{Draft}
use Rattle.cm_command.specs.Numbers.{is_digit, IsNumberText, value_behind}
use Rattle.cm_command.specs.Words.{IsUrlText}
use Rattle.cm_command.specs.Grammar.{LineBytes, CommandText, IsCommandText, BuiltinText, BuiltinWords, LinesReadOneWay}
use Rattle.cm_command.specs.Laws.{TextsAreOneScript, ScriptsHaveNoFault}
use Rattle.cm_command.specs.Scripts.{is_blank, IsLane, IsNoLane, IsRepeated, TakesScriptLine, LineFault, ReadsLines, Faults, IsWhole, end_of}
use Rattle.cm_command.proofs.lemmas.scripts.Lane.{decimal_lacks}
use Rattle.cm_command.proofs.lemmas.line.LineGrammar.{reads_one_way_lem}

-- ---- what a line is told by

-- the kinds of lines outside blocks, which their first bytes tell apart
data Kind : Type 0 where
  BlankLine ManifestLine BuiltinLine RootLine SyncLine LaneLine : Kind

-- The kind of a line outside blocks, by its first byte.
abbrev kind_of : LineBytes → Kind
kind_of [] = Kind.BlankLine
kind_of (b ∷ bs) = cond (b == 35) Kind.BlankLine (cond (b == 109) Kind.ManifestLine (cond (b == 98) Kind.BuiltinLine (cond (b == 114) Kind.RootLine (cond (b == 115) Kind.SyncLine Kind.LaneLine))))

-- A blank line has the kind of blank lines.
blank_kind : (t : LineBytes) → IsTrue (is_blank t) → kind_of t ≡ Kind.BlankLine
blank_kind [] h = refl
blank_kind (b ∷ bs) h = ap (λ v. cond v Kind.BlankLine (cond (b == 109) Kind.ManifestLine (cond (b == 98) Kind.BuiltinLine (cond (b == 114) Kind.RootLine (cond (b == 115) Kind.SyncLine Kind.LaneLine))))) h

-- A digit isn't a byte below or above the digits.
no_digit : (b k : ℕ) → IsTrue (is_digit b) → (k < 48) ⊎ (57 < k) → (b == k) ≡ false
no_digit b k h o = grind (arith, rules)

-- A line that begins with a digit has the kind of a lane's lines.
digit_kind : (b : ℕ) (bs : LineBytes) → IsTrue (is_digit b) → kind_of (b ∷ bs) ≡ Kind.LaneLine
digit_kind b bs h =
    let no35 : (b == 35) ≡ false = no_digit b 35 h (inl (omega arith)) in
    let no109 : (b == 109) ≡ false = no_digit b 109 h (inr (omega arith)) in
    let no98 : (b == 98) ≡ false = no_digit b 98 h (inr (omega arith)) in
    let no114 : (b == 114) ≡ false = no_digit b 114 h (inr (omega arith)) in
    let no115 : (b == 115) ≡ false = no_digit b 115 h (inr (omega arith)) in
    rw (no35, no109, no98, no114, no115) refl

-- A line that begins with the number of a lane has the kind of a lane's lines.
lane_kind : (t : LineBytes) (lane : ℕ) (rest : LineBytes) → IsLane t lane rest → kind_of t ≡ Kind.LaneLine
lane_kind t lane rest h = ap kind_of h.whole ∙ by h.digits h.number
  where
    by : (digits : LineBytes) → IsNumberText digits lane → kind_of (digits ++ (codes " " ++ rest)) ≡ Kind.LaneLine
    by [] n = absurd n.0
    by (b ∷ bs) n = digit_kind b (bs ++ (codes " " ++ rest)) n.0.0

-- A line begins with the number of one lane only, and one rest follows.
one_lane : (t : LineBytes) (m n : ℕ) (rest more : LineBytes) → IsLane t m rest → IsLane t n more → (m ≡ n) × (rest ≡ more)
one_lane t m n rest more h k =
    let a : slice_split (λ b. b == 32) t ≡ h.digits ∷ slice_split (λ b. b == 32) rest = ap (slice_split (λ b. b == 32)) h.whole ∙ slice_split_at (λ b. b == 32) h.digits 32 rest (decimal_lacks h.digits h.number.0) refl in
    let b : slice_split (λ b. b == 32) t ≡ k.digits ∷ slice_split (λ b. b == 32) more = ap (slice_split (λ b. b == 32)) k.whole ∙ slice_split_at (λ b. b == 32) k.digits 32 more (decimal_lacks k.digits k.number.0) refl in
    let same : h.digits ≡ k.digits = cc in
    let whole : k.digits ++ (codes " " ++ rest) ≡ k.digits ++ (codes " " ++ more) = ap (λ d. d ++ (codes " " ++ rest)) (sym same) ∙ sym h.whole ∙ k.whole in
    let behind : codes " " ++ rest ≡ codes " " ++ more = append_cancel_left k.digits _ _ whole in
    (sym h.number.1 ∙ ap (value_behind 0) same ∙ k.number.1, append_cancel_left (codes " ") rest more behind)

-- The same words say one builtin at most.
pub words_one_way : (ws : List LineBytes) (b c : Builtin) → BuiltinWords ws b → BuiltinWords ws c → b ≡ c
words_one_way ws b c (BuiltinWords.protocol h) (BuiltinWords.protocol k) = refl
words_one_way ws b c (BuiltinWords.directory h p r) (BuiltinWords.directory k q s) = cc

-- ---- a line makes one draft, and none where it has a fault

-- a line outside blocks, by its kind
data Took (n : ℕ) (t : LineBytes) (d : Draft) : Kind → Draft → Type 0 where
  blank : IsTrue (is_blank t) → Took n t d Kind.BlankLine d
  opens : {url : LineBytes} → IsFalse d.begun → t ≡ codes "manifest " ++ url → IsUrlText url → Took n t d Kind.ManifestLine (record d { block = Some (record { line = n; url = url; bytes = [] }) })
  builtin : {w : LineBytes} {b : Builtin} → IsFalse d.begun → t ≡ codes "builtin " ++ w → BuiltinText w b → (IsRepeated d.builtins b → ⊥) → Took n t d Kind.BuiltinLine (record d { builtins = d.builtins ++ b ∷ [] })
  root : {url : LineBytes} → IsFalse d.begun → d.root ≡ None → t ≡ codes "root " ++ url → IsUrlText url → Took n t d Kind.RootLine (record d { root = Some url })
  sync : {r : LineBytes} → t ≡ codes "sync" → d.root ≡ Some r → Took n t d Kind.SyncLine (record d { phases = d.phases ++ d.phase ∷ []; phase = []; begun = true })
  command : {r rest : LineBytes} {lane : ℕ} {c : Command} → d.root ≡ Some r → IsLane t lane rest → lane ≤ 15 → CommandText rest c → Took n t d Kind.LaneLine (record d { phase = d.phase ++ record { line = n; lane = lane; command = c } ∷ []; begun = true })

-- What a line makes of an open block: it closes it, or is put behind its bytes.
data Inside (t : LineBytes) (d : Draft) (b : Block) : Draft → Type 0 where
  closes : t ≡ codes "%%" → Inside t d b (record d { manifests = d.manifests ++ b ∷ []; block = None })
  inner : (t ≡ codes "%%" → ⊥) → Inside t d b (record d { block = Some (record b { bytes = b.bytes ++ (t ++ codes "\n") }) })

-- What is there isn't missing.
some_none : {A : Type 0} {o : Option A} {x : A} → o ≡ Some x → o ≡ None → ⊥
some_none e f = absurd (cc)

-- A line in order where no block is open is taken as a line of its kind.
outside : (n : ℕ) {t : LineBytes} {d e : Draft} → TakesScriptLine n t d e → d.block ≡ None → Took n t d (kind_of t) e
outside n (TakesScriptLine.closes is) shut = absurd (some_none is shut)
outside n (TakesScriptLine.inner is other) shut = absurd (some_none is shut)
outside n {t} {d} (TakesScriptLine.blank is b) shut = subst (λ k. Took n t d k d) (sym (blank_kind t b)) (Took.blank b)
outside n (TakesScriptLine.opens is early u) shut = Took.opens early refl u
outside n (TakesScriptLine.builtin is early h new) shut = Took.builtin early refl h new
outside n (TakesScriptLine.root is early first u) shut = Took.root early first refl u
outside n (TakesScriptLine.sync is r) shut = Took.sync refl r
outside n {t} {d} {e} (TakesScriptLine.command {rest = rest} {lane = lane} is r way low h) shut =
    subst (λ k. Took n t d k e) (sym (lane_kind t lane rest way)) (Took.command r way low h)

-- A line in order where a block is open is taken as a line inside that block.
inside : (n : ℕ) (b : Block) {t : LineBytes} {d e : Draft} → TakesScriptLine n t d e → d.block ≡ Some b → Inside t d b e
inside n b {d = d} (TakesScriptLine.closes {b = c} is) some =
    let same : c ≡ b = cc in subst (λ x. Inside (codes "%%") d b (record d { manifests = d.manifests ++ x ∷ []; block = None })) (sym same) (Inside.closes refl)
inside n b {t} {d} (TakesScriptLine.inner {b = c} is other) some =
    let same : c ≡ b = cc in subst (λ x. Inside t d b (record d { block = Some (record x { bytes = x.bytes ++ (t ++ codes "\n") }) })) (sym same) (Inside.inner other)
inside n b (TakesScriptLine.blank is h) some = absurd (some_none some is)
inside n b (TakesScriptLine.opens is early u) some = absurd (some_none some is)
inside n b (TakesScriptLine.builtin is early h new) some = absurd (some_none some is)
inside n b (TakesScriptLine.root is early first u) some = absurd (some_none some is)
inside n b (TakesScriptLine.sync is r) some = absurd (some_none some is)
inside n b (TakesScriptLine.command is r way low h) some = absurd (some_none some is)

-- What was read so far comes to one thing by a line of a kind, where lines read one way.
one_took : LinesReadOneWay → (n : ℕ) {t : LineBytes} {d e f : Draft} {k : Kind} → Took n t d k e → Took n t d k f → e ≡ f
one_took one n (Took.blank h) (Took.blank k) = refl
one_took one n {d = d} (Took.opens {url = u} a e h) (Took.opens {url = v} b f k) =
    let same : u ≡ v = append_cancel_left (codes "manifest ") u v (sym e ∙ f) in
    ap (λ x. record d { block = Some (record { line = n; url = x; bytes = [] }) }) same
one_took one n {d = d} (Took.builtin {w = u} {b = b} a e h new) (Took.builtin {w = v} {b = c} a' f k new') =
    let same : u ≡ v = append_cancel_left (codes "builtin ") u v (sym e ∙ f) in
    ap (λ x. record d { builtins = d.builtins ++ x ∷ [] }) (words_one_way _ b c (subst (λ w. BuiltinText w b) same h) k)
one_took one n {d = d} (Took.root {url = u} a r e h) (Took.root {url = v} b s f k) =
    let same : u ≡ v = append_cancel_left (codes "root ") u v (sym e ∙ f) in
    ap (λ x. record d { root = Some x }) same
one_took one n (Took.sync e r) (Took.sync f s) = refl
one_took one n {t} {d} (Took.command {rest = u} {lane = l} {c = a} r way low h) (Took.command {rest = v} {lane = m} {c = b} s other short k) =
    let same = one_lane t l m u v way other in
    let told : a ≡ b = one v a b (subst (λ w. CommandText w a) same.1 h) k in
    ap (λ x. record d { phase = d.phase ++ record { line = n; lane = x; command = a } ∷ []; begun = true }) same.0 ∙ ap (λ x. record d { phase = d.phase ++ record { line = n; lane = m; command = x } ∷ []; begun = true }) told

-- What was read so far comes to one thing by a line inside a block.
one_inside : {t : LineBytes} {d e f : Draft} {b : Block} → Inside t d b e → Inside t d b f → e ≡ f
one_inside (Inside.closes h) (Inside.closes k) = refl
one_inside (Inside.closes h) (Inside.inner k) = absurd (k h)
one_inside (Inside.inner h) (Inside.closes k) = absurd (h k)
one_inside (Inside.inner h) (Inside.inner k) = refl

-- What was read so far comes to one thing by a line in order, where lines read one way.
one_takes : LinesReadOneWay → (n : ℕ) {t : LineBytes} {d e f : Draft} → TakesScriptLine n t d e → TakesScriptLine n t d f → e ≡ f
one_takes one n {t} {d} {e} {f} h k = by d.block refl
  where
    by : (o : Option Block) → d.block ≡ o → e ≡ f
    by None is = one_took one n (outside n h is) (outside n k is)
    by (Some b) is = one_inside (inside n b h is) (inside n b k is)

-- ---- a line with a fault makes no draft

-- No manifest line is taken once the script has begun, or where what follows is no URL.
manifest_no : (n : ℕ) {t : LineBytes} {d e : Draft} → Took n t d Kind.ManifestLine e → (IsTrue d.begun) ⊎ ((u : LineBytes) × (t ≡ codes "manifest " ++ u) × (IsUrlText u → ⊥)) → ⊥
manifest_no n (Took.opens early e h) (inl late) = true≢false (sym late ∙ early)
manifest_no n (Took.opens {url = u} early e h) (inr bad) =
    bad.2 (subst IsUrlText (append_cancel_left (codes "manifest ") u bad.0 (sym e ∙ bad.1)) h)

-- No builtin line is taken once the script has begun, or where it says none that is new.
builtin_no : (n : ℕ) {t : LineBytes} {d e : Draft} → Took n t d Kind.BuiltinLine e → (IsTrue d.begun) ⊎ ((w : LineBytes) × (t ≡ codes "builtin " ++ w) × ((b : Builtin) → BuiltinText w b → (IsRepeated d.builtins b → ⊥) → ⊥)) → ⊥
builtin_no n (Took.builtin early e h new) (inl late) = true≢false (sym late ∙ early)
builtin_no n (Took.builtin {w = w} {b = b} early e h new) (inr bad) =
    bad.2 b (subst (λ x. BuiltinText x b) (append_cancel_left (codes "builtin ") w bad.0 (sym e ∙ bad.1)) h) new

-- No root line is taken where the script has begun, there is a root, or what follows is no URL.
root_no : (n : ℕ) {t : LineBytes} {d e : Draft} → Took n t d Kind.RootLine e → (IsTrue d.begun) ⊎ (((r : LineBytes) × (d.root ≡ Some r)) ⊎ ((u : LineBytes) × (t ≡ codes "root " ++ u) × (IsUrlText u → ⊥))) → ⊥
root_no n (Took.root early first e h) (inl late) = true≢false (sym late ∙ early)
root_no n (Took.root early first e h) (inr (inl second)) = some_none second.1 first
root_no n (Took.root {url = u} early first e h) (inr (inr bad)) =
    bad.2 (subst IsUrlText (append_cancel_left (codes "root ") u bad.0 (sym e ∙ bad.1)) h)

-- No sync line is taken where there is no root.
sync_no : (n : ℕ) {t : LineBytes} {d e : Draft} → Took n t d Kind.SyncLine e → d.root ≡ None → ⊥
sync_no n (Took.sync e r) none = some_none r none

-- No lane's line is taken for a lane past 15, without a root, or where the rest is no command.
lane_no : (n : ℕ) {t : LineBytes} {d e : Draft} (lane : ℕ) (rest : LineBytes) → IsLane t lane rest → Took n t d Kind.LaneLine e → (15 < lane) ⊎ ((d.root ≡ None) ⊎ (IsCommandText rest → ⊥)) → ⊥
lane_no n {t} lane rest way (Took.command {rest = more} {lane = m} r other low h) (inl high) =
    let same = one_lane t lane m rest more way other in
    let is : lane ≡ m = same.0 in omega (arith, is, low, high)
lane_no n lane rest way (Took.command r other low h) (inr (inl none)) = some_none r none
lane_no n {t} lane rest way (Took.command {rest = more} {lane = m} {c = c} r other low h) (inr (inr bad)) =
    let same = one_lane t lane m rest more way other in
    bad (c, subst (λ w. CommandText w c) (sym same.1) h)

-- A line that is none of those known, with a lane or without one, is taken as no kind.
other_no : (n : ℕ) {t : LineBytes} {d e : Draft} {k : Kind} → IsNoLane t → Took n t d k e → ⊥
other_no n shut (Took.blank h) = true≢false (sym h ∙ shut.stands)
other_no n shut (Took.opens {url = u} a e h) = shut.no_manifest (u, e)
other_no n shut (Took.builtin {w = w} a e h new) = shut.no_builtin (w, e)
other_no n shut (Took.root {url = u} a r e h) = shut.no_root (u, e)
other_no n shut (Took.sync e r) = shut.no_sync e
other_no n shut (Took.command {rest = rest} {lane = lane} r way low h) = shut.no_lane lane rest way

-- the kind of a line that is known
seen : (n : ℕ) {t : LineBytes} {d e : Draft} (k : Kind) → kind_of t ≡ k → Took n t d (kind_of t) e → Took n t d k e
seen n {t} {d} {e} k same h = subst (λ j. Took n t d j e) same h

-- A line has a fault only where no block is open.
closed : {d : Draft} {t : LineBytes} {number : ScriptNumber} {at : ℕ} → LineFault d t number at → d.block ≡ None
closed (LineFault.late_manifest is late prefix) = is
closed (LineFault.late_builtin is late prefix) = is
closed (LineFault.late_root is late prefix) = is
closed (LineFault.second_root is r prefix) = is
closed (LineFault.bad_manifest is early bad far) = is
closed (LineFault.bad_builtin is early bad far) = is
closed (LineFault.bad_root is early first bad far) = is
closed (LineFault.repeated is early h again) = is
closed (LineFault.early_sync is none) = is
closed (LineFault.bad_lane is shut) = is
closed (LineFault.too_many is way high) = is
closed (LineFault.no_root is way low none) = is
closed (LineFault.bad_command way is low r bad far) = is

-- A line with a fault isn't taken as a line of its kind.
wrong : (n : ℕ) {d e : Draft} {t : LineBytes} {number : ScriptNumber} {at : ℕ} → LineFault d t number at → Took n t d (kind_of t) e → ⊥
wrong n (LineFault.late_manifest is late prefix) h = manifest_no n (seen n Kind.ManifestLine (ap kind_of prefix.1) h) (inl late)
wrong n (LineFault.late_builtin is late prefix) h = builtin_no n (seen n Kind.BuiltinLine (ap kind_of prefix.1) h) (inl late)
wrong n (LineFault.late_root is late prefix) h = root_no n (seen n Kind.RootLine (ap kind_of prefix.1) h) (inl late)
wrong n (LineFault.second_root {r = r} is same prefix) h = root_no n (seen n Kind.RootLine (ap kind_of prefix.1) h) (inr (inl (r, same)))
wrong n (LineFault.bad_manifest {t = u} is early bad far) h = manifest_no n h (inr (u, refl, bad))
wrong n (LineFault.bad_builtin {t = w} is early bad far) h = builtin_no n h (inr (w, refl, λ b told new. bad (b, told)))
wrong n {d = d} (LineFault.repeated {t = w} {b = b} is early told again) h =
    builtin_no n h (inr (w, refl, λ c other new. new (subst (λ x. IsRepeated d.builtins x) (words_one_way _ b c told other) again)))
wrong n (LineFault.bad_root {t = u} is early first bad far) h = root_no n h (inr (inr (u, refl, bad)))
wrong n (LineFault.early_sync is none) h = sync_no n h none
wrong n (LineFault.bad_lane is shut) h = other_no n shut h
wrong n {t = t} (LineFault.too_many {rest = rest} {lane = lane} is way high) h = lane_no n lane rest way (seen n Kind.LaneLine (lane_kind t lane rest way) h) (inl high)
wrong n {t = t} (LineFault.no_root {rest = rest} {lane = lane} is way low none) h = lane_no n lane rest way (seen n Kind.LaneLine (lane_kind t lane rest way) h) (inr (inl none))
wrong n {t = t} (LineFault.bad_command {rest = rest} {lane = lane} way is low r bad far) h = lane_no n lane rest way (seen n Kind.LaneLine (lane_kind t lane rest way) h) (inr (inr bad))

-- A line with a fault isn't in order.
no_take : (n : ℕ) {d e : Draft} {t : LineBytes} {number : ScriptNumber} {at : ℕ} → LineFault d t number at → TakesScriptLine n t d e → ⊥
no_take n f h = wrong n f (outside n h (closed f))

-- ---- all lines

-- Lines bring what was read so far to one thing only, where each line reads one way.
one_reads : LinesReadOneWay → (size : ℕ) {place n : ℕ} {d e f : Draft} {ts : List LineBytes} → ReadsLines size place n d ts e → ReadsLines size place n d ts f → e ≡ f
one_reads one size ReadsLines.no_more ReadsLines.no_more = refl
one_reads one size {place} {n} {f = f} (ReadsLines.one_more {t = t} {ts = ts} fits takes rest) (ReadsLines.one_more {e = mid} other again more) =
    one_reads one size rest (subst (λ m. ReadsLines size (end_of size place t) (n + 1) m ts f) (sym (one_takes one n takes again)) more)

-- Lines that are read through to a whole script have no first fault, where lines read one way.
no_fault : LinesReadOneWay → (size : ℕ) {place n : ℕ} {d e : Draft} {ts : List LineBytes} {m at : ℕ} {number : ScriptNumber} → ReadsLines size place n d ts e → (s : Script) → IsWhole e s → Faults size place n d ts m number at → ⊥
no_fault one size ReadsLines.no_more s whole (Faults.unclosed is) = some_none is whole.closed
no_fault one size ReadsLines.no_more s whole (Faults.rootless is none) = some_none whole.root none
no_fault one size (ReadsLines.one_more fits takes rest) s whole (Faults.too_long long) = let short = fits.line in omega (arith, long, short)
no_fault one size (ReadsLines.one_more fits takes rest) s whole (Faults.too_large short large) = let small = fits.script in omega (arith, large, small)
no_fault one size {n = n} (ReadsLines.one_more fits takes rest) s whole (Faults.here same f) = no_take n f takes
no_fault one size {place} {n} {m = m} {at = at} {number = number} (ReadsLines.one_more {t = t} {ts = ts} fits takes rest) s whole (Faults.later same again more) =
    no_fault one size rest s whole (subst (λ x. Faults size (end_of size place t) (n + 1) x ts m number at) (sym (one_takes one n takes again)) more)

-- What was read is one whole script at most.
wholes : (d : Draft) (r s : Script) → IsWhole d r → IsWhole d s → r ≡ s
wholes d r s h k =
    let a : r.manifests ≡ s.manifests = h.manifests ∙ sym k.manifests in
    let b : r.builtins ≡ s.builtins = h.builtins ∙ sym k.builtins in
    let c : r.root ≡ s.root = cc in
    let e : r.phases ≡ s.phases = h.phases ∙ sym k.phases in
    ap (λ x. record { manifests = x; builtins = r.builtins; root = r.root; phases = r.phases }) a
    ∙ ap (λ x. record { manifests = s.manifests; builtins = x; root = r.root; phases = r.phases }) b
    ∙ ap (λ x. record { manifests = s.manifests; builtins = s.builtins; root = x; phases = r.phases }) c
    ∙ ap (λ x. record { manifests = s.manifests; builtins = s.builtins; root = s.root; phases = x }) e

-- The same bytes are one script at most.
pub texts_are_one_script_lem : TextsAreOneScript
texts_are_one_script_lem bytes r s h k =
    wholes k.draft r s (subst (λ d. IsWhole d r) (one_reads reads_one_way_lem _ h.reads k.reads) h.whole) k.whole

-- Bytes that are a script have no fault.
pub scripts_have_no_fault_lem : ScriptsHaveNoFault
scripts_have_no_fault_lem bytes s line number at h f = no_fault reads_one_way_lem _ h.reads s h.whole f
