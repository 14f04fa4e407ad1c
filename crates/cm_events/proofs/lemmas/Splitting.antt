-- Streams are read in parts, and stand in later histories.
use Rattle.std.proofs.Common.{◌≡◌, ℕ, zero, suc, ◌+◌, ◌-◌, ◌≤◌, ◌<◌, List, [], ◌∷◌, ◌++◌, Option, Some, None, take, length, refl, sym, ◌∙◌, ap, arith, zero-add, add-zero, suc-add}
use Rattle.std.specs.Prelude.{slice_get, filter}
use Rattle.std.specs.List.{flat_map, range_with_len}
use Rattle.std.proofs.lemmas.Grind.{flat_map-append}
use Rattle.std.proofs.lemmas.List.Elements.{filter-append}
use Rattle.std.proofs.lemmas.List.{take-append-le}
use Rattle.cm_names.specs.declared.moniker.Moniker.{Moniker}
use Rattle.cm_world.specs.declared.reply.Entry.{Entry}
use Rattle.cm_world.specs.declared.happening.Happening.{Happening}
use Rattle.cm_events.specs.Stream.{work_of, told_by, told_behind, is_within, stream}
use Rattle.cm_events.specs.Laws.{StreamsSplit, StreamsStand}

-- ---- numbers in a row

-- a row of numbers, and the row that begins where it ends
range_parts : (a n k : ℕ) → range_with_len a n ++ range_with_len (a + n) k ≡ range_with_len a (n + k)
range_parts a zero k = ap (λ z. range_with_len z k) (add-zero a) ∙ ap (range_with_len a) (sym (zero-add k))
range_parts a (suc n) k =
    let moved : range_with_len (a + suc n) k ≡ range_with_len (a + 1 + n) k = ap (λ z. range_with_len z k) (omega arith) in
    ap (λ zs. a ∷ range_with_len (a + 1) n ++ zs) moved ∙ ap (λ zs. a ∷ zs) (range_parts (a + 1) n k)
    ∙ ap (range_with_len a) (sym (suc-add n k))

-- ---- in parts

-- A stream that is read in two parts is the one read at once.
pub streams_split : StreamsSplit
streams_split h p m n scope low high =
    let there : range_with_len m (n - m) ≡ range_with_len (p + (m - p)) (n - m) = ap (λ z. range_with_len z (n - m)) (omega arith) in
    let len : (m - p) + (n - m) ≡ n - p = omega arith in
    let whole : range_with_len p (m - p) ++ range_with_len m (n - m) ≡ range_with_len p (n - p) =
    ap (λ zs. range_with_len p (m - p) ++ zs) there ∙ range_parts p (m - p) (n - m) ∙ ap (range_with_len p) len in
    sym (filter-append (is_within scope) (flat_map (told_behind h) (range_with_len p (m - p))) (flat_map (told_behind h) (range_with_len m (n - m))))
    ∙ ap (filter (is_within scope)) (sym (flat_map-append (told_behind h) (range_with_len p (m - p)) (range_with_len m (n - m))))
    ∙ ap (λ zs. filter (is_within scope) (flat_map (told_behind h) zs)) whole

-- ---- in later histories

-- the prefix of a list is that of every longer one
get_prefix : {A : Type 0} (xs ys : List A) (k : ℕ) → k < length xs → slice_get (xs ++ ys) k ≡ slice_get xs k
get_prefix [] ys k within = absurd (omega arith)
get_prefix (x ∷ xs) ys zero within = refl
get_prefix (x ∷ xs) ys (suc k) within = get_prefix xs ys k (omega arith)

-- What an entry tells is the same in a later history.
told_prefix : (h more : List Entry) (k : ℕ) → k < length h → told_behind (h ++ more) k ≡ told_behind h k
told_prefix h more k within =
    ap (λ o. elim o as (λ _. List Happening) [ None ↦ [] | Some e ↦ told_by (work_of (take k (h ++ more))) (k + 1) e.event e.reply ]) (get_prefix h more k within)
    ∙ ap (λ b. elim (slice_get h k) as (λ _. List Happening) [ None ↦ [] | Some e ↦ told_by (work_of b) (k + 1) e.event e.reply ]) (take-append-le k h more (omega arith))

-- What a row of entries tells stays where entries come behind.
told_row : (h more : List Entry) (a k : ℕ) → a + k ≤ length h → flat_map (told_behind (h ++ more)) (range_with_len a k) ≡ flat_map (told_behind h) (range_with_len a k)
told_row h more a zero within = refl
told_row h more a (suc k) within =
    ap (λ zs. zs ++ flat_map (told_behind (h ++ more)) (range_with_len (a + 1) k)) (told_prefix h more a (omega arith))
    ∙ ap (λ zs. told_behind h a ++ zs) (told_row h more (a + 1) k (omega arith))

-- What is told from a place on stays where entries come behind, also where the place isn't reached.
row_within : (h more : List Entry) (from n : ℕ) → n ≤ length h → flat_map (told_behind (h ++ more)) (range_with_len from (n - from)) ≡ flat_map (told_behind h) (range_with_len from (n - from))
row_within h more from n within = by (n - from) refl
  where
    by : (k : ℕ) → n - from ≡ k → flat_map (told_behind (h ++ more)) (range_with_len from k) ≡ flat_map (told_behind h) (range_with_len from k)
    by zero e = refl
    by (suc k) e = told_row h more from (suc k) (omega arith)

-- What was read of a history is read the same of every later one.
pub streams_stand : StreamsStand
streams_stand h more from n scope within = ap (filter (is_within scope)) (row_within h more from n within)
