-- Paths, byte by byte.
use Rattle.std.proofs.Common.{◌≡◌, ◌⊎◌, inl, inr, ⊎_elim, ℕ, ◌+◌, ◌<◌, ◌≤◌, List, [], ◌∷◌, ◌++◌, length, take, get_or, codes, true, false, true≢false, IsTrue, All, nat_le, ◌&&◌, ◌==◌, not, rules, eqb-true, refl, sym, ap, subst, ◌∙◌, arith, append_assoc, append-nil, length-append}
use Rattle.std.proofs.lemmas.List.{take_more, length-take-le, nil_from_length}
use Rattle.cm_names.specs.Prefixes.{HasCompletion}
use Rattle.std.proofs.lemmas.Bool.{and_parts}
use Rattle.std.specs.List.{list_all, slice_split, join_with_byte}
use Rattle.std.specs.Str.{IsUtf8}
use Rattle.std.proofs.lemmas.List.Elements.{All-cons, All-nil, All-append}
use Rattle.std.proofs.lemmas.List.Splits.{join_with_byte-slice_split}
use Rattle.cm_names.specs.Path.{is_path, is_subdir, is_relative, is_part, is_part_byte, is_slash, is_dots}
use Rattle.cm_facts.proofs.Rights.{part_byte_low}
use Rattle.cm_command.specs.declared.tokens.PathState.{PathState}
use Rattle.cm_command.specs.declared.tokens.PathState.TheVariants.{Slash, Dot, Dots, Inside}
use Rattle.cm_command.specs.PathPlaces.{path_prefix}
use Rattle.cm_command.specs.Counts.{CountsPrefixes}
use Rattle.cm_command.proofs.lemmas.counts.Kind.{IsBehind, counts_stop, counts_all, counts_same, counts_behind}
use Rattle.cm_command.proofs.lemmas.bytes.Runs.{ascii_text}

-- parts of a path in at most so many bytes
abbrev pub AreParts : ℕ → List ℕ → Type 0
AreParts limit t = IsTrue (is_relative t) × (length t ≤ limit)

-- the place is that behind the bytes so far, and there is room for what is wanting
pub record IsUnderWay (w : List ℕ) (limit i : ℕ) (p : PathState) : Type 0 where
  pub leads : (t : List ℕ) → is_relative (take i w ++ t) ≡ is_relative (path_prefix p ++ t)
  pub short : i ≤ limit
  pub room : is_relative (path_prefix p) ≡ false → i < limit

-- the text may end at the place, or with one letter more
may_end : (p : PathState) → (is_relative (path_prefix p ++ []) ≡ true) ⊎ ((is_relative (path_prefix p) ≡ false) × (is_relative (path_prefix p ++ codes "a") ≡ true))
may_end Slash = inr (refl, refl)
may_end Dot = inr (refl, refl)
may_end Dots = inr (refl, refl)
may_end Inside = inl refl

-- The bytes up to a place on the way begin some parts of a path.
prefix : (w : List ℕ) (limit i : ℕ) (p : PathState) → i ≤ length w → IsUnderWay w limit i p → HasCompletion (AreParts limit) (take i w)
prefix w limit i p le way =
    let len : length (take i w) ≡ i = length-take-le i w le in
    ⊎_elim (λ e. ([], (way.leads [] ∙ e, omega (arith, way.short, length-append (take i w) [])))) (λ e. let room : i < limit = way.room e.0 in (codes "a", (way.leads (codes "a") ∙ e.1, omega (arith, length-append (take i w) (codes "a"))))) (may_end p)

-- The bytes with one more, and a rest, are the bytes, and that one before the rest.
further_is : (w r : List ℕ) (i : ℕ) → i < length w → take (i + 1) w ++ r ≡ take i w ++ get_or w i 0 ∷ r
further_is w r i lt =
    ap (λ t. t ++ r) (take_more w i 0 lt) ∙ append_assoc (take i w) (get_or w i 0 ∷ []) r

-- Where the next byte leads nowhere, the prefixes up to it are those that begin a path's parts.
pub stuck : (w : List ℕ) (limit i : ℕ) (p : PathState) → i < length w → IsUnderWay w limit i p → ((t : List ℕ) → is_relative (path_prefix p ++ get_or w i 0 ∷ t) ≡ false) → CountsPrefixes (AreParts limit) w (i + 1)
stuck w limit i p lt way never =
    counts_stop w i lt (prefix w limit i p (omega arith) way) (λ more. true≢false (sym more.1.0 ∙ ap is_relative (further_is w more.0 i lt) ∙ way.leads (get_or w i 0 ∷ more.0) ∙ never more.0))

-- there is no room for the next byte
pub full : (w : List ℕ) (limit i : ℕ) (p : PathState) → i < length w → IsUnderWay w limit i p → limit < i + 1 → CountsPrefixes (AreParts limit) w (i + 1)
full w limit i p lt way over =
    counts_stop w i lt (prefix w limit i p (omega arith) way) (λ more. let len : length (take (i + 1) w) ≡ i + 1 = length-take-le (i + 1) w (omega arith) in absurd (omega (arith, more.1.1, length-append (take (i + 1) w) more.0)))

-- the next byte leads to a place where parts may not end, and there is no room for more
pub unended : (w : List ℕ) (limit i : ℕ) (p q : PathState) → i < length w → IsUnderWay w limit i p → ((t : List ℕ) → is_relative (path_prefix p ++ get_or w i 0 ∷ t) ≡ is_relative (path_prefix q ++ t)) → i + 1 ≡ limit → is_relative (path_prefix q) ≡ false → CountsPrefixes (AreParts limit) w (i + 1)
unended w limit i p q lt way goes last wants =
    let len : length (take (i + 1) w) ≡ i + 1 = length-take-le (i + 1) w (omega arith) in
    counts_stop w i lt (prefix w limit i p (omega arith) way) (λ more. let none : more.0 ≡ [] = nil_from_length more.0 (omega (arith, more.1.1, length-append (take (i + 1) w) more.0)) in true≢false (sym more.1.0 ∙ ap is_relative (further_is w more.0 i lt) ∙ way.leads (get_or w i 0 ∷ more.0) ∙ goes more.0 ∙ ap (λ r. is_relative (path_prefix q ++ r)) none ∙ ap is_relative (append-nil (path_prefix q)) ∙ wants))

-- Where the next byte leads on, one byte more is under way.
pub further : (w : List ℕ) (limit i : ℕ) (p q : PathState) → i < length w → IsUnderWay w limit i p → ((t : List ℕ) → is_relative (path_prefix p ++ get_or w i 0 ∷ t) ≡ is_relative (path_prefix q ++ t)) → i + 1 ≤ limit → (is_relative (path_prefix q) ≡ false → i + 1 < limit) → IsUnderWay w limit (i + 1) q
further w limit i p q lt way goes short room = record {
  leads = λ t. ap is_relative (further_is w t i lt) ∙ way.leads (get_or w i 0 ∷ t) ∙ goes t;
  short = short;
  room = room;
}

-- Where all bytes lead on, all prefixes begin a path's parts.
pub ended : (w : List ℕ) (limit i : ℕ) (p : PathState) → i ≡ length w → IsUnderWay w limit i p → CountsPrefixes (AreParts limit) w (length w + 1)
ended w limit i p all way =
    subst (λ n. CountsPrefixes (AreParts limit) w (n + 1)) all (counts_all w i all (prefix w limit i p (omega arith) way))

-- ---- paths and subdirectories

-- A number that tests as no greater than another isn't greater.
below : (n m : ℕ) → nat_le n m ≡ true → n ≤ m
below n m h = grind (arith, rules)

-- A number that isn't greater than another tests as no greater.
is_below : (n m : ℕ) → n ≤ m → nat_le n m ≡ true
is_below n m h = grind (arith, rules)

-- A path is a slash and parts in at most 4095 bytes.
path_rest : (t : List ℕ) → IsTrue (is_path t) → (x : List ℕ) × AreParts 4095 x × (t ≡ codes "/" ++ x)
path_rest [] h = absurd (true≢false (sym h))
path_rest (b ∷ bs) h =
    let both = and_parts (nat_le (length (b ∷ bs)) 4096 && is_slash b) (is_relative bs) h in
    let prefix = and_parts (nat_le (length (b ∷ bs)) 4096) (is_slash b) both.0 in
    let slash : b ≡ 47 = eqb-true b 47 prefix.1 in
    (bs, (both.1, omega (arith, below (length (b ∷ bs)) 4096 prefix.0)), ap (λ c. c ∷ bs) slash)

-- A path is exactly `/` and the parts of a path in at most 4,095 bytes.
pub path_behind : IsBehind (codes "/") (AreParts 4095) (λ t. IsTrue (is_path t))
path_behind = record {
  rest = path_rest;
  whole = λ x p. rw (is_below (length (47 ∷ x)) 4096 (omega (arith, p.1))) p.0;
  some = (codes "a", (refl, omega arith));
}

-- A text of `/` and a rest has one prefix of a path more than the rest has as a path's parts.
pub path_counts : (w u : List ℕ) (n : ℕ) → w ≡ codes "/" ++ u → CountsPrefixes (AreParts 4095) u n → CountsPrefixes (λ t. IsTrue (is_path t)) w (n + 1)
path_counts w u n e h =
    let same : length (codes "/") + n ≡ n + 1 = omega arith in
    subst (CountsPrefixes (λ t. IsTrue (is_path t)) w) same (counts_behind (codes "/") w u n path_behind e h)

-- A text has as many prefixes of a subdirectory as it has of a path's parts in 4,096 bytes.
pub subdir_counts : (w : List ℕ) (n : ℕ) → CountsPrefixes (AreParts 4096) w n → CountsPrefixes (λ t. IsTrue (is_subdir t)) w n
subdir_counts w n h =
    counts_same {P = AreParts 4096} {Q = λ t. IsTrue (is_subdir t)} w n (λ t p. rw (is_below (length t) 4096 p.1) p.0) (λ t q. let both = and_parts (nat_le (length t) 4096) (is_relative t) q in (both.1, below (length t) 4096 both.0)) h

-- ---- bytes of paths

-- Bytes that may stand in a part are below 128.
part_low : (p : List ℕ) → list_all is_part_byte p ≡ true → All (λ b. b < 128) p
part_low [] h = All-nil (λ b. b < 128)
part_low (b ∷ bs) h =
    let both = and_parts (is_part_byte b) (list_all is_part_byte bs) h in
    All-cons (λ c. c < 128) b bs (part_byte_low b both.0) (part_low bs both.1)

-- A part has only bytes that may stand in one.
part_bytes : (p : List ℕ) → is_part p ≡ true → list_all is_part_byte p ≡ true
part_bytes p h = (and_parts (not (length p == 0) && not (is_dots p)) (list_all is_part_byte p) h).1

-- Parts joined by slashes have bytes below 128 alone.
parts_low : (ps : List (List ℕ)) → list_all is_part ps ≡ true → All (λ b. b < 128) (join_with_byte 47 ps)
parts_low [] h = All-nil (λ b. b < 128)
parts_low (p ∷ []) h = let both = and_parts (is_part p) true h in part_low p (part_bytes p both.0)
parts_low (p ∷ q ∷ qs) h =
    let both = and_parts (is_part p) (list_all is_part (q ∷ qs)) h in
    All-append (λ b. b < 128) p (47 ∷ join_with_byte 47 (q ∷ qs)) (part_low p (part_bytes p both.0)) (All-cons (λ b. b < 128) 47 (join_with_byte 47 (q ∷ qs)) (omega arith) (parts_low (q ∷ qs) both.1))

-- A relative path has bytes below 128 alone.
relative_low : (t : List ℕ) → is_relative t ≡ true → All (λ b. b < 128) t
relative_low t h =
    subst (All (λ b. b < 128)) (join_with_byte-slice_split 47 t) (parts_low (slice_split (λ b. b == 47) t) h)

-- A subdirectory is UTF-8.
pub subdir_utf8 : (t : List ℕ) → IsTrue (is_subdir t) → IsUtf8 t
subdir_utf8 t h = ascii_text t (relative_low t (and_parts (nat_le (length t) 4096) (is_relative t) h).1)

-- A path is UTF-8.
pub path_utf8 : (t : List ℕ) → IsTrue (is_path t) → IsUtf8 t
path_utf8 t h =
    let r = path_rest t h in
    subst IsUtf8 (sym r.2) (ascii_text (47 ∷ r.0) (All-cons (λ b. b < 128) 47 r.0 (omega arith) (relative_low r.0 r.1.0)))
