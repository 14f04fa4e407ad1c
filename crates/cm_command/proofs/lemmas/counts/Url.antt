-- URLs, byte by byte.
use Rattle.std.proofs.Common.{◌≡◌, ◌⊎◌, inl, inr, ⊎_elim, ℕ, zero, suc, ◌+◌, ◌<◌, ◌≤◌, List, [], length, take, drop, min, sym, ap, subst, ◌∙◌, arith, rules, append-nil, length-append}
use Rattle.std.specs.List.{prefix_len, take_while}
use Rattle.std.specs.Str.{IsUtf8}
use Rattle.std.proofs.lemmas.List.{length-take-le, take-append-drop}
use Rattle.std.proofs.lemmas.List.Folds.{length-prefix_len}
use Rattle.std.proofs.lemmas.List.Sums.{prefix_len-le-length, prefix_len_passes}
use Rattle.cm_names.specs.Prefixes.{HasCompletion}
use Rattle.cm_names.specs.Urls.{is_url_byte}
use Rattle.cm_facts.proofs.Rights.{url_byte_low}
use Rattle.cm_command.specs.Words.{IsUrlText}
use Rattle.cm_command.specs.Counts.{CountsPrefixes}
use Rattle.cm_command.proofs.lemmas.counts.Count.{take_none, url_begins}
use Rattle.cm_command.proofs.lemmas.bytes.Runs.{ascii_text, run_passes, run_stops, least}

-- A URL is UTF-8.
pub url_utf8 : (t : List ℕ) → IsUrlText t → IsUtf8 t
url_utf8 t h = ascii_text t (λ k d lt. url_byte_low _ (h.bytes k d lt))

-- A beginning of at most 4096 bytes, all fit for URLs, can be completed to a URL.
url_prefix : (w : List ℕ) (i : ℕ) → i ≤ prefix_len is_url_byte w → i ≤ 4096 → HasCompletion IsUrlText (take i w)
url_prefix w zero le short = subst (HasCompletion IsUrlText) (sym (take_none w)) url_begins
url_prefix w (suc i) le short =
    let bound : prefix_len is_url_byte w ≤ length w = prefix_len-le-length is_url_byte w in
    let len : length (take (suc i) w) ≡ suc i = length-take-le (suc i) w (omega arith) in
    ([], subst IsUrlText (sym (append-nil (take (suc i) w))) (record { some = omega arith; short = omega arith; bytes = run_passes is_url_byte w (suc i) le }))

-- A beginning of 4097 bytes, or one byte longer than the bytes fit for URLs, completes to no URL.
url_stops : (w : List ℕ) (n : ℕ) → n ≤ length w → HasCompletion IsUrlText (take n w) → (n ≡ 4097) ⊎ (n ≡ prefix_len is_url_byte w + 1) → ⊥
url_stops w n le more (inl full) =
    let len : length (take n w) ≡ n = length-take-le n w le in
    absurd (omega (arith, more.1.short, length-append (take n w) more.0))
url_stops w n le more (inr past) = run_stops is_url_byte w more.0 n le (omega arith) more.1.bytes

-- A text has a prefix of a URL for each URL byte that it begins with, to the limit, and the empty one.
pub url_counts : (w : List ℕ) (m n : ℕ) → m ≡ length (take_while is_url_byte w) → n ≡ min (m + 1) 4097 → CountsPrefixes IsUrlText w n
url_counts w m n e f =
    let same : m ≡ prefix_len is_url_byte w = e ∙ length-prefix_len is_url_byte w in
    let bound : prefix_len is_url_byte w ≤ length w = prefix_len-le-length is_url_byte w in
    record {
      within = omega arith;
      begins = λ i g. url_prefix w i (omega arith) (omega arith);
      stops = λ le more. url_stops w n le more (⊎_elim (λ x. inl x) (λ x. inr (x ∙ ap (λ k. k + 1) same)) (least (m + 1) 4097 n f));
    }

-- A text that isn't empty, and of which all prefixes count for a URL, is a URL.
pub url_whole : (w : List ℕ) (m n : ℕ) → m ≡ length (take_while is_url_byte w) → n ≡ min (m + 1) 4097 → 0 < length w → length w < n → IsUrlText w
url_whole w m n e f some over =
    let same : m ≡ prefix_len is_url_byte w = e ∙ length-prefix_len is_url_byte w in
    record { some = omega arith; short = omega arith; bytes = λ k d lt. prefix_len_passes is_url_byte w k d (omega arith) }

-- a text that has a prefix which can't be completed is none of the kind
pub not_whole : {P : List ℕ → Type 0} (w : List ℕ) (n : ℕ) → CountsPrefixes P w n → n ≤ length w → P w → ⊥
not_whole {P} w n h le whole = h.stops le (drop n w, subst P (sym (take-append-drop n w)) whole)

-- The empty text is no URL.
pub nothing_is_no_url : (w : List ℕ) → length w ≡ 0 → IsUrlText w → ⊥
nothing_is_no_url w e h = absurd (omega (arith, h.some))
