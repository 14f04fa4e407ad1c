use Rattle.std.proofs.Common.{◌≡◌, ℕ, List, [], ◌∷◌, Bool, true, false, ◌||◌, refl, sym, ◌∙◌, ap, nat_cmp, Ordering, Less, Equal, Greater, bytes_eq, ◌+◌, ◌<◌, length, take, get_or}
use Rattle.std.specs.Prelude.{map}
use Rattle.std.specs.List.{list_any}
use Rattle.std.specs.Ordering.{is_eq, match_ordering}
use Rattle.std.specs.BTreeSet.{insert_key}
use Rattle.std.specs.Cmp.Lexicographic.{slice_cmp, bytes_decides}
use Rattle.std.proofs.lemmas.Map.Text.{is_eq-slice_cmp}
use Rattle.std.proofs.lemmas.List.Folds.{list_any_more}
use Rattle.std.proofs.lemmas.Cmp.{nat_list_eq_equiv}
use Rattle.std.specs.declared.cmp.Reverse.{Reverse}
use denote.Ref.{Bor}
use Rattle.std.proofs.Math.Bool.{or_self_left}
use Rattle.cm_facts.proofs.Booleans.{or_swap}
use Rattle.cm_valid.specs.Lookup.{has}

-- the names, by their bytes
abbrev pub texts : List (Reverse (Bor (List ℕ))) → List (List ℕ)
texts ks = map (λ k. k.0.now) ks

-- the greatest stands first
abbrev pub text_cmp : Reverse (Bor (List ℕ)) → Reverse (Bor (List ℕ)) → Ordering
text_cmp a b = slice_cmp nat_cmp b.0.now a.0.now

-- Whether two texts have the same bytes doesn't depend on which comes first.
pub flipped : (a b : List ℕ) → bytes_eq a b ≡ bytes_eq b a
flipped a b = nat_list_eq_equiv.symm a b

-- a look-up in the order finds what has the same bytes
pub found_by_bytes : (name : List ℕ) (ks : List (Reverse (Bor (List ℕ))))
    → list_any (λ k. is_eq (slice_cmp nat_cmp k.0.now name)) ks ≡ has (texts ks) name
found_by_bytes name [] = refl
found_by_bytes name (k ∷ ks) =
    ap (λ v. v || list_any (λ k. is_eq (slice_cmp nat_cmp k.0.now name)) ks)
    (is_eq-slice_cmp k.0.now name ∙ flipped k.0.now name)
    ∙ ap (λ v. bytes_eq name k.0.now || v) (found_by_bytes name ks)

-- a key that is put in is found beside the others
pub inserted : (name : List ℕ) (key : Reverse (Bor (List ℕ))) (ks : List (Reverse (Bor (List ℕ)))) → has (texts (insert_key text_cmp ks key)) name ≡ (bytes_eq name key.0.now || has (texts ks) name)
inserted name key [] = refl
inserted name key (k ∷ ks) = by (text_cmp key k) refl (inserted name key ks)
  where
    by : (o : Ordering) → text_cmp key k ≡ o → has (texts (insert_key text_cmp ks key)) name ≡ (bytes_eq name key.0.now || has (texts ks) name) → has (texts (match_ordering o (key ∷ k ∷ ks) (k ∷ ks) (k ∷ insert_key text_cmp ks key))) name ≡ (bytes_eq name key.0.now || (bytes_eq name k.0.now || has (texts ks) name))
    by Less e later = refl
    by Equal e later =
        let same : key.0.now ≡ k.0.now = sym ((bytes_decides k.0.now key.0.now).0 (sym (is_eq-slice_cmp k.0.now key.0.now) ∙ ap is_eq e)) in
        sym (or_self_left (bytes_eq name k.0.now) (has (texts ks) name)) ∙ ap (λ t. bytes_eq name t || (bytes_eq name k.0.now || has (texts ks) name)) (sym same)
    by Greater e later =
        ap (λ v. bytes_eq name k.0.now || v) later ∙ or_swap (bytes_eq name k.0.now) (bytes_eq name key.0.now) (has (texts ks) name)

-- One of two tests passes, taken in one order, exactly where one does in the other.
or_comm : (p q : Bool) → (p || q) ≡ (q || p)
or_comm true true = refl
or_comm true false = refl
or_comm false true = refl
or_comm false false = refl

-- With one more row that passes under the name that is put in, the names are those of the rows so far.
pub named_more : {A : Type 0} (test : List ℕ → A → Bool) (rows : List A) (i : ℕ) (row : A) (old new : List (List ℕ)) (text : List ℕ) → i < length rows → row ≡ get_or rows i row → ((name : List ℕ) → bytes_eq name text ≡ test name row) → ((name : List ℕ) → has old name ≡ list_any (test name) (take i rows)) → ((name : List ℕ) → has new name ≡ (bytes_eq name text || has old name)) → (name : List ℕ) → has new name ≡ list_any (test name) (take (i + 1) rows)
named_more test rows i row old new text below at known before added = λ name.
    added name ∙ ap (λ v. v || has old name) (known name) ∙ ap (λ v. test name row || v) (before name) ∙ or_comm (test name row) (list_any (test name) (take i rows)) ∙
    ap (λ r. list_any (test name) (take i rows) || test name r) at ∙ sym (list_any_more (test name) rows i row below)

-- With one more row that passes under no name, the names are those of the rows so far.
pub named_same : {A : Type 0} (test : List ℕ → A → Bool) (rows : List A) (i : ℕ) (row : A) (names : List (List ℕ)) → i < length rows → row ≡ get_or rows i row → ((name : List ℕ) → test name row ≡ false) → ((name : List ℕ) → has names name ≡ list_any (test name) (take i rows)) → (name : List ℕ) → has names name ≡ list_any (test name) (take (i + 1) rows)
named_same test rows i row names below at fails before = λ name.
    before name ∙ or_comm false (list_any (test name) (take i rows)) ∙ ap (λ v. list_any (test name) (take i rows) || v) (sym (fails name)) ∙
    ap (λ r. list_any (test name) (take i rows) || test name r) at ∙ sym (list_any_more (test name) rows i row below)
