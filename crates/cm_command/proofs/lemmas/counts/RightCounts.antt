-- Words for rights.
use Rattle.std.proofs.Common.{◌≡◌, ◌⊎◌, inl, inr, ⊎_elim, ℕ, ◌+◌, ◌<◌, ◌≤◌, max, List, [], ◌∷◌, ◌++◌, length, take, get_or, map, Bor, codes, Bool, true, false, true≢false, if◌then◌else◌, ◌==◌, Some, None, Result, Ok, Err, refl, sym, ap, subst, ◌∙◌, arith, rules, append_assoc, append-nil, length-append}
use Rattle.std.specs.List.{Contains, list_any}
use Rattle.std.specs.Str.{bytes_eq}
use Rattle.std.proofs.lemmas.Slice.Eq.{bytes_eq-Decides}
use Rattle.std.proofs.lemmas.Option.{none-some}
use Rattle.std.proofs.lemmas.List.{take_more, length-map}
use Rattle.std.proofs.lemmas.List.Elements.{Contains-append_left, Contains-get_or, Contains-push, Contains-push_cases}
use Rattle.std.proofs.lemmas.List.Splits.{slice_split_none, slice_split_at}
use Rattle.cm_names.specs.declared.rights.Right.TheVariants.{Connect, Enumerate, Execute, GetAttributes, ModifyDirectory, ReadBytes, Traverse, UpdateAttributes, WriteBytes}
use Rattle.cm_names.specs.declared.rights.RightsFault.{RightsFault}
use Rattle.cm_names.specs.declared.rights.RightsFault.TheVariants.{RepeatedRight}
use Rattle.cm_names.specs.Rights.{RightSet, only, union, reading, writing, executing, no_rights, index_of, rights_of_word, with_rights, with_word, rights_behind, rights_of}
use Rattle.cm_names.specs.RightsInside.{rights_if_faultless}
use Rattle.cm_names.proofs.lemmas.sets.Rights.{rights_of_words}
use Rattle.cm_facts.proofs.Numbers.{add_between}
use Rattle.cm_command.specs.declared.tokens.WordFault.{WordFault}
use Rattle.cm_command.specs.declared.tokens.WordFault.TheVariants.{Bad, Memory}
use Rattle.cm_command.specs.Counts.{CountsPrefixes, IsWordFault, fault_behind}
use Rattle.cm_command.specs.Words.{IsRightsText}
use Rattle.cm_command.specs.WordsInside.{IsUnused, right_words}
use Rattle.cm_command.proofs.lemmas.counts.Kind.{Each, of_each, now_of, now_at, now_within, all_now, counts_same, counts_either}
use Rattle.cm_command.proofs.lemmas.line.Machine.{PiecesLead, Wants, SaysText, IsMachine, BeginsWithPiece, pieces, word_says, more_says, counts_piece, counts_more}
use Rattle.cm_command.proofs.lemmas.bytes.Pieces.{Lacks}
use Rattle.cm_command.proofs.lemmas.written.Written.{lacks_by}

-- ---- the words

-- one of the words that is none of the used ones
abbrev pub IsLeft : List (List ℕ) → List (List ℕ) → List ℕ → Type 0
IsLeft used ls t = Contains ls t × (list_any (bytes_eq t) used ≡ false)

-- A word among the first ones is so with one more.
one_more : (ls : List (List ℕ)) (i : ℕ) (t : List ℕ) → i < length ls → Contains (take i ls) t → Contains (take (i + 1) ls) t
one_more ls i t lt h =
    subst (λ xs. Contains xs t) (sym (take_more ls i [] lt)) (Contains-append_left (take i ls) (get_or ls i [] ∷ []) t h)

-- The word at a place is among the first ones up to it.
last_one : (ls : List (List ℕ)) (i : ℕ) → i < length ls → Contains (take (i + 1) ls) (get_or ls i [])
last_one ls i lt =
    subst (λ xs. Contains xs (get_or ls i [])) (sym (take_more ls i [] lt)) (Contains-push (take i ls) (get_or ls i []))

-- A word among the first ones with one more is among them or is that one.
one_of_more : (ls : List (List ℕ)) (i : ℕ) (t : List ℕ) → i < length ls → Contains (take (i + 1) ls) t → Contains (take i ls) t ⊎ (get_or ls i [] ≡ t)
one_of_more ls i t lt h =
    Contains-push_cases (take i ls) (get_or ls i []) t (subst (λ xs. Contains xs t) (take_more ls i [] lt) h)

-- Where the next word is used already, as many prefixes count as without it.
left_used : (used ls : List (List ℕ)) (w : List ℕ) (i m : ℕ) → i < length ls → list_any (bytes_eq (get_or ls i [])) used ≡ true → CountsPrefixes (IsLeft used (take i ls)) w m → CountsPrefixes (IsLeft used (take (i + 1) ls)) w m
left_used used ls w i m lt is h =
    counts_same {P = IsLeft used (take i ls)} {Q = IsLeft used (take (i + 1) ls)} w m (λ t p. (one_more ls i t lt p.0, p.1)) (λ t q. (⊎_elim (λ x. x) (λ e. absurd (true≢false (sym is ∙ ap (λ x. list_any (bytes_eq x) used) e ∙ q.1))) (one_of_more ls i t lt q.0), q.1)) h

-- the next word is none of the used ones
left_more : (used ls : List (List ℕ)) (w : List ℕ) (i m n k : ℕ) → i < length ls → k ≡ max m n → list_any (bytes_eq (get_or ls i [])) used ≡ false → CountsPrefixes (IsLeft used (take i ls)) w m → CountsPrefixes (λ t. t ≡ get_or ls i []) w n → CountsPrefixes (IsLeft used (take (i + 1) ls)) w k
left_more used ls w i m n k lt e is g h =
    counts_either {P = IsLeft used (take i ls)} {Q = λ t. t ≡ get_or ls i []} {R = IsLeft used (take (i + 1) ls)} w m n k (λ t p. (one_more ls i t lt p.0, p.1)) (λ t q. subst (IsLeft used (take (i + 1) ls)) (sym q) (last_one ls i lt, is)) (λ t r. ⊎_elim (λ x. inl (x, r.1)) (λ x. inr (sym x)) (one_of_more ls i t lt r.0)) e g h

-- ---- the same of an array of words

-- Where the next word for rights is used already, the count of those that are left stays.
pub array_used : (used : List (List ℕ)) (ls : List (Bor (List ℕ))) (w : List ℕ) (d : Bor (List ℕ)) (i m : ℕ) → i < length ls → list_any (bytes_eq (get_or ls i d).now) used ≡ true → CountsPrefixes (IsLeft used (take i (map (λ l. l.now) ls))) w m → CountsPrefixes (IsLeft used (take (i + 1) (map (λ l. l.now) ls))) w m
array_used used ls w d i m lt is h =
    left_used used (map now_of ls) w i m (now_within ls i lt) (ap (λ x. list_any (bytes_eq x) used) (now_at ls i d lt) ∙ is) h

-- Where the next word for rights isn't used, the count is the greater of that so far and the word's.
pub array_more : (used : List (List ℕ)) (ls : List (Bor (List ℕ))) (w : List ℕ) (d : Bor (List ℕ)) (i m n k : ℕ) → i < length ls → k ≡ max m n → list_any (bytes_eq (get_or ls i d).now) used ≡ false → CountsPrefixes (IsLeft used (take i (map (λ l. l.now) ls))) w m → CountsPrefixes (λ t. t ≡ (get_or ls i d).now) w n → CountsPrefixes (IsLeft used (take (i + 1) (map (λ l. l.now) ls))) w k
array_more used ls w d i m n k lt e is g h =
    left_more used (map now_of ls) w i m n k (now_within ls i lt) e (ap (λ x. list_any (bytes_eq x) used) (now_at ls i d lt) ∙ is) g (subst (λ l. CountsPrefixes (λ t. t ≡ l) w n) (sym (now_at ls i d lt)) h)

-- Once all words for rights are passed, the count of those left is that of all unused ones.
pub array_whole : (used : List (List ℕ)) (ls : List (Bor (List ℕ))) (w : List ℕ) (i n : ℕ) → length ls ≤ i → map (λ l. l.now) ls ≡ right_words → CountsPrefixes (IsLeft used (take i (map (λ l. l.now) ls))) w n → CountsPrefixes (IsUnused used) w n
array_whole used ls w i n le e h =
    subst (λ xs. CountsPrefixes (IsLeft used xs) w n) (all_now ls i le ∙ e) h

-- there are as many as there are words
pub within : (ls : List (Bor (List ℕ))) (i : ℕ) → map (λ l. l.now) ls ≡ right_words → i < 14 → i < length ls
within ls i e lt = omega (arith, length-map ls now_of, ap length e)

-- From place 14 on all words for rights are passed.
pub through : (ls : List (Bor (List ℕ))) (i : ℕ) → map (λ l. l.now) ls ≡ right_words → 14 ≤ i → length ls ≤ i
through ls i e le = omega (arith, length-map ls now_of, ap length e)

-- the piece is none of the words so far
pub array_not : (ls : List (Bor (List ℕ))) (w : List ℕ) (d : Bor (List ℕ)) (i : ℕ) → i < length ls → (w ≡ (get_or ls i d).now → ⊥) → (Contains (take i (map (λ l. l.now) ls)) w → ⊥) → Contains (take (i + 1) (map (λ l. l.now) ls)) w → ⊥
array_not ls w d i lt other never h =
    ⊎_elim never (λ e. other (sym e ∙ now_at ls i d lt)) (one_of_more (map now_of ls) i w (now_within ls i lt) h)

-- A text that is an item of the list of all words for rights is such a word.
pub array_is : (ls : List (Bor (List ℕ))) (w : List ℕ) (d : Bor (List ℕ)) (i : ℕ) → i < length ls → map (λ l. l.now) ls ≡ right_words → w ≡ (get_or ls i d).now → Contains right_words w
array_is ls w d i lt e is =
    subst (Contains right_words) (now_at ls i d lt ∙ sym is) (subst (λ xs. Contains xs (get_or (map now_of ls) i [])) e (Contains-get_or (map now_of ls) i [] (now_within ls i lt)))

-- ---- what the words stand for

-- Each of the words for rights stands for rights.
are_known : Each (λ w. (s : RightSet) × (rights_of_word w ≡ Some s)) right_words
unfolding rights_of_word
are_known = ((only Connect, refl), ((only Enumerate, refl), ((only Execute, refl), ((only GetAttributes, refl), ((only ModifyDirectory, refl), ((reading, refl), ((only ReadBytes, refl), ((union reading writing, refl), ((union reading executing, refl), ((only Traverse, refl), ((only UpdateAttributes, refl), ((writing, refl), ((only WriteBytes, refl), ((executing, refl), tt))))))))))))))

-- Two words are the same, or they compare as not the same.
is_or_not : (w x : List ℕ) → (w ≡ x) ⊎ (bytes_eq w x ≡ false)
is_or_not w x = grind (rules, bytes_eq-Decides)

-- A text that stands for rights is one of the words for rights.
pub is_word : (w : List ℕ) (s : RightSet) → rights_of_word w ≡ Some s → Contains right_words w
unfolding rights_of_word
is_word w s h =
    ⊎_elim (λ e. (0, omega arith, sym e)) (λ (f0 : bytes_eq w (codes "connect") ≡ false). ⊎_elim (λ e. (1, omega arith, sym e)) (λ (f1 : bytes_eq w (codes "enumerate") ≡ false). ⊎_elim (λ e. (2, omega arith, sym e)) (λ (f2 : bytes_eq w (codes "execute") ≡ false). ⊎_elim (λ e. (3, omega arith, sym e)) (λ (f3 : bytes_eq w (codes "get_attributes") ≡ false). ⊎_elim (λ e. (4, omega arith, sym e)) (λ (f4 : bytes_eq w (codes "modify_directory") ≡ false). ⊎_elim (λ e. (5, omega arith, sym e)) (λ (f5 : bytes_eq w (codes "r*") ≡ false). ⊎_elim (λ e. (6, omega arith, sym e)) (λ (f6 : bytes_eq w (codes "read_bytes") ≡ false). ⊎_elim (λ e. (7, omega arith, sym e)) (λ (f7 : bytes_eq w (codes "rw*") ≡ false). ⊎_elim (λ e. (8, omega arith, sym e)) (λ (f8 : bytes_eq w (codes "rx*") ≡ false). ⊎_elim (λ e. (9, omega arith, sym e)) (λ (f9 : bytes_eq w (codes "traverse") ≡ false). ⊎_elim (λ e. (10, omega arith, sym e)) (λ (f10 : bytes_eq w (codes "update_attributes") ≡ false). ⊎_elim (λ e. (11, omega arith, sym e)) (λ (f11 : bytes_eq w (codes "w*") ≡ false). ⊎_elim (λ e. (12, omega arith, sym e)) (λ (f12 : bytes_eq w (codes "write_bytes") ≡ false). ⊎_elim (λ e. (13, omega arith, sym e)) (λ (f13 : bytes_eq w (codes "x*") ≡ false). (let none : rights_of_word w ≡ None = rw (f5, f11, f13, f7, f8, f0, f1, f2, f3, f4, f6, f9, f10, f12) refl in absurd (none-some s (sym none ∙ h)))) (is_or_not w (codes "x*"))) (is_or_not w (codes "write_bytes"))) (is_or_not w (codes "w*"))) (is_or_not w (codes "update_attributes"))) (is_or_not w (codes "traverse"))) (is_or_not w (codes "rx*"))) (is_or_not w (codes "rw*"))) (is_or_not w (codes "read_bytes"))) (is_or_not w (codes "r*"))) (is_or_not w (codes "modify_directory"))) (is_or_not w (codes "get_attributes"))) (is_or_not w (codes "execute"))) (is_or_not w (codes "enumerate"))) (is_or_not w (codes "connect"))

-- None of the words for rights has a comma.
lack_commas : Each (Lacks 44) right_words
lack_commas = (lacks_by 44 (codes "connect") refl, (lacks_by 44 (codes "enumerate") refl, (lacks_by 44 (codes "execute") refl, (lacks_by 44 (codes "get_attributes") refl, (lacks_by 44 (codes "modify_directory") refl, (lacks_by 44 (codes "r*") refl, (lacks_by 44 (codes "read_bytes") refl, (lacks_by 44 (codes "rw*") refl, (lacks_by 44 (codes "rx*") refl, (lacks_by 44 (codes "traverse") refl, (lacks_by 44 (codes "update_attributes") refl, (lacks_by 44 (codes "w*") refl, (lacks_by 44 (codes "write_bytes") refl, (lacks_by 44 (codes "x*") refl, tt))))))))))))))

-- ---- lists of words

-- The first of some words is faultless, behind those before it, and so are the others.
pub record IsFirst (earlier : List (List ℕ)) (w : List ℕ) (ws : List (List ℕ)) : Type 0 where
  pub set : RightSet
  pub known : rights_of_word w ≡ Some set
  pub fresh : list_any (bytes_eq w) earlier ≡ false
  pub rest : RightSet
  pub others : rights_behind (earlier ++ w ∷ []) ws ≡ Ok rest

-- A known word whose rights and those behind it can be made is the first of faultless ones.
known_first : (earlier : List (List ℕ)) (w : List ℕ) (ws : List (List ℕ)) (r s : RightSet) (b : Bool) (q : Result RightSet RightsFault) → rights_of_word w ≡ Some s → list_any (bytes_eq w) earlier ≡ b → rights_behind (earlier ++ w ∷ []) ws ≡ q → (if b then Err (RepeatedRight (index_of (length earlier))) else with_rights s q) ≡ Ok r → IsFirst earlier w ws
known_first earlier w ws r s true q known fresh others h = absurd (cc h)
known_first earlier w ws r s false (Ok p) known fresh others h =
    record { set = s; known = known; fresh = fresh; rest = p; others = others }
known_first earlier w ws r s false (Err e) known fresh others h = absurd (cc h)

-- The first of faultless words for rights is known, isn't used before, and faultless ones follow it.
pub first_word : (earlier : List (List ℕ)) (w : List ℕ) (ws : List (List ℕ)) (r : RightSet) → rights_behind earlier (w ∷ ws) ≡ Ok r → IsFirst earlier w ws
first_word earlier w ws r h =
    elim (rights_of_word w) as (λ o. rights_of_word w ≡ o → with_word earlier w o (rights_behind (earlier ++ w ∷ []) ws) ≡ Ok r → IsFirst earlier w ws) [
      | None ↦ λ known e. absurd (cc e)
      | Some s ↦ λ known e. known_first earlier w ws r s (list_any (bytes_eq w) earlier) (rights_behind (earlier ++ w ∷ []) ws) known refl refl e
    ] refl h

-- Earlier words with one more, and a rest, are the earlier ones and the rest with it before.
regroup : (earlier : List (List ℕ)) (x : List ℕ) (xs : List (List ℕ)) → (earlier ++ x ∷ []) ++ xs ≡ earlier ++ x ∷ xs
regroup earlier x xs = append_assoc earlier (x ∷ []) xs

-- faultless words, and one more at their end
more_word : (earlier ws : List (List ℕ)) (w : List ℕ) (r s : RightSet) → rights_behind earlier ws ≡ Ok r → rights_of_word w ≡ Some s → list_any (bytes_eq w) (earlier ++ ws) ≡ false → (q : RightSet) × (rights_behind earlier (ws ++ w ∷ []) ≡ Ok q)
more_word earlier [] w r s h known fresh =
    let here : list_any (bytes_eq w) earlier ≡ false = ap (list_any (bytes_eq w)) (sym (append-nil earlier)) ∙ fresh in
    (union s no_rights, rw known (rw here refl))
more_word earlier (x ∷ xs) w r s h known fresh =
    let f = first_word earlier x xs r h in
    let more = more_word (earlier ++ x ∷ []) xs w f.rest s f.others known (ap (list_any (bytes_eq w)) (regroup earlier x xs) ∙ fresh) in
    (union f.set more.0, rw f.known (rw f.fresh (ap (with_rights f.set) more.1)))

-- each word of faultless ones is one of the words, and none of those before it
record IsFresh (earlier : List (List ℕ)) (w : List ℕ) : Type 0 where
  set : RightSet
  known : rights_of_word w ≡ Some set
  fresh : list_any (bytes_eq w) earlier ≡ false

-- A word of faultless ones is one of the words and none of those before it.
fresh_word : (earlier prefix : List (List ℕ)) (w : List ℕ) (ws : List (List ℕ)) (r : RightSet) → rights_behind earlier (prefix ++ w ∷ ws) ≡ Ok r → IsFresh (earlier ++ prefix) w
fresh_word earlier [] w ws r h =
    let f = first_word earlier w ws r h in
    record { set = f.set; known = f.known; fresh = ap (list_any (bytes_eq w)) (append-nil earlier) ∙ f.fresh }
fresh_word earlier (x ∷ xs) w ws r h =
    let f = first_word earlier x (xs ++ w ∷ ws) r h in
    subst (λ e. IsFresh e w) (regroup earlier x xs) (fresh_word (earlier ++ x ∷ []) xs w ws f.rest f.others)

-- ---- the machine

-- Whether a word leads from the used words to those with it.
abbrev steps : List (List ℕ) → List ℕ → List (List ℕ) → Type 0
steps used t p = IsUnused used t × (p ≡ used ++ t ∷ []) × ((r : RightSet) × (rights_of p ≡ Ok r))

-- Whether the text may end behind the used words, and says these rights.
abbrev ends : List (List ℕ) → RightSet → Type 0
ends used r = rights_of used ≡ Ok r

-- The words between commas that a text of rights is made of are read one way.
words : IsMachine 44 steps ends
words = record {
  one_way = λ s t a b g h. g.1 ∙ sym h.1;
  clean = λ s t a h. of_each (Lacks 44) right_words t lack_commas h.0.0;
  goes = λ s t a h. inl (h.2.0, h.2.1);
}

-- the words are faultless
abbrev AreGood : List (List ℕ) → Type 0
AreGood used = (r : RightSet) × (rights_behind [] used ≡ Ok r)

-- With one more at the end there is some used word.
some_word : (used : List (List ℕ)) (t : List ℕ) → 0 < length (used ++ t ∷ [])
some_word used t = omega (arith, length-append used (t ∷ []))

-- Faultless words with an unused one at the end are faultless.
good_more : (used : List (List ℕ)) (t : List ℕ) → AreGood used → IsUnused used t → AreGood (used ++ t ∷ [])
good_more used t good h =
    let known = of_each (λ w. (s : RightSet) × (rights_of_word w ≡ Some s)) right_words t are_known h.0 in
    more_word [] used t good.0 known.0 good.1 known.1 h.1

-- An unused word leads on from faultless ones.
step_on : (used : List (List ℕ)) (t : List ℕ) → AreGood used → IsUnused used t → steps used t (used ++ t ∷ [])
step_on used t good h =
    let more = good_more used t good h in
    (h, refl, (more.0, rights_of_words (used ++ t ∷ []) (some_word used t) ∙ more.1))

-- Words that lead on from used ones to rights are, behind those, words for these rights.
leads_rights : (ws used : List (List ℕ)) (v : RightSet) → PiecesLead steps ends used ws v → rights_of (used ++ ws) ≡ Ok v
leads_rights [] used v h = ap rights_of (append-nil used) ∙ h
leads_rights (w ∷ ws) used v h =
    ap rights_of (sym (regroup used w ws)) ∙ ap (λ a. rights_of (a ++ ws)) (sym h.1.1) ∙ leads_rights ws h.0 v h.2

-- With a word and more behind there is some used word.
long_more : (used : List (List ℕ)) (w : List ℕ) (ws : List (List ℕ)) → 0 < length (used ++ w ∷ ws)
long_more used w ws = omega (arith, length-append used (w ∷ ws))

-- Words that make rights behind faultless ones lead on from those to the rights.
rights_lead : (ws used : List (List ℕ)) (v : RightSet) → AreGood used → rights_of (used ++ ws) ≡ Ok v → PiecesLead steps ends used ws v
rights_lead [] used v good h = ap rights_of (sym (append-nil used)) ∙ h
rights_lead (w ∷ ws) used v good h =
    let f = fresh_word [] used w ws v (sym (rights_of_words (used ++ w ∷ ws) (long_more used w ws)) ∙ h) in
    let unused : IsUnused used w = (is_word w f.set f.known, f.fresh) in
    (used ++ w ∷ [], step_on used w good unused, rights_lead ws (used ++ w ∷ []) v (good_more used w good unused) (ap rights_of (regroup used w ws) ∙ h))

-- The text names some rights.
abbrev pub IsSomeRights : List ℕ → Type 0
IsSomeRights t = (r : RightSet) × IsRightsText t r

-- A text that says rights is the text of some rights.
says_rights : (t : List ℕ) → SaysText 44 steps ends [] t → IsSomeRights t
says_rights t h = (h.0, leads_rights (pieces 44 t) [] h.0 h.1)

-- A text that states rights says some, word by word, from the start.
rights_say : (t : List ℕ) → IsSomeRights t → SaysText 44 steps ends [] t
rights_say t h = (h.0, rights_lead (pieces 44 t) [] h.0 (no_rights, refl) h.1)

-- ---- from piece to piece

-- what the rest says from here is what the whole says
pub record IsOnward (whole : List ℕ) (used : List (List ℕ)) (place : ℕ) (rest : List ℕ) : Type 0 where
  good : AreGood used
  pub fits : place + length rest ≡ length whole
  leads : (v : RightSet) → PiecesLead steps ends used (pieces 44 rest) v → IsRightsText whole v
  never : (SaysText 44 steps ends used rest → ⊥) → IsSomeRights whole → ⊥
  counts : (n : ℕ) → CountsPrefixes (SaysText 44 steps ends used) rest n → CountsPrefixes IsSomeRights whole (place + n)

-- Before the first word for rights, what the rest says is what the whole text says.
pub begins : (w : List ℕ) → IsOnward w [] 0 w
begins w = record {
  good = (no_rights, refl);
  fits = omega arith;
  leads = λ v h. leads_rights (pieces 44 w) [] v h;
  never = λ not h. not (rights_say w h);
  counts = λ n h. let same : n ≡ 0 + n = omega arith in subst (CountsPrefixes IsSomeRights w) same (counts_same w n says_rights rights_say h);
}

-- Where a word and more say rights behind used ones, the rest says them with the word used too.
says_next : (used : List (List ℕ)) (p more : List ℕ) → Lacks 44 p → SaysText 44 steps ends used (p ++ 44 ∷ more) → SaysText 44 steps ends (used ++ p ∷ []) more
says_next used p more lacks h =
    let led = more_says 44 steps ends used p more lacks h in
    subst (λ a. SaysText 44 steps ends a more) led.1.1 led.2

-- With an unused word and a comma behind it, reading goes on behind these, with that word used.
pub further : (w : List ℕ) (used : List (List ℕ)) (place : ℕ) (rest p more : List ℕ) → IsOnward w used place rest → Lacks 44 p → IsUnused used p → rest ≡ p ++ 44 ∷ more → IsOnward w (used ++ p ∷ []) (place + length p + 1) more
further w used place rest p more on lacks unused e =
    let st = step_on used p on.good unused in
    record {
      good = good_more used p on.good unused;
      fits = omega (arith, on.fits, ap length e, length-append p (44 ∷ more));
      leads = λ v h. on.leads v (subst (λ ps. PiecesLead steps ends used ps v) (sym (ap (pieces 44) e ∙ slice_split_at (λ b. b == 44) p 44 more lacks refl)) (used ++ p ∷ [], st, h));
      never = λ not h. on.never (λ says. not (says_next used p more lacks (subst (SaysText 44 steps ends used) e says))) h;
      counts = λ n h. subst (CountsPrefixes IsSomeRights w) (add_between place (length p) n) (on.counts (length p + 1 + n) (subst (λ t. CountsPrefixes (SaysText 44 steps ends used) t (length p + 1 + n)) (sym e) (counts_more 44 steps ends words used (used ++ p ∷ []) p more n st h)));
    }

-- The first word of a text that says rights behind used ones isn't among those used.
wants_piece : (used : List (List ℕ)) (rest p : List ℕ) → Lacks 44 p → BeginsWithPiece 44 p rest → SaysText 44 steps ends used rest → IsUnused used p
wants_piece used rest p lacks begins h =
    ⊎_elim (λ e. (word_says 44 steps ends used p lacks (subst (SaysText 44 steps ends used) e h)).1.0) (λ m. (more_says 44 steps ends used p m.0 lacks (subst (SaysText 44 steps ends used) m.1 h)).1.0) begins

-- Where the next piece is no unused word, the fault of the rights is that of the piece, behind what was read.
pub stuck : (w : List ℕ) (used : List (List ℕ)) (place : ℕ) (rest p : List ℕ) (e f : WordFault) → IsOnward w used place rest → Lacks 44 p → BeginsWithPiece 44 p rest → f ≡ fault_behind place e → IsWordFault (IsUnused used) p e → IsWordFault (λ t. (r : RightSet) × IsRightsText t r) w f
stuck w used place rest p (Bad n) f on lacks begins same h =
    subst (IsWordFault IsSomeRights w) (sym same) (on.never (λ says. h.0 (wants_piece used rest p lacks begins says)), on.counts n (counts_piece 44 steps ends words used p rest n lacks (λ some. h.0 some.1.0) (counts_same {P = IsUnused used} {Q = Wants steps used} p n (λ t u. (used ++ t ∷ [], step_on used t on.good u)) (λ t u. u.1.0) h.1) begins))
stuck w used place rest p Memory f on lacks begins same h = subst (IsWordFault IsSomeRights w) (sym same) tt

-- Rights that are had where there is no fault are what was read.
faultless : (r : Result RightSet RightsFault) (v : RightSet) → rights_if_faultless r ≡ Some v → r ≡ Ok v
faultless (Ok q) v h = ap Ok (cc h)
faultless (Err e) v h = absurd (none-some v h)

-- With the last word, which is unused, the text is that of the rights of all words.
pub ended : (w : List ℕ) (used : List (List ℕ)) (place : ℕ) (rest p : List ℕ) (v : RightSet) → IsOnward w used place rest → Lacks 44 p → IsUnused used p → rest ≡ p → rights_if_faultless (rights_of (used ++ p ∷ [])) ≡ Some v → IsRightsText w v
ended w used place rest p v on lacks unused e h =
    on.leads v (subst (λ ps. PiecesLead steps ends used ps v) (sym (ap (pieces 44) e ∙ slice_split_none (λ b. b == 44) p lacks)) (used ++ p ∷ [], step_on used p on.good unused, faultless (rights_of (used ++ p ∷ [])) v h))

-- Faultless words for rights with an unused one behind them aren't found to have a fault.
pub never_faulty : (w : List ℕ) (used : List (List ℕ)) (place : ℕ) (rest p : List ℕ) → IsOnward w used place rest → IsUnused used p → rights_if_faultless (rights_of (used ++ p ∷ [])) ≡ None → ⊥
never_faulty w used place rest p on unused h =
    let st = step_on used p on.good unused in
    none-some st.2.0 (sym h ∙ ap rights_if_faultless st.2.1)
