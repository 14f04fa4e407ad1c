-- Reading the words of rights, one word more.
use Rattle.std.proofs.Common.{◌≡◌, ℕ, ◌+◌, ◌<◌, List, [], ◌∷◌, ◌++◌, length, take, drop, get_or, Bool, true, false, ◌||◌, if◌then◌else◌, Some, None, Ok, Err, Result, refl, sym, ap, ◌∙◌, arith}
use Rattle.std.specs.List.{list_any}
use Rattle.std.specs.Str.{bytes_eq}
use Rattle.std.specs.Option.{option_map_or}
use Rattle.std.proofs.Math.Bool.{or-false, or_assoc}
use Rattle.std.proofs.lemmas.List.{take_more, drop_more}
use Rattle.cm_names.specs.declared.rights.Right.{Right}
use Rattle.cm_names.specs.declared.rights.Right.TheVariants.{Connect, Enumerate, Execute, GetAttributes, ModifyDirectory, ReadBytes, Traverse, UpdateAttributes, WriteBytes}
use Rattle.cm_names.specs.declared.rights.RightsFault.{RightsFault}
use Rattle.cm_names.specs.declared.rights.RightsFault.TheVariants.{RepeatedRight}
use Rattle.cm_names.specs.Rights.{RightSet, index_of, union, with_rights, with_word, rights_behind, rights_of_word, rights_of, no_rights, has}
use Rattle.cm_names.specs.RightsInside.{word_has}

-- The union of three sets of rights doesn't depend on which two are united first.
union_assoc : (a b c : RightSet) → union a (union b c) ≡ union (union a b) c
union_assoc a b c =
    rw (or_assoc a.connect b.connect c.connect, or_assoc a.enumerate b.enumerate c.enumerate, or_assoc a.execute b.execute c.execute, or_assoc a.get_attributes b.get_attributes c.get_attributes, or_assoc a.modify_directory b.modify_directory c.modify_directory, or_assoc a.read_bytes b.read_bytes c.read_bytes, or_assoc a.traverse b.traverse c.traverse, or_assoc a.update_attributes b.update_attributes c.update_attributes, or_assoc a.write_bytes b.write_bytes c.write_bytes) refl

-- One set of rights and then another added to what was read is their union added to it.
with_rights_twice : (a b : RightSet) (r : Result RightSet RightsFault) → with_rights a (with_rights b r) ≡ with_rights (union a b) r
with_rights_twice a b (Ok c) = ap Ok (union_assoc a b c)
with_rights_twice a b (Err e) = refl

-- The rights of one or more words are those of words with none before them.
pub rights_of_words : (ws : List (List ℕ)) → 0 < length ws → rights_of ws ≡ rights_behind [] ws
unfolding rights_of
rights_of_words [] h = absurd (omega arith)
rights_of_words (w ∷ ws) h = refl

-- What words from a place on make is what they make with the word at this place first.
one_word : (ws : List (List ℕ)) (i : ℕ) (d : List ℕ) → i < length ws → rights_behind (take i ws) (drop i ws) ≡ with_word (take i ws) (get_or ws i d) (rights_of_word (get_or ws i d)) (rights_behind (take (i + 1) ws) (drop (i + 1) ws))
one_word ws i d lt = rw (drop_more ws i d lt) (rw (take_more ws i d lt) refl)

-- the word at i has no fault
pub added : (ws : List (List ℕ)) (i : ℕ) (r more : RightSet) (b : Bool) (w d : List ℕ) → i < length ws → with_rights r (rights_behind (take i ws) (drop i ws)) ≡ rights_behind [] ws → w ≡ get_or ws i d → rights_of_word w ≡ Some more → b ≡ list_any (bytes_eq w) (take i ws) → b ≡ false → with_rights (union r more) (rights_behind (take (i + 1) ws) (drop (i + 1) ws)) ≡ rights_behind [] ws
added ws i r more b w d lt so_far at e any absent =
    let one : rights_behind (take i ws) (drop i ws) ≡ with_rights more (rights_behind (take (i + 1) ws) (drop (i + 1) ws)) = one_word ws i d lt ∙ rw (← at) (rw e (rw (sym any ∙ absent) refl)) in
    sym (with_rights_twice r more (rights_behind (take (i + 1) ws) (drop (i + 1) ws))) ∙ sym (ap (with_rights r) one) ∙ so_far

-- The union of rights with no rights is those rights.
union_none : (r : RightSet) → union r no_rights ≡ r
union_none r =
    rw (or-false r.connect, or-false r.enumerate, or-false r.execute, or-false r.get_attributes, or-false r.modify_directory, or-false r.read_bytes, or-false r.traverse, or-false r.update_attributes, or-false r.write_bytes) refl

-- Behind as many words as there are none is left.
none_left : (ws : List (List ℕ)) → drop (length ws) ws ≡ []
none_left [] = refl
none_left (w ∷ ws) = none_left ws

-- Where no word has a fault, the rights of all words are those that were gathered.
pub all_words : (ws : List (List ℕ)) (i : ℕ) (r : RightSet) → 0 < length ws → i ≡ length ws → with_rights r (rights_behind (take i ws) (drop i ws)) ≡ rights_behind [] ws → Ok r ≡ rights_of ws
all_words ws i r k e so_far =
    let none : drop i ws ≡ [] = ap (λ n. drop n ws) e ∙ none_left ws in
    sym (ap Ok (union_none r)) ∙ sym (ap (λ xs. with_rights r (rights_behind (take i ws) xs)) none) ∙ so_far ∙ sym (rights_of_words ws k)

-- ---- which rights are in the union

-- The union of two sets has a right exactly where one of them has it.
union_has : (a b : RightSet) (x : Right) → has (union a b) x ≡ (has a x || has b x)
union_has a b Connect = refl
union_has a b Enumerate = refl
union_has a b Execute = refl
union_has a b GetAttributes = refl
union_has a b ModifyDirectory = refl
union_has a b ReadBytes = refl
union_has a b Traverse = refl
union_has a b UpdateAttributes = refl
union_has a b WriteBytes = refl

-- The set of no rights has no right.
none_has : (x : Right) → has no_rights x ≡ false
none_has Connect = refl
none_has Enumerate = refl
none_has Execute = refl
none_has GetAttributes = refl
none_has ModifyDirectory = refl
none_has ReadBytes = refl
none_has Traverse = refl
none_has UpdateAttributes = refl
none_has WriteBytes = refl

-- one word's rights, and those of the words behind it
both_have : (repeated_at : Bool) (e : RightsFault) (s : RightSet) (others : Result RightSet RightsFault) (r : RightSet) (x : Right) (later : Bool) → ((q : RightSet) → others ≡ Ok q → has q x ≡ later) → (if repeated_at then Err e else with_rights s others) ≡ Ok r → has r x ≡ (has s x || later)
both_have true e s others r x later f h = cc
both_have false e s (Ok q) r x later f h =
    let same : r ≡ union s q = cc h in
    ap (λ t. has t x) same ∙ union_has s q x ∙ ap (λ b. has s x || b) (f q refl)
both_have false e s (Err g) r x later f h = cc

-- Rights read from words have a right exactly where some word has it.
has_behind : (earlier ws : List (List ℕ)) (r : RightSet) (x : Right) → rights_behind earlier ws ≡ Ok r → has r x ≡ list_any (word_has x) ws
has_behind earlier [] r x h =
    let same : r ≡ no_rights = cc h in
    ap (λ t. has t x) same ∙ none_has x
has_behind earlier (w ∷ ws) r x h =
    let others : Result RightSet RightsFault = rights_behind (earlier ++ w ∷ []) ws in
    elim (rights_of_word w) as (λ o. with_word earlier w o others ≡ Ok r → has r x ≡ (option_map_or (λ s. has s x) o false || list_any (word_has x) ws)) [
      | None ↦ λ e. cc
      | Some s ↦ λ e. both_have (list_any (bytes_eq w) earlier) (RepeatedRight (index_of (length earlier))) s others r x (list_any (word_has x) ws) (λ q k. has_behind (earlier ++ w ∷ []) ws q x k) e
    ] h

-- a right is in the union exactly where some word stands for a set that has it
pub union_of_words : (ws : List (List ℕ)) (r : RightSet) → Ok r ≡ rights_of ws → (x : Right) → has r x ≡ list_any (word_has x) ws
unfolding rights_of
union_of_words [] r h x = cc
union_of_words (w ∷ ws) r h x = has_behind [] (w ∷ ws) r x (sym h)
