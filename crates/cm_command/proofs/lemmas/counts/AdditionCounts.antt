-- The words behind the origin of a group.
use Rattle.std.proofs.Common.{◌≡◌, ◌⊎◌, inl, inr, ℕ, ◌≤◌, List, [], codes, true, false, IsTrue, Result, Ok, Err, MatchResult, refl, sym, subst, arith}
use Rattle.cm_names.specs.Prefixes.{HasCompletion}
use Rattle.cm_names.specs.Name.{IsName}
use Rattle.cm_names.specs.Path.{is_subdir}
use Rattle.cm_names.specs.Rights.{RightSet, rights_of, rights_of_word}
use Rattle.cm_decl.specs.declared.kind.Kind.{Kind}
use Rattle.cm_decl.specs.declared.kind.Kind.TheVariants.{Protocol, Directory}
use Rattle.cm_command.specs.declared.addition.Addition.{Addition}
use Rattle.cm_command.specs.declared.addition.Addition.TheVariants.{Target, Rights, Subdir, Weak, Optional, Transitional, SameAsTarget, Group}
use Rattle.cm_command.specs.declared.tokens.WordFault.{WordFault}
use Rattle.cm_command.specs.Additions.{IsTargetWord, IsRightsWord, IsSubdirWord, IsAddition, IsSomeAddition}
use Rattle.cm_command.specs.Counts.{IsWordFault, either_fault}
use Rattle.cm_command.specs.Words.{IsRightsText}
use Rattle.cm_command.proofs.lemmas.counts.Kind.{IsBehind, fault_either, fault_same}
use Rattle.cm_command.proofs.lemmas.counts.NameCounts.{name_begins}
use Rattle.cm_command.proofs.lemmas.counts.RightCounts.{IsSomeRights}

-- ---- the words that have a prefix

-- The word is `as=` and some name.
abbrev pub IsSomeTargetWord : List ℕ → Type 0
IsSomeTargetWord t = (name : List ℕ) × IsTargetWord t name

-- The word is `rights=` and words for some rights.
abbrev pub IsSomeRightsWord : List ℕ → Type 0
IsSomeRightsWord t = (r : RightSet) × IsRightsWord t r

-- The word is `subdir=` and some subdirectory.
abbrev pub IsSomeSubdirWord : List ℕ → Type 0
IsSomeSubdirWord t = (s : List ℕ) × IsSubdirWord t s

-- The words that tell a name at the target are exactly `as=` and a name.
pub target_behind : IsBehind (codes "as=") IsName IsSomeTargetWord
target_behind =
    record { rest = λ t h. (h.0, h.1.0, h.1.1); whole = λ x p. (x, (p, refl)); some = name_begins }

-- The word `connect` is the text of rights.
rights_text : IsRightsText (codes "connect") (record {
  connect = true;
  enumerate = false;
  execute = false;
  get_attributes = false;
  modify_directory = false;
  read_bytes = false;
  traverse = false;
  update_attributes = false;
  write_bytes = false;
})
unfolding rights_of rights_of_word
rights_text = refl

-- The empty text can be completed to words for rights.
pub rights_begin : HasCompletion IsSomeRights []
rights_begin = (codes "connect", (_, rights_text))

-- The words that state rights are exactly `rights=` and words for some rights.
pub rights_behind : IsBehind (codes "rights=") IsSomeRights IsSomeRightsWord
rights_behind =
    record { rest = λ t h. (h.1.0, (h.0, h.1.1), h.1.2); whole = λ x p. (p.0, (x, p.1, refl)); some = rights_begin }

-- The words that state a subdirectory are exactly `subdir=` and a subdirectory.
pub subdir_behind : IsBehind (codes "subdir=") (λ t. IsTrue (is_subdir t)) IsSomeSubdirWord
subdir_behind =
    record { rest = λ t h. (h.0, h.1.0, h.1.1); whole = λ x p. (x, (p, refl)); some = (codes "a", refl) }

-- ---- what may stand there is one thing or what comes later

-- An addition that may come after more of them may come after fewer.
later : (n m : ℕ) (kind : Kind) (t : List ℕ) (a : Addition) → n ≤ m → IsAddition m kind t a → IsAddition n kind t a
later n m kind t (Target name) le h = (omega (arith, h.0), h.1)
later n m kind t (Rights r) le h = (omega (arith, h.0), h.1, h.2)
later n m kind t (Subdir s) le h = (omega (arith, h.0), h.1, h.2)
later n m kind t Weak le h = (omega (arith, h.0), h.1)
later n m kind t Optional le h = (omega (arith, h.0), h.1)
later n m kind t Transitional le h = (omega (arith, h.0), h.1)
later n m kind t SameAsTarget le h = (omega (arith, h.0), h.1)
later n m kind t Group le h = h

-- A word that is some addition after more of them is one after fewer.
some_later : (n m : ℕ) (kind : Kind) (t : List ℕ) → n ≤ m → IsSomeAddition m kind t → IsSomeAddition n kind t
some_later n m kind t le h = (h.0, later n m kind t h.0 le h.1)

-- `same_as_target`, or the word that begins another group
abbrev pub IsSameOrGroup : List ℕ → Type 0
IsSameOrGroup t = (t ≡ codes "same_as_target") ⊎ (t ≡ codes "+")

-- `transitional`, or one of those
abbrev pub IsTransitionalOr : List ℕ → Type 0
IsTransitionalOr t = (t ≡ codes "transitional") ⊎ IsSameOrGroup t

-- An addition after four is `optional`, `transitional`, `same_as_target` or `+`.
parts_4 : (kind : Kind) (t : List ℕ) (a : Addition) → IsAddition 4 kind t a → (t ≡ codes "optional") ⊎ IsTransitionalOr t
parts_4 kind t (Target name) h = absurd (omega (arith, h.0))
parts_4 kind t (Rights r) h = absurd (omega (arith, h.0))
parts_4 kind t (Subdir s) h = absurd (omega (arith, h.0))
parts_4 kind t Weak h = absurd (omega (arith, h.0))
parts_4 kind t Optional h = inl h.1
parts_4 kind t Transitional h = inr (inl h.1)
parts_4 kind t SameAsTarget h = inr (inr (inl h.1))
parts_4 kind t Group h = inr (inr (inr h))

-- The words `same_as_target` and `+` are additions after four.
same_added : (kind : Kind) (t : List ℕ) → IsSameOrGroup t → IsSomeAddition 4 kind t
same_added kind t (inl e) = (SameAsTarget, (omega arith, e))
same_added kind t (inr e) = (Group, e)

-- The words `transitional`, `same_as_target` and `+` are additions after four.
transitional_added : (kind : Kind) (t : List ℕ) → IsTransitionalOr t → IsSomeAddition 4 kind t
transitional_added kind t (inl e) = (Transitional, (omega arith, e))
transitional_added kind t (inr h) = same_added kind t h

-- An addition after three is `weak` or one after four.
parts_3 : (kind : Kind) (t : List ℕ) (a : Addition) → IsAddition 3 kind t a → (t ≡ codes "weak") ⊎ IsSomeAddition 4 kind t
parts_3 kind t (Target name) h = absurd (omega (arith, h.0))
parts_3 kind t (Rights r) h = absurd (omega (arith, h.0))
parts_3 kind t (Subdir s) h = absurd (omega (arith, h.0))
parts_3 kind t Weak h = inl h.1
parts_3 kind t Optional h = inr (Optional, (omega arith, h.1))
parts_3 kind t Transitional h = inr (Transitional, (omega arith, h.1))
parts_3 kind t SameAsTarget h = inr (SameAsTarget, (omega arith, h.1))
parts_3 kind t Group h = inr (Group, h)

-- An addition after two is a word for a subdirectory or one after three.
parts_2 : (kind : Kind) (t : List ℕ) (a : Addition) → IsAddition 2 kind t a → IsSomeSubdirWord t ⊎ IsSomeAddition 3 kind t
parts_2 kind t (Target name) h = absurd (omega (arith, h.0))
parts_2 kind t (Rights r) h = absurd (omega (arith, h.0))
parts_2 kind t (Subdir s) h = inl (s, h.2)
parts_2 kind t Weak h = inr (Weak, (omega arith, h.1))
parts_2 kind t Optional h = inr (Optional, (omega arith, h.1))
parts_2 kind t Transitional h = inr (Transitional, (omega arith, h.1))
parts_2 kind t SameAsTarget h = inr (SameAsTarget, (omega arith, h.1))
parts_2 kind t Group h = inr (Group, h)

-- An addition after one is a word for rights or one after two.
parts_1 : (kind : Kind) (t : List ℕ) (a : Addition) → IsAddition 1 kind t a → IsSomeRightsWord t ⊎ IsSomeAddition 2 kind t
parts_1 kind t (Target name) h = absurd (omega (arith, h.0))
parts_1 kind t (Rights r) h = inl (r, h.2)
parts_1 kind t (Subdir s) h = inr (Subdir s, (omega arith, h.1, h.2))
parts_1 kind t Weak h = inr (Weak, (omega arith, h.1))
parts_1 kind t Optional h = inr (Optional, (omega arith, h.1))
parts_1 kind t Transitional h = inr (Transitional, (omega arith, h.1))
parts_1 kind t SameAsTarget h = inr (SameAsTarget, (omega arith, h.1))
parts_1 kind t Group h = inr (Group, h)

-- An addition after none is a word for a target or one after one.
parts_0 : (kind : Kind) (t : List ℕ) (a : Addition) → IsAddition 0 kind t a → IsSomeTargetWord t ⊎ IsSomeAddition 1 kind t
parts_0 kind t (Target name) h = inl (name, h.1)
parts_0 kind t (Rights r) h = inr (Rights r, (omega arith, h.1, h.2))
parts_0 kind t (Subdir s) h = inr (Subdir s, (omega arith, h.1, h.2))
parts_0 kind t Weak h = inr (Weak, (omega arith, h.1))
parts_0 kind t Optional h = inr (Optional, (omega arith, h.1))
parts_0 kind t Transitional h = inr (Transitional, (omega arith, h.1))
parts_0 kind t SameAsTarget h = inr (SameAsTarget, (omega arith, h.1))
parts_0 kind t Group h = inr (Group, h)

-- A word that is neither `same_as_target` nor `+` has the longer of the faults by the two.
pub same_fault : (w : List ℕ) (d e f : WordFault) → f ≡ either_fault d e → IsWordFault (λ t. t ≡ codes "same_as_target") w d → IsWordFault (λ t. t ≡ codes "+") w e → IsWordFault IsSameOrGroup w f
same_fault w d e f same g h =
    fault_either {P = λ t. t ≡ codes "same_as_target"} {Q = λ t. t ≡ codes "+"} {R = IsSameOrGroup} w d e f (λ t p. inl p) (λ t q. inr q) (λ t r. r) same g h

-- A word that isn't `transitional` either has the longer of that fault and the one of those two.
pub transitional_fault : (w : List ℕ) (d e f : WordFault) → f ≡ either_fault d e → IsWordFault (λ t. t ≡ codes "transitional") w d → IsWordFault IsSameOrGroup w e → IsWordFault IsTransitionalOr w f
transitional_fault w d e f same g h =
    fault_either {P = λ t. t ≡ codes "transitional"} {Q = IsSameOrGroup} {R = IsTransitionalOr} w d e f (λ t p. inl p) (λ t q. inr q) (λ t r. r) same g h

-- Where 4 additions are past, a word's fault is the longer of that by `optional` and by the others.
pub fault_4 : (kind : Kind) (w : List ℕ) (d e f : WordFault) → f ≡ either_fault d e → IsWordFault (λ t. t ≡ codes "optional") w d → IsWordFault IsTransitionalOr w e → IsWordFault (IsSomeAddition 4 kind) w f
fault_4 kind w d e f same g h =
    fault_either {P = λ t. t ≡ codes "optional"} {Q = IsTransitionalOr} {R = IsSomeAddition 4 kind} w d e f (λ t p. (Optional, (omega arith, p))) (transitional_added kind) (λ t r. parts_4 kind t r.0 r.1) same g h

-- Where 3 additions are past, a word's fault is the longer of that by `weak` and by those after 4.
pub fault_3 : (kind : Kind) (w : List ℕ) (d e f : WordFault) → f ≡ either_fault d e → IsWordFault (λ t. t ≡ codes "weak") w d → IsWordFault (IsSomeAddition 4 kind) w e → IsWordFault (IsSomeAddition 3 kind) w f
fault_3 kind w d e f same g h =
    fault_either {P = λ t. t ≡ codes "weak"} {Q = IsSomeAddition 4 kind} {R = IsSomeAddition 3 kind} w d e f (λ t p. (Weak, (omega arith, p))) (λ t q. some_later 3 4 kind t (omega arith) q) (λ t r. parts_3 kind t r.0 r.1) same g h

-- Where 2 are past, a directory's word has the longer fault: by `subdir=` or by those after 3.
pub fault_2 : (kind : Kind) (w : List ℕ) (d e f : WordFault) → kind ≡ Directory → f ≡ either_fault d e → IsWordFault IsSomeSubdirWord w d → IsWordFault (IsSomeAddition 3 kind) w e → IsWordFault (IsSomeAddition 2 kind) w f
fault_2 kind w d e f directory same g h =
    fault_either {P = IsSomeSubdirWord} {Q = IsSomeAddition 3 kind} {R = IsSomeAddition 2 kind} w d e f (λ t p. (Subdir p.0, (omega arith, directory, p.1))) (λ t q. some_later 2 3 kind t (omega arith) q) (λ t r. parts_2 kind t r.0 r.1) same g h

-- Where 1 is past, a directory's word has the longer fault: by `rights=` or by those after 2.
pub fault_1 : (kind : Kind) (w : List ℕ) (d e f : WordFault) → kind ≡ Directory → f ≡ either_fault d e → IsWordFault IsSomeRightsWord w d → IsWordFault (IsSomeAddition 2 kind) w e → IsWordFault (IsSomeAddition 1 kind) w f
fault_1 kind w d e f directory same g h =
    fault_either {P = IsSomeRightsWord} {Q = IsSomeAddition 2 kind} {R = IsSomeAddition 1 kind} w d e f (λ t p. (Rights p.0, (omega arith, directory, p.1))) (λ t q. some_later 1 2 kind t (omega arith) q) (λ t r. parts_1 kind t r.0 r.1) same g h

-- Where none is past, a word's fault is the longer of that by `as=` and by those after 1.
pub fault_0 : (kind : Kind) (w : List ℕ) (d e f : WordFault) → f ≡ either_fault d e → IsWordFault IsSomeTargetWord w d → IsWordFault (IsSomeAddition 1 kind) w e → IsWordFault (IsSomeAddition 0 kind) w f
fault_0 kind w d e f same g h =
    fault_either {P = IsSomeTargetWord} {Q = IsSomeAddition 1 kind} {R = IsSomeAddition 0 kind} w d e f (λ t p. (Target p.0, (omega arith, p.1))) (λ t q. some_later 0 1 kind t (omega arith) q) (λ t r. parts_0 kind t r.0 r.1) same g h

-- ---- a protocol has no rights and no subdirectory

-- An addition to a protocol after one, two or three is one after three.
protocol_3 : (n : ℕ) (t : List ℕ) (a : Addition) → 1 ≤ n → n ≤ 3 → IsAddition n Protocol t a → IsAddition 3 Protocol t a
protocol_3 n t (Target name) some few h = absurd (omega (arith, h.0))
protocol_3 n t (Rights r) some few h = absurd (cc h.1)
protocol_3 n t (Subdir s) some few h = absurd (cc h.1)
protocol_3 n t Weak some few h = (omega arith, h.1)
protocol_3 n t Optional some few h = (omega arith, h.1)
protocol_3 n t Transitional some few h = (omega arith, h.1)
protocol_3 n t SameAsTarget some few h = (omega arith, h.1)
protocol_3 n t Group some few h = h

-- For a protocol, a word is read after 1 or 2 additions as it is read after 3.
pub protocol_reads : (n : ℕ) (kind : Kind) (w : List ℕ) (r : Result Addition WordFault) → kind ≡ Protocol → 1 ≤ n → n ≤ 3 → MatchResult r (λ a. IsAddition 3 kind w a) (λ e. IsWordFault (IsSomeAddition 3 kind) w e) → MatchResult r (λ a. IsAddition n kind w a) (λ e. IsWordFault (IsSomeAddition n kind) w e)
protocol_reads n kind w (Ok a) is some few h = later n 3 kind w a few h
protocol_reads n kind w (Err e) is some few h =
    fault_same {P = IsSomeAddition 3 kind} {Q = IsSomeAddition n kind} w e (λ t p. some_later n 3 kind t few p) (λ t q. subst (λ k. IsSomeAddition n k t → IsSomeAddition 3 k t) (sym is) (λ r. (r.0, protocol_3 n t r.0 some few r.1)) q) h

-- ---- nothing but a group

-- An addition after five or more is `+`.
parts_5 : (n : ℕ) (kind : Kind) (t : List ℕ) (a : Addition) → 5 ≤ n → IsAddition n kind t a → t ≡ codes "+"
parts_5 n kind t (Target name) le h = absurd (omega (arith, h.0))
parts_5 n kind t (Rights r) le h = absurd (omega (arith, h.0))
parts_5 n kind t (Subdir s) le h = absurd (omega (arith, h.0))
parts_5 n kind t Weak le h = absurd (omega (arith, h.0))
parts_5 n kind t Optional le h = absurd (omega (arith, h.0))
parts_5 n kind t Transitional le h = absurd (omega (arith, h.0))
parts_5 n kind t SameAsTarget le h = absurd (omega (arith, h.0))
parts_5 n kind t Group le h = h

-- After 5 additions or more, a word that isn't `+` is no addition, with the same fault.
pub fault_5 : (n : ℕ) (kind : Kind) (w : List ℕ) (e : WordFault) → 5 ≤ n → IsWordFault (λ t. t ≡ codes "+") w e → IsWordFault (IsSomeAddition n kind) w e
fault_5 n kind w e le h =
    fault_same {P = λ t. t ≡ codes "+"} {Q = IsSomeAddition n kind} w e (λ t p. (Group, p)) (λ t q. parts_5 n kind t q.0 le q.1) h
