-- A word that may not stand at its place is a word that leads nowhere from there.
use Rattle.std.proofs.Common.{◌≡◌, ◌⊎◌, inl, inr, ⊎_elim, ℕ, ◌+◌, ◌<◌, ◌≤◌, get_or, List, max, Some, codes, IsTrue, refl, sym, ap, subst, ◌∙◌, arith}
use Rattle.std.proofs.lemmas.List.{get_or_default}
use Rattle.cm_names.specs.declared.availability.Availability.TheVariants as availability
use Rattle.cm_names.specs.declared.dependency.Dependency.TheVariants as dependency
use Rattle.cm_names.specs.Name.{IsName}
use Rattle.cm_names.specs.Path.{is_path}
use Rattle.cm_names.specs.Rights.{RightSet}
use Rattle.cm_decl.specs.declared.kind.Kind.{Kind}
use Rattle.cm_decl.specs.declared.kind.Kind.TheVariants as kind
use Rattle.cm_decl.specs.declared.origin.Origin.{Origin}
use Rattle.cm_decl.specs.declared.rows.Give.{Give}
use Rattle.cm_decl.specs.Words.{kind_word}
use Rattle.cm_world.specs.declared.event.Target.{Target}
use Rattle.cm_command.specs.declared.addition.Addition.{Addition}
use Rattle.cm_command.specs.declared.addition.Addition.TheVariants as addition
use Rattle.cm_command.specs.declared.command.Command.TheVariants as command
use Rattle.cm_command.specs.declared.place.Verb.{Verb}
use Rattle.cm_command.specs.declared.place.Verb.TheVariants as verb
use Rattle.cm_command.specs.declared.place.Creation.{Creation}
use Rattle.cm_command.specs.declared.place.LineState.TheVariants as place
use Rattle.cm_command.specs.declared.tokens.WordFault.{WordFault}
use Rattle.cm_command.specs.declared.tokens.WordFault.TheVariants.{Bad, Memory}
use Rattle.cm_command.specs.NumbersInside.{IsU64Text}
use Rattle.cm_command.specs.Words.{IsUrlText, IsTargetText, IsOriginText, IsRightsText}
use Rattle.cm_command.specs.Grammar.{LineBytes, AddsWord}
use Rattle.cm_command.specs.Additions.{IsAddition, IsSomeAddition}
use Rattle.cm_command.specs.Counts.{CountsPrefixes, IsSureFault, IsWordFault}
use Rattle.cm_command.specs.Pieces.{Wants}
use Rattle.cm_command.specs.Places.{IsVerbWord, IsKindWord, verb_word, verbs, asks, behind_target, behind_builtin, directory_of, provides, create, give, with_give, WordLeads}
use Rattle.cm_command.proofs.lemmas.counts.Kind.{fault_same, counts_none, counts_same, counts_either}

-- The text is a path.
abbrev IsPath : LineBytes → Type 0
IsPath t = IsTrue (is_path t)

-- A word that begins no command leads nowhere from the first place of a line, with the same fault.
pub verb_fault : (w : LineBytes) (e : WordFault) → IsWordFault IsVerbWord w e → IsWordFault (Wants WordLeads place.Start) w e
verb_fault w e = fault_same {P = IsVerbWord} {Q = Wants WordLeads place.Start} w e (λ t v. (place.Verb v.0, (v.0, v.1, refl))) (λ t s. (s.1.0, s.1.1))

-- A word that names no instance leads nowhere from behind the word that begins a command.
pub target_fault : (v : Verb) (w : LineBytes) (e : WordFault) → IsWordFault (λ t. (a : Target) × IsTargetText t a) w e → IsWordFault (Wants WordLeads (place.Verb v)) w e
target_fault v w e =
    fault_same {P = λ t. (a : Target) × IsTargetText t a} {Q = Wants WordLeads (place.Verb v)} w e (λ t a. (behind_target v a.0, (a.0, a.1, refl))) (λ t s. (s.1.0, s.1.1))

-- A word that is no name leads nowhere where `list` wants a collection.
pub listing_fault : (a : Target) (w : LineBytes) (e : WordFault) → IsWordFault IsName w e → IsWordFault (Wants WordLeads (place.Listing a)) w e
listing_fault a w e =
    fault_same {P = IsName} {Q = Wants WordLeads (place.Listing a)} w e (λ t is. (asks (command.ListChildren a t), (is, refl))) (λ t s. s.1.0)

-- A word that is no path leads nowhere where `open` wants one.
pub opening_fault : (a : Target) (w : LineBytes) (e : WordFault) → IsWordFault (λ t. IsTrue (is_path t)) w e → IsWordFault (Wants WordLeads (place.Opening a)) w e
opening_fault a w e =
    fault_same {P = IsPath} {Q = Wants WordLeads (place.Opening a)} w e (λ t is. (asks (command.OpenUse a t), (is, refl))) (λ t s. s.1.0)

-- A word that is no name leads nowhere where `open-exposed` wants one.
pub opening_exposed_fault : (a : Target) (w : LineBytes) (e : WordFault) → IsWordFault IsName w e → IsWordFault (Wants WordLeads (place.OpeningExposed a)) w e
opening_exposed_fault a w e =
    fault_same {P = IsName} {Q = Wants WordLeads (place.OpeningExposed a)} w e (λ t is. (asks (command.OpenExposed a t), (is, refl))) (λ t s. s.1.0)

-- A word that is no path leads nowhere where `route` wants one.
pub routing_fault : (a : Target) (w : LineBytes) (e : WordFault) → IsWordFault (λ t. IsTrue (is_path t)) w e → IsWordFault (Wants WordLeads (place.Routing a)) w e
routing_fault a w e =
    fault_same {P = IsPath} {Q = Wants WordLeads (place.Routing a)} w e (λ t is. (asks (command.RouteOf a t), (is, refl))) (λ t s. s.1.0)

-- A word that is no number of 64 bits leads nowhere where `events` wants one.
pub streaming_fault : (a : Target) (w : LineBytes) (e : WordFault) → IsSureFault IsU64Text w e → IsWordFault (Wants WordLeads (place.Streaming a)) w e
streaming_fault a w (Bad n) h =
    fault_same {P = IsU64Text} {Q = Wants WordLeads (place.Streaming a)} w (Bad n) (λ t is. (asks (command.Events a is.0), (is.0, is.1, is.2, refl))) (λ t s. (s.1.0, s.1.1, s.1.2)) h
streaming_fault a w Memory h = tt

-- A word that is no name leads nowhere where `create` wants a collection.
pub collection_fault : (a : Target) (w : LineBytes) (e : WordFault) → IsWordFault IsName w e → IsWordFault (Wants WordLeads (place.Creating a)) w e
collection_fault a w e =
    fault_same {P = IsName} {Q = Wants WordLeads (place.Creating a)} w e (λ t is. (place.CreatingIn a t, (is, refl))) (λ t s. s.1.0)

-- A word that is no name leads nowhere where `create` wants that of the child.
pub child_fault : (a : Target) (coll w : LineBytes) (e : WordFault) → IsWordFault IsName w e → IsWordFault (Wants WordLeads (place.CreatingIn a coll)) w e
child_fault a coll w e =
    fault_same {P = IsName} {Q = Wants WordLeads (place.CreatingIn a coll)} w e (λ t is. (place.CreatingNamed a coll t, (is, refl))) (λ t s. s.1.0)

-- A word that is no URL leads nowhere where `create` wants one.
pub url_fault : (a : Target) (coll name w : LineBytes) (e : WordFault) → IsWordFault IsUrlText w e → IsWordFault (Wants WordLeads (place.CreatingNamed a coll name)) w e
url_fault a coll name w e =
    fault_same {P = IsUrlText} {Q = Wants WordLeads (place.CreatingNamed a coll name)} w e (λ t is. (create a coll name t, (is, refl))) (λ t s. s.1.0)

-- A word other than `+` leads nowhere where a `create` may go on with groups.
pub group_fault : (c : Creation) (w : LineBytes) (n : ℕ) → (w ≡ codes "+" → ⊥) → CountsPrefixes (λ t. t ≡ codes "+") w n → IsWordFault (Wants WordLeads (place.Groups c)) w (Bad n)
group_fault c w n never h =
    fault_same {P = λ t. t ≡ codes "+"} {Q = Wants WordLeads (place.Groups c)} w (Bad n) (λ t is. (place.GroupKind c, (is, refl))) (λ t s. s.1.0) (never, h)

-- A word for no kind leads nowhere where a group wants its kind.
pub group_kind_fault : (c : Creation) (w : LineBytes) (e : WordFault) → IsWordFault IsKindWord w e → IsWordFault (Wants WordLeads (place.GroupKind c)) w e
group_kind_fault c w e =
    fault_same {P = IsKindWord} {Q = Wants WordLeads (place.GroupKind c)} w e (λ t k. (place.GroupName c k.0, (k.0, k.1, refl))) (λ t s. (s.1.0, s.1.1))

-- A word that is no name leads nowhere where a group wants one.
pub group_name_fault : (c : Creation) (k : Kind) (w : LineBytes) (e : WordFault) → IsWordFault IsName w e → IsWordFault (Wants WordLeads (place.GroupName c k)) w e
group_name_fault c k w e =
    fault_same {P = IsName} {Q = Wants WordLeads (place.GroupName c k)} w e (λ t is. (place.GroupFrom c k t, (is, refl))) (λ t s. s.1.0)

-- A word that names no source leads nowhere where a group wants its origin.
pub from_fault : (c : Creation) (k : Kind) (name w : LineBytes) (e : WordFault) → IsWordFault (λ t. (o : Origin) × IsOriginText t o) w e → IsWordFault (Wants WordLeads (place.GroupFrom c k name)) w e
from_fault c k name w e =
    fault_same {P = λ t. (o : Origin) × IsOriginText t o} {Q = Wants WordLeads (place.GroupFrom c k name)} w e (λ t o. (give c k name o.0, (o.0, o.1, refl))) (λ t s. (s.1.0, s.1.1))

-- an addition leads on
pub target_adds : (c : Creation) (g : Give) (n : ℕ) (t name : LineBytes) → IsAddition n g.kind t (addition.Target name) → WordLeads (place.Additions c g n) t (place.Additions c (record g { target_name = name }) 1)
target_adds c g n t name h =
    inr (0, record g { target_name = name }, h.0, subst (λ x. AddsWord 0 x g (record g { target_name = name })) (sym h.1.1) (AddsWord.target h.1.0), refl)

-- A word for rights leads on in a group, which then gives these rights.
pub rights_add : (c : Creation) (g : Give) (n : ℕ) (t : LineBytes) (r : RightSet) → IsAddition n g.kind t (addition.Rights r) → WordLeads (place.Additions c g n) t (place.Additions c (record g { rights = Some r }) 2)
rights_add c g n t r h =
    inr (1, record g { rights = Some r }, h.0, subst (λ x. AddsWord 1 x g (record g { rights = Some r })) (sym h.2.2) (AddsWord.rights h.1 h.2.1), refl)

-- A word for a subdirectory leads on in a group, which then gives that subdirectory.
pub subdir_adds : (c : Creation) (g : Give) (n : ℕ) (t s : LineBytes) → IsAddition n g.kind t (addition.Subdir s) → WordLeads (place.Additions c g n) t (place.Additions c (record g { subdir = Some s }) 3)
subdir_adds c g n t s h =
    inr (2, record g { subdir = Some s }, h.0, subst (λ x. AddsWord 2 x g (record g { subdir = Some s })) (sym h.2.1) (AddsWord.subdir h.1 h.2.0), refl)

-- The word `weak` leads on in a group, whose dependency is weak then.
pub weak_adds : (c : Creation) (g : Give) (n : ℕ) (t : LineBytes) → IsAddition n g.kind t addition.Weak → WordLeads (place.Additions c g n) t (place.Additions c (record g { dependency = dependency.Weak }) 4)
weak_adds c g n t h =
    inr (3, record g { dependency = dependency.Weak }, h.0, subst (λ x. AddsWord 3 x g (record g { dependency = dependency.Weak })) (sym h.1) AddsWord.weak, refl)

-- The word `optional` leads on in a group, whose availability is optional then.
pub optional_adds : (c : Creation) (g : Give) (n : ℕ) (t : LineBytes) → IsAddition n g.kind t addition.Optional → WordLeads (place.Additions c g n) t (place.Additions c (record g { availability = availability.Optional }) 5)
optional_adds c g n t h =
    inr (4, record g { availability = availability.Optional }, h.0, subst (λ x. AddsWord 4 x g (record g { availability = availability.Optional })) (sym h.1) AddsWord.optional, refl)

-- The word `transitional` leads on in a group, whose availability is transitional then.
pub transitional_adds : (c : Creation) (g : Give) (n : ℕ) (t : LineBytes) → IsAddition n g.kind t addition.Transitional → WordLeads (place.Additions c g n) t (place.Additions c (record g { availability = availability.Transitional }) 5)
transitional_adds c g n t h =
    inr (4, record g { availability = availability.Transitional }, h.0, subst (λ x. AddsWord 4 x g (record g { availability = availability.Transitional })) (sym h.1) AddsWord.transitional, refl)

-- The word `same_as_target` leads on in a group, whose availability is that of the target then.
pub same_adds : (c : Creation) (g : Give) (n : ℕ) (t : LineBytes) → IsAddition n g.kind t addition.SameAsTarget → WordLeads (place.Additions c g n) t (place.Additions c (record g { availability = availability.SameAsTarget }) 5)
same_adds c g n t h =
    inr (4, record g { availability = availability.SameAsTarget }, h.0, subst (λ x. AddsWord 4 x g (record g { availability = availability.SameAsTarget })) (sym h.1) AddsWord.same_as_target, refl)

-- A word that is an addition that may still come leads on from among the additions.
adds : (c : Creation) (g : Give) (n : ℕ) (t : LineBytes) (a : Addition) → IsAddition n g.kind t a → Wants WordLeads (place.Additions c g n) t
adds c g n t (addition.Target name) h = (place.Additions c (record g { target_name = name }) 1, target_adds c g n t name h)
adds c g n t (addition.Rights r) h = (place.Additions c (record g { rights = Some r }) 2, rights_add c g n t r h)
adds c g n t (addition.Subdir s) h = (place.Additions c (record g { subdir = Some s }) 3, subdir_adds c g n t s h)
adds c g n t addition.Weak h = (place.Additions c (record g { dependency = dependency.Weak }) 4, weak_adds c g n t h)
adds c g n t addition.Optional h =
    (place.Additions c (record g { availability = availability.Optional }) 5, optional_adds c g n t h)
adds c g n t addition.Transitional h =
    (place.Additions c (record g { availability = availability.Transitional }) 5, transitional_adds c g n t h)
adds c g n t addition.SameAsTarget h =
    (place.Additions c (record g { availability = availability.SameAsTarget }) 5, same_adds c g n t h)
adds c g n t addition.Group h = (place.GroupKind (with_give c g), inl (h, refl))

-- The word of an addition whose turn hasn't passed is an addition that may still come.
is_added : {m : ℕ} {t : LineBytes} {g h : Give} → AddsWord m t g h → (n : ℕ) → n ≤ m → IsSomeAddition n g.kind t
is_added (AddsWord.target {name = name} is) n le = (addition.Target name, (le, (is, refl)))
is_added (AddsWord.rights {w = w} {r = r} dir is) n le = (addition.Rights r, (le, dir, (w, is, refl)))
is_added (AddsWord.subdir {w = w} dir is) n le = (addition.Subdir w, (le, dir, (is, refl)))
is_added AddsWord.weak n le = (addition.Weak, (le, refl))
is_added AddsWord.optional n le = (addition.Optional, (le, refl))
is_added AddsWord.transitional n le = (addition.Transitional, (le, refl))
is_added AddsWord.same_as_target n le = (addition.SameAsTarget, (le, refl))

-- A word that leads on from among the additions is an addition that may still come.
wants_addition : (c : Creation) (g : Give) (n : ℕ) (t : LineBytes) → Wants WordLeads (place.Additions c g n) t → IsSomeAddition n g.kind t
wants_addition c g n t (p, inl h) = (addition.Group, h.0)
wants_addition c g n t (p, inr h) = is_added h.3 n h.2

-- A word that is no addition which may still come leads nowhere among a group's additions.
pub addition_fault : (c : Creation) (g : Give) (n : ℕ) (w : LineBytes) (e : WordFault) → IsWordFault (IsSomeAddition n g.kind) w e → IsWordFault (Wants WordLeads (place.Additions c g n)) w e
addition_fault c g n w e =
    fault_same {P = IsSomeAddition n g.kind} {Q = Wants WordLeads (place.Additions c g n)} w e (λ t a. adds c g n t a.0 a.1) (wants_addition c g n)

-- A word for no kind leads nowhere where a builtin wants its kind.
pub builtin_kind_fault : (w : LineBytes) (e : WordFault) → IsWordFault IsKindWord w e → IsWordFault (Wants WordLeads place.BuiltinKind) w e
builtin_kind_fault w e =
    fault_same {P = IsKindWord} {Q = Wants WordLeads place.BuiltinKind} w e (λ t k. (place.BuiltinName k.0, (k.0, k.1, refl))) (λ t s. (s.1.0, s.1.1))

-- A word that is no name leads nowhere where a builtin wants its name.
pub builtin_name_fault : (k : Kind) (w : LineBytes) (e : WordFault) → IsWordFault IsName w e → IsWordFault (Wants WordLeads (place.BuiltinName k)) w e
builtin_name_fault k w e =
    fault_same {P = IsName} {Q = Wants WordLeads (place.BuiltinName k)} w e (λ t is. (behind_builtin k t, (is, refl))) (λ t s. s.1.0)

-- A word that is no path leads nowhere where a builtin directory wants its path.
pub builtin_path_fault : (name w : LineBytes) (e : WordFault) → IsWordFault (λ t. IsTrue (is_path t)) w e → IsWordFault (Wants WordLeads (place.BuiltinPath name)) w e
builtin_path_fault name w e =
    fault_same {P = IsPath} {Q = Wants WordLeads (place.BuiltinPath name)} w e (λ t is. (place.BuiltinRights name t, (is, refl))) (λ t s. s.1.0)

-- A word that names no rights leads nowhere where a builtin directory wants its rights.
pub builtin_rights_fault : (name path w : LineBytes) (e : WordFault) → IsWordFault (λ t. (r : RightSet) × IsRightsText t r) w e → IsWordFault (Wants WordLeads (place.BuiltinRights name path)) w e
builtin_rights_fault name path w e =
    fault_same {P = λ t. (r : RightSet) × IsRightsText t r} {Q = Wants WordLeads (place.BuiltinRights name path)} w e (λ t r. (provides (directory_of name path r.0), (r.0, r.1, refl))) (λ t s. (s.1.0, s.1.1))

-- ---- verbs and kinds

-- the verb at a place of the list
verb_at : (v : Verb) → (k : ℕ) × (k < 15) × (v ≡ get_or verbs k verb.Start)
verb_at verb.Resolve = (0, omega arith, refl)
verb_at verb.Start = (1, omega arith, refl)
verb_at verb.Stop = (2, omega arith, refl)
verb_at verb.Shutdown = (3, omega arith, refl)
verb_at verb.Create = (4, omega arith, refl)
verb_at verb.Destroy = (5, omega arith, refl)
verb_at verb.List = (6, omega arith, refl)
verb_at verb.Open = (7, omega arith, refl)
verb_at verb.OpenExposed = (8, omega arith, refl)
verb_at verb.Route = (9, omega arith, refl)
verb_at verb.Doctor = (10, omega arith, refl)
verb_at verb.Show = (11, omega arith, refl)
verb_at verb.Survey = (12, omega arith, refl)
verb_at verb.Exited = (13, omega arith, refl)
verb_at verb.Events = (14, omega arith, refl)

-- the word of one of the first n verbs
abbrev pub IsFirstVerb : ℕ → LineBytes → Type 0
IsFirstVerb n t = (k : ℕ) × (k < n) × (t ≡ verb_word (get_or verbs k verb.Start))

-- By the first 0 verbs no prefix of a word can be completed.
pub no_verb : (w : LineBytes) → CountsPrefixes (IsFirstVerb 0) w 0
no_verb w = counts_none w (λ t h. absurd (omega (arith, h.1)))

-- A word is none of the first 0 verbs.
pub none_first : (w : LineBytes) → IsFirstVerb 0 w → ⊥
none_first w h = absurd (omega (arith, h.1))

-- an element of the loop's list is that verb
verb_there : (xs : List Verb) (i : ℕ) (d : Verb) → xs ≡ verbs → i < 15 → get_or xs i d ≡ get_or verbs i verb.Start
verb_there xs i d e lt = ap (λ ys. get_or ys i d) e ∙ get_or_default verbs i d verb.Start lt

-- A number below the next of another is below it or is that other.
below_or_last : (k n : ℕ) → k < n + 1 → (k < n) ⊎ (k ≡ n)
below_or_last k n h = grind arith

-- A word of the first verbs with one more of them is a word of those before, or that verb's.
first_more : (t : LineBytes) (i : ℕ) → IsFirstVerb (i + 1) t → IsFirstVerb i t ⊎ (t ≡ verb_word (get_or verbs i verb.Start))
first_more t i h =
    ⊎_elim (λ lt. inl (h.0, lt, h.2)) (λ last. inr (h.2 ∙ ap (λ j. verb_word (get_or verbs j verb.Start)) last)) (below_or_last h.0 i h.1)

-- A word that is none of the first verbs, and isn't the next, is none of these with the next.
pub none_more : (w l : LineBytes) (i : ℕ) (xs : List Verb) (d : Verb) → xs ≡ verbs → i < 15 → l ≡ verb_word (get_or xs i d) → (IsFirstVerb i w → ⊥) → (w ≡ l → ⊥) → IsFirstVerb (i + 1) w → ⊥
none_more w l i xs d e lt is none other h =
    ⊎_elim none (λ same. other (same ∙ sym (ap verb_word (verb_there xs i d e lt)) ∙ sym is)) (first_more w i h)

-- A word that is none of all 15 verbs begins no command.
pub none_of_all : (w : LineBytes) (i : ℕ) → 15 ≤ i → (IsFirstVerb i w → ⊥) → IsVerbWord w → ⊥
none_of_all w i le none h =
    let at = verb_at h.0 in
    none (at.0, omega (arith, at.1), h.1 ∙ ap verb_word at.2)

-- With one verb more, the count of prefixes is the greater of that so far and that verb's.
pub verb_more : (w l : LineBytes) (i m n k : ℕ) (xs : List Verb) (d : Verb) → xs ≡ verbs → i < 15 → l ≡ verb_word (get_or xs i d) → k ≡ max m n → CountsPrefixes (IsFirstVerb i) w m → CountsPrefixes (λ t. t ≡ l) w n → CountsPrefixes (IsFirstVerb (i + 1)) w k
verb_more w l i m n k xs d there lt is e h g =
    let same : l ≡ verb_word (get_or verbs i verb.Start) = is ∙ ap verb_word (verb_there xs i d there lt) in
    counts_either {P = IsFirstVerb i} {Q = λ t. t ≡ l} {R = IsFirstVerb (i + 1)} w m n k (λ t x. (x.0, omega (arith, x.1), x.2)) (λ t x. (i, omega arith, x ∙ same)) (λ t x. ⊎_elim (λ first. inl first) (λ last. inr (last ∙ sym same)) (first_more t i x)) e h g

-- Once all 15 verbs are passed, the count of prefixes is that of words which begin a command.
pub all_verbs : (w : LineBytes) (i n : ℕ) → 15 ≤ i → i ≤ 15 → CountsPrefixes (IsFirstVerb i) w n → CountsPrefixes IsVerbWord w n
all_verbs w i n le ge h =
    let e : i ≡ 15 = omega arith in
    counts_same {P = IsFirstVerb 15} {Q = IsVerbWord} w n (λ t x. (get_or verbs x.0 verb.Start, x.2)) (λ t x. let at = verb_at x.0 in (at.0, at.1, x.1 ∙ ap verb_word at.2)) (subst (λ j. CountsPrefixes (IsFirstVerb j) w n) e h)

-- The count of prefixes for kinds is the greater of those for `protocol` and for `directory`.
pub kind_counts : (w : LineBytes) (m n k : ℕ) → k ≡ max m n → CountsPrefixes (λ t. t ≡ codes "protocol") w m → CountsPrefixes (λ t. t ≡ codes "directory") w n → CountsPrefixes IsKindWord w k
kind_counts w m n k e h g =
    counts_either {P = λ t. t ≡ codes "protocol"} {Q = λ t. t ≡ codes "directory"} {R = IsKindWord} w m n k (λ t x. (kind.Protocol, x)) (λ t x. (kind.Directory, x)) parts e h g
  where
    kinds : (t : LineBytes) (k : Kind) → t ≡ kind_word k → (t ≡ codes "protocol") ⊎ (t ≡ codes "directory")
    kinds t kind.Protocol e = inl e
    kinds t kind.Directory e = inr e

    parts : (t : LineBytes) → IsKindWord t → (t ≡ codes "protocol") ⊎ (t ≡ codes "directory")
    parts t x = kinds t x.0 x.1

-- A word that is neither `protocol` nor `directory` is the word for no kind.
pub no_kind : (w : LineBytes) → (w ≡ codes "protocol" → ⊥) → (w ≡ codes "directory" → ⊥) → IsKindWord w → ⊥
no_kind w p d (kind.Protocol, e) = p e
no_kind w p d (kind.Directory, e) = d e
