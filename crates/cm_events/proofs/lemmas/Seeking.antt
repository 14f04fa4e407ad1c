-- Which works are wanted of earlier entries, and how they are found there.
use Rattle.std.proofs.Common.{◌≡◌, ◌⊎◌, inl, inr, ℕ, ◌+◌, ◌-◌, ◌<◌, ◌==◌, List, [], ◌∷◌, ◌++◌, Bool, true, false, cond, nat_eq, Option, Some, None, find, take, drop, length, get_or, option_to_list, refl, sym, ◌∙◌, ap, subst}
use Rattle.std.specs.List.{list_any}
use Rattle.std.specs.Option.{option_or}
use Rattle.std.specs.HashMap.{HashMap}
use Rattle.std.specs.HashSet.{HashSet, contains}
use Rattle.std.proofs.lemmas.Bool.{eqb-true, true≢false}
use Rattle.std.proofs.lemmas.Option.{none-some, same_Some}
use Rattle.std.proofs.lemmas.List.{drop_more, nil_from_length, take-append-drop}
use Rattle.cm_world.specs.declared.action.Work.{Work}
use Rattle.cm_world.specs.declared.reply.Entry.{Entry}
use Rattle.cm_events.specs.Stream.{begun_by, work_of}
use Rattle.cm_events.specs.Works.{work_at, begun_as}
use Rattle.cm_events.specs.Wanted.{BeginsOnce, HasFound, TakesWork}
use Rattle.cm_events.proofs.lemmas.Keeping.{work_of_more}
use denote.Ref.{Bor}
use Rattle.cm_facts.proofs.Options.{option_or_none}

-- ---- what an entry begins

-- a work that is found where one is looked at is that one
one_found : (v w : Work) (a : ℕ) (t : Bool) → (v.action == a) ≡ t → cond t (Some v) None ≡ Some w → (v ≡ w) × (v.action ≡ a)
one_found v w a true at it = (same_Some v w it, eqb-true v.action a at)
one_found v w a false at it = absurd (none-some w it)

-- A work that is found where one was begun is that one, and has that action.
begun_is : (o : Option Work) (a : ℕ) (w : Work) → find (λ x. x.action == a) (option_to_list o) ≡ Some w → (o ≡ Some w) × (w.action ≡ a)
begun_is None a w it = absurd (none-some w it)
begun_is (Some v) a w it =
    let both = one_found v w a (v.action == a) refl it in
    (ap Some both.0, ap (λ (x : Work). x.action) (sym both.0) ∙ both.1)

-- an action that an entry begins wasn't begun before
pub once_at : (es : List Entry) (i : ℕ) (e : Entry) (a : ℕ) (w : Work) → BeginsOnce es → i < length es → e ≡ get_or es i e → begun_as e.reply a ≡ Some w → work_of (take i es) a ≡ None
once_at es i e a w once below at it =
    let both = begun_is (begun_by e.reply) a w it in
    let whole : es ≡ take i es ++ e ∷ drop (i + 1) es =
    sym (take-append-drop i es) ∙ ap (λ l. take i es ++ l) (drop_more es i e below) ∙ ap (λ x. take i es ++ x ∷ drop (i + 1) es) (sym at) in
    subst (λ b. work_of (take i es) b ≡ None) both.1 (once (take i es) (drop (i + 1) es) e w whole both.0)

-- ---- looking back

-- an action that is still looked for has no work yet, and its work is where nobody has looked; any other has
-- its work, or was never wanted
abbrev pub Stands : Bool → Option Work → Option Work → Option Work → Bool → Type 0
Stands true found here whole wanted = (found ≡ None) × (here ≡ whole)
Stands false found here whole wanted = HasFound found whole wanted

-- Where no work was found yet, it stands: it is still looked for, or isn't wanted.
stands_first : (wanted : Bool) (found whole : Option Work) → found ≡ None → Stands wanted found whole whole wanted
stands_first true found whole none = (none, refl)
stands_first false found whole none = inr (none, refl)

-- With one entry more before those that were looked at, what is sought and what is found still stand.
stands_on : (begun : Option Work) (sought : Bool) (found whole here : Option Work) (wanted still : Bool) (now : Option Work) → ((w : Work) → begun ≡ Some w → here ≡ None) → Stands sought found (option_or here begun) whole wanted → TakesWork begun sought found still now → Stands still now here whole wanted
stands_on None sought found whole here wanted still now once stands takes =
    subst (λ s. Stands s now here whole wanted) (sym takes.0) (subst (λ f. Stands sought f here whole wanted) (sym takes.1) (subst (λ h. Stands sought found h whole wanted) (option_or_none here) stands))
stands_on (Some w) true found whole here wanted still now once stands takes =
    let first : option_or here (Some w) ≡ Some w = ap (λ h. option_or h (Some w)) (once w refl) in
    subst (λ s. Stands s now here whole wanted) (sym takes.0) (inl (takes.1 ∙ sym first ∙ stands.1))
stands_on (Some w) false found whole here wanted still now once stands takes =
    subst (λ s. Stands s now here whole wanted) (sym takes.0) (subst (λ f. HasFound f whole wanted) (sym takes.1) stands)

-- where none is looked for any more, or at the start
stands_over : (sought : Bool) (found here whole : Option Work) (wanted : Bool) → Stands sought found here whole wanted → (here ≡ None) ⊎ (sought ≡ false) → HasFound found whole wanted
stands_over true found here whole wanted stands (inl prefix) = inl (stands.0 ∙ sym prefix ∙ stands.1)
stands_over true found here whole wanted stands (inr none) = absurd (true≢false none)
stands_over false found here whole wanted stands over = stands

-- ---- the same of the sets and maps that the code keeps

-- each action stands so, where the entries from back to start have been looked at
abbrev pub StandAll : {S T : Type 0} → List Entry → ℕ → ℕ → HashSet ℕ S → HashMap ℕ (Bor Work) T → HashSet ℕ S → Type 0
StandAll es start back left works wanted =
    (a : ℕ) → Stands (contains nat_eq left a) (work_at works a) (work_of (take back es) a) (work_of (take start es) a) (contains nat_eq wanted a)

-- Before any earlier entry is looked at, no work is found, and all that is wanted is looked for.
pub all_first : {S T : Type 0} (es : List Entry) (start : ℕ) (wanted : HashSet ℕ S) (works : HashMap ℕ (Bor Work) T) → works.entries ≡ [] → StandAll es start start wanted works wanted
all_first es start wanted works none a = stands_first (contains nat_eq wanted a) (work_at works a) (work_of (take start es) a) (search none)

-- One entry further back, each wanted action has its work found, or it is looked for before there.
pub all_on : {S T : Type 0} (es : List Entry) (start back b : ℕ) (e : Entry) (left still wanted : HashSet ℕ S) (works now : HashMap ℕ (Bor Work) T) → BeginsOnce es → back ≡ b + 1 → b < length es → e ≡ get_or es b e → StandAll es start back left works wanted → ((a : ℕ) → TakesWork (begun_as e.reply a) (contains nat_eq left a) (work_at works a) (contains nat_eq still a) (work_at now a)) → StandAll es start b still now wanted
all_on es start back b e left still wanted works now once next below at stand takes a =
    stands_on (begun_as e.reply a) (contains nat_eq left a) (work_at works a) (work_of (take start es) a) (work_of (take b es) a) (contains nat_eq wanted a) (contains nat_eq still a) (work_at now a)
    (λ w it. once_at es b e a w once below at it)
    (subst (λ h. Stands (contains nat_eq left a) (work_at works a) h (work_of (take start es) a) (contains nat_eq wanted a)) (ap (λ n. work_of (take n es) a) next ∙ sym (work_of_more es b e a below at)) (stand a))
    (takes a)

-- Once the first entry is looked at, each wanted work is found where there is one.
pub all_prefix : {S T : Type 0} (es : List Entry) (start back : ℕ) (left wanted : HashSet ℕ S) (works : HashMap ℕ (Bor Work) T) → back ≡ 0 → StandAll es start back left works wanted → (a : ℕ) → HasFound (work_at works a) (work_of (take start es) a) (contains nat_eq wanted a)
all_prefix es start back left wanted works prefix stand a =
    stands_over (contains nat_eq left a) (work_at works a) (work_of (take back es) a) (work_of (take start es) a) (contains nat_eq wanted a) (stand a) (inl (ap (λ n. work_of (take n es) a) prefix))

-- A set that is empty has no action.
none_left : {S : Type 0} (set : HashSet ℕ S) (a : ℕ) → length set.keys ≡ 0 → contains nat_eq set a ≡ false
none_left set a none = ap (λ ks. list_any (nat_eq a) ks) (nil_from_length set.keys none)

-- Once no work is looked for any more, each wanted work is found where there is one.
pub all_found : {S T : Type 0} (es : List Entry) (start back : ℕ) (left wanted : HashSet ℕ S) (works : HashMap ℕ (Bor Work) T) → length left.keys ≡ 0 → StandAll es start back left works wanted → (a : ℕ) → HasFound (work_at works a) (work_of (take start es) a) (contains nat_eq wanted a)
all_found es start back left wanted works none stand a =
    stands_over (contains nat_eq left a) (work_at works a) (work_of (take back es) a) (work_of (take start es) a) (contains nat_eq wanted a) (stand a) (inr (none_left left a none))
