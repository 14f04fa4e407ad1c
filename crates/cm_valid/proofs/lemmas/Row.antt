use Rattle.std.proofs.Common.{◌≡◌, ℕ, zero, suc, ◌+◌, ◌<◌, List, [], ◌∷◌, length, take, drop, get_or, Bool, true, false, ◌||◌, cond, true≢false, Option, Some, None, refl, sym, ◌∙◌, ap, subst, bytes_eq}
use Rattle.std.specs.Prelude.{slice_get, position, option_map, option_and_then, is_some, find}
use Rattle.std.specs.List.{list_any, position_from}
use Rattle.std.proofs.lemmas.Iterator.Adapters.{position_from-zero}
use Rattle.std.specs.Option.{option_map_or}
use Rattle.std.proofs.lemmas.Option.{slice_get_read}
use Rattle.cm_facts.proofs.Options.{is_some_false}
use Rattle.cm_decl.specs.declared.decl.Decl.{Decl}
use Rattle.cm_decl.specs.declared.rows.Child.{Child}
use Rattle.cm_decl.specs.declared.rows.Collection.{Collection}
use Rattle.cm_decl.specs.declared.section.Section.{Section}
use Rattle.cm_decl.specs.declared.section.Section.TheVariants.{Children, Collections}
use Rattle.cm_decl.specs.Rules.{Rule, RepeatedName, number_of}
use Rattle.cm_decl.specs.RulesInside.{rules}
use Rattle.cm_decl.specs.Clashes.{RowPlace, place, clash, or_else, first_row, first_before, same_collection_name}
use Rattle.cm_decl.specs.Breaks.{breaks, passes_at}
use Rattle.cm_decl.specs.FaultsInside.{IsFirstIn}
use Rattle.cm_decl.proofs.lemmas.faults.Computed.{fault_by}
use Rattle.cm_decl.proofs.lemmas.faults.FirstFaults.{first_at_row}
use Rattle.cm_valid.specs.declared.found.FoundFault.{FoundFault}
use Rattle.cm_valid.specs.Lookup.{is_child_name}
use Rattle.cm_valid.specs.Near.{near, KeysAreApart}
use Rattle.cm_valid.specs.Parts.{At, FindsFault, fault_of}
use Rattle.cm_valid.proofs.lemmas.Clash.{none_before, same_near}

-- ---- rows that are read

-- a row that was read stands there
pub row_at : {A : Type 0} (rows all : List A) (i : ℕ) (row : A) → rows ≡ all → i < length all → row ≡ get_or rows i row → slice_get all i ≡ Some row
row_at {A} rows all i row same within is =
    slice_get_read all (length all) i row refl within (subst (λ (l : List A). row ≡ get_or l i row) same is)

-- An index passes a test as the row at it does.
pub passes : {A : Type 0} (test : A → Bool) (rows : List A) (i : ℕ) (row : A) (v : Bool) → slice_get rows i ≡ Some row → test row ≡ v → passes_at test rows i ≡ v
passes {A} test rows i row v at e = ap (λ (o : Option A). option_map_or test o false) at ∙ e

-- ---- the first earlier row that a row clashes with

-- The first earlier row that a row of a section clashes with is the first one before it that does.
pub clash_of : {A : Type 0} (s : Section) (clashes : A → A → Bool) (rows : List A) (i : ℕ) (row : A) (o : Option ℕ) → slice_get rows i ≡ Some row → position (λ e. clashes e row) (take i rows) ≡ o → first_before s clashes rows i ≡ option_map (place s) o
clash_of {A} s clashes rows i row o at e =
    ap (λ (r : Option A). option_and_then (λ x. first_row s (λ earlier. clashes earlier x) (take i rows)) r) at ∙ ap (option_map (place s)) e

-- what was found among rows that were read is so among the rows that they are
pub looked_through : {A : Type 0} (test : A → Bool) (rows all : List A) (found o : Option ℕ) → rows ≡ all → found ≡ position test rows → found ≡ o → position test all ≡ o
looked_through {A} test rows all found o same looked told = subst (λ (l : List A). position test l ≡ o) same (sym looked ∙ told)

-- The first row before one that has its name, by the rows that were looked through, is the first with it.
pub first_named : {A : Type 0} (s : Section) (name : A → List ℕ) (rows all : List A) (i : ℕ) (row : A) (found o : Option ℕ) → rows ≡ all → i < length all → row ≡ get_or rows i row → found ≡ position (λ e. bytes_eq (name e) (name row)) (take i rows) → found ≡ o
    → first_before s (λ a b. bytes_eq (name a) (name b)) all i ≡ option_map (place s) o
first_named {A} s name rows all i row found o same within is looked told =
    clash_of s (λ (a b : A). bytes_eq (name a) (name b)) all i row o (row_at rows all i row same within is)
    (subst (λ (l : List A). position (λ e. bytes_eq (name e) (name row)) (take i l) ≡ o) same (sym looked ∙ told))

-- a row that stands apart clashes with no earlier one
pub clash_apart : {A : Type 0} (s : Section) (key : A → List ℕ) (clashes : A → A → Bool) → ((a b : A) → clashes a b ≡ true → near (key a) (key b) ≡ true) → (rows : List A) (n i : ℕ) → KeysAreApart key rows n → i < n → first_before s clashes rows i ≡ None
clash_apart {A} s key clashes close rows n i apart bound = by (slice_get rows i) refl
  where
    by : (o : Option A) → slice_get rows i ≡ o → first_before s clashes rows i ≡ None
    by None e = ap (λ (r : Option A). option_and_then (λ x. first_row s (λ earlier. clashes earlier x) (take i rows)) r) e
    by (Some row) e = clash_of s clashes rows i row None e (none_before key clashes close rows n i row apart bound e)

-- ---- the rule that a row breaks first

-- what was found, without and with the row that it clashes with
abbrev pub found_at : Section → ℕ → Rule → Option RowPlace → FoundFault
found_at s i rule against = record { number = number_of rule; section = s; index = i; against = against }

-- none of these rules passes the test
abbrev pub NonePasses : (Rule → Bool) → List Rule → Type 0
NonePasses test [] = Unit {0}
NonePasses test (rule ∷ others) = (test rule ≡ false) × NonePasses test others

-- The first of some rules that passes is the one that passes behind those that don't.
find_behind : (test : Rule → Bool) (some : List Rule) (k : ℕ) (rule : Rule) → slice_get some k ≡ Some rule → NonePasses test (take k some) → test rule ≡ true → find test some ≡ Some rule
find_behind test [] zero rule at fails passes = absurd (true≢false (sym (ap is_some at)))
find_behind test [] (suc k) rule at fails passes = absurd (true≢false (sym (ap is_some at)))
find_behind test (x ∷ some) zero rule at fails passes =
    let same : x ≡ rule = cc in
    ap (λ v. cond v (Some x) (find test some)) (ap test same ∙ passes) ∙ ap Some same
find_behind test (x ∷ some) (suc k) rule at fails passes =
    ap (λ v. cond v (Some x) (find test some)) fails.0 ∙ find_behind test some k rule at fails.1 passes

-- No rule is found where none of them passes.
find_none : (test : Rule → Bool) (some : List Rule) → NonePasses test some → find test some ≡ None
find_none test [] fails = refl
find_none test (x ∷ some) fails = ap (λ v. cond v (Some x) (find test some)) fails.0 ∙ find_none test some fails.1

-- a row that breaks the k-th rule and none before it
pub finds : (d : Decl) (s : Section) (i k : ℕ) (rule : Rule) (against : Option RowPlace) → slice_get rules k ≡ Some rule → NonePasses (λ q. breaks d q s i) (take k rules) → breaks d rule s i ≡ true → clash d rule s i ≡ against → FindsFault d (At s i) (Some (found_at s i rule against))
finds d s i k rule against at fails broken e =
    subst (λ (a : Option RowPlace). IsFirstIn d (At s i) (Some (fault_of (found_at s i rule a)))) e
    (subst (λ (o : Option Rule). IsFirstIn d (At s i) (option_map (fault_by d s i) o)) (find_behind (λ q. breaks d q s i) rules k rule at fails broken) (first_at_row d s i))

-- Where a row breaks no rule, no fault is found at it.
pub finds_none : (d : Decl) (s : Section) (i : ℕ) → NonePasses (λ q. breaks d q s i) rules → FindsFault d (At s i) None
finds_none d s i fails =
    subst (λ (o : Option Rule). IsFirstIn d (At s i) (option_map (fault_by d s i) o)) (find_none (λ q. breaks d q s i) rules fails) (first_at_row d s i)

-- ---- rows that break no rule but that of their names

-- A row of a section breaks no rule other than that of names that repeat.
abbrev BreaksNoOther : Decl → Section → ℕ → Type 0
BreaksNoOther d s i = NonePasses (λ q. breaks d q s i) (drop 1 rules)

-- Where a row repeats no name and breaks no other rule, no fault is found at it.
pub named_once : (d : Decl) (s : Section) (i : ℕ) → breaks d RepeatedName s i ≡ false → BreaksNoOther d s i → FindsFault d (At s i) None
named_once d s i once others = finds_none d s i (once, others)

-- A repeated name is found at a row with the earlier row that has it.
pub named_before : (d : Decl) (s other : Section) (i first : ℕ) (found : FoundFault) → found ≡ found_at s i RepeatedName (Some (place other first)) → breaks d RepeatedName s i ≡ true → clash d RepeatedName s i ≡ Some (place other first) → FindsFault d (At s i) (Some found)
named_before d s other i first found is broken clashing =
    subst (λ (f : FoundFault). FindsFault d (At s i) (Some f)) (sym is) (finds d s i 0 RepeatedName (Some (place other first)) refl tt broken clashing)

-- a section whose rows have names, at a row that breaks no rule but that of these
pub record IsNamed {A : Type 0} (d : Decl) (s : Section) (name : A → List ℕ) (rows : List A) (i : ℕ) : Type 0 where
  pub clashing : clash d RepeatedName s i ≡ first_before s (λ a b. bytes_eq (name a) (name b)) rows i
  pub broken : breaks d RepeatedName s i ≡ is_some (first_before s (λ a b. bytes_eq (name a) (name b)) rows i)
  pub others : BreaksNoOther d s i

-- where the row stands apart, its name is that of no earlier one
pub named_apart : {A : Type 0} (d : Decl) (s : Section) (name : A → List ℕ) (rows : List A) (n i : ℕ) → IsNamed d s name rows i → KeysAreApart name rows n → i < n → FindsFault d (At s i) None
named_apart {A} d s name rows n i named apart low =
    named_once d s i (named.broken ∙ ap is_some (clash_apart s name (λ a b. bytes_eq (name a) (name b)) (λ a b e. same_near (name a) (name b) e) rows n i apart low)) named.others

-- A repeated name is found with the first earlier row that was found, or none is where none was.
pub named_found : {A : Type 0} (d : Decl) (s : Section) (name : A → List ℕ) (rows all : List A) (i : ℕ) (row : A) (found o : Option ℕ) → IsNamed d s name all i → rows ≡ all → i < length all → row ≡ get_or rows i row → found ≡ position (λ e. bytes_eq (name e) (name row)) (take i rows) → found ≡ o
    → FindsFault d (At s i) (option_map (λ first. found_at s i RepeatedName (Some (place s first))) o)
named_found {A} d s name rows all i row found None named same within is looked told =
    named_once d s i (named.broken ∙ ap is_some (first_named s name rows all i row found None same within is looked told)) named.others
named_found {A} d s name rows all i row found (Some first) named same within is looked told =
    let clashing = first_named s name rows all i row found (Some first) same within is looked told in
    finds d s i 0 RepeatedName (Some (place s first)) refl tt (named.broken ∙ ap is_some clashing) (named.clashing ∙ clashing)

-- ---- collections

-- An item that passes has a place, counted from a number, exactly where some item passes.
some_from : {A : Type 0} (test : A → Bool) (i : ℕ) (rows : List A) → is_some (position_from test i rows) ≡ list_any test rows
some_from {A} test i [] = refl
some_from {A} test i (x ∷ rows) = by (test x) (some_from test (i + 1) rows)
  where
    by : (v : Bool) → is_some (position_from test (i + 1) rows) ≡ list_any test rows → is_some (cond v (Some i) (position_from test (i + 1) rows)) ≡ (v || list_any test rows)
    by true later = refl
    by false later = later

-- a list has a first row that passes exactly where some row passes
pub position_any : {A : Type 0} (test : A → Bool) (rows : List A) → is_some (position test rows) ≡ list_any test rows
position_any {A} test rows = ap is_some (position_from-zero test rows) ∙ some_from test 0 rows

-- no child has a name that none of them has
pub no_child : (d : Decl) (name : List ℕ) → is_child_name d name ≡ false → position (λ k. bytes_eq k.name name) d.children ≡ None
no_child d name e = is_some_false _ (position_any (λ (k : Child). bytes_eq k.name name) d.children ∙ e)

-- some child has a name that one of them has
pub some_child : (d : Decl) (name : List ℕ) → is_child_name d name ≡ true → position (λ k. bytes_eq k.name name) d.children ≡ None → ⊥
some_child d name e none =
    true≢false (sym e ∙ sym (position_any (λ (k : Child). bytes_eq k.name name) d.children) ∙ ap is_some none)

-- a collection clashes with the first child of its name
pub clash_child : (d : Decl) (i : ℕ) (row : Collection) (k : ℕ) → slice_get d.collections i ≡ Some row → position (λ c. bytes_eq c.name row.name) d.children ≡ Some k → clash d RepeatedName Collections i ≡ Some (place Children k)
clash_child d i row k at e =
    ap (λ (o : Option RowPlace). or_else o (first_before Collections same_collection_name d.collections i))
    (ap (λ (o : Option Collection). option_and_then (λ x. first_row Children (λ c. bytes_eq c.name x.name) d.children) o) at ∙ ap (option_map (place Children)) e)

-- where no child has its name, it clashes with earlier collections alone
pub clash_collection : (d : Decl) (i : ℕ) (row : Collection) (o : Option RowPlace) → slice_get d.collections i ≡ Some row → position (λ c. bytes_eq c.name row.name) d.children ≡ None → first_before Collections same_collection_name d.collections i ≡ o → clash d RepeatedName Collections i ≡ o
clash_collection d i row o at e f =
    ap (λ (p : Option RowPlace). or_else p (first_before Collections same_collection_name d.collections i))
    (ap (λ (p : Option Collection). option_and_then (λ x. first_row Children (λ c. bytes_eq c.name x.name) d.children) p) at ∙ ap (option_map (place Children)) e) ∙ f
