use Rattle.std.proofs.Common.{◌≡◌, ℕ, zero, suc, ◌+◌, ◌<◌, ◌≤◌, List, [], length, Bool, true, false, true≢false, Option, Some, None, refl, sym, ◌∙◌, ap, subst, IsTrue, inl, inr, ◌⊎◌, arith}
use Rattle.std.specs.Prelude.{◌==◌, if◌then◌else◌, find, option_map, option_and_then, is_some, slice_get, take, cond}
use Rattle.std.specs.Str.{bytes_eq}
use Rattle.std.specs.Option.{option_map_or}
use Rattle.std.proofs.lemmas.Bool.{cases_order, cases_lt}
use Rattle.std.proofs.lemmas.Option.{slice_get_within}
use Rattle.cm_decl.specs.declared.decl.Decl.{Decl}
use Rattle.cm_decl.specs.declared.node.Node.{Node}
use Rattle.cm_decl.specs.declared.section.Section.{Section}
use Rattle.cm_decl.specs.declared.section.Section.TheVariants.{Manifest, Program, Children, Collections, Capabilities, Uses, Offers, Exposes, Environments, Graph}
use Rattle.cm_decl.specs.Rules.{Rule, RepeatedName, UnknownRef, NotDeclared, TargetIsSource, RepeatedTarget, RepeatedPath, PathInside, RequiredVoid, number_of}
use Rattle.cm_decl.specs.RulesInside.{rules}
use Rattle.cm_decl.specs.declared.rows.Collection.{Collection}
use Rattle.cm_decl.specs.Clashes.{RowPlace, clash, or_else, first_row, first_before, same_child_name, same_collection_name, same_capability_name, same_target, same_expose, same_path, are_paths_nested}
use Rattle.cm_decl.specs.Breaks.{breaks, passes_at}
use Rattle.cm_decl.specs.Faults.{DeclFault, IsBroken, section_rank, IsBefore, IsFirst, IsFaultless}
use Rattle.cm_decl.specs.FaultsInside.{IsFirstIn}
use Rattle.cm_decl.proofs.lemmas.faults.Computed.{fault_by, fault_at, fault_below, first_fault}
use Rattle.cm_decl.specs.Valid.{IsValid, IsDeclFault, cycle_fault}
use Rattle.cm_decl.specs.Graph.{is_strong_edge}
use Rattle.cm_decl.proofs.lemmas.Sameness.{never}
use Rattle.cm_decl.proofs.lemmas.cycles.Picking.{picks_once, picked_is_cycle}

-- ---- a rule is told by its number, and a section by its rank

-- The rule with a number.
rule_of : ℕ → Rule
rule_of n = if n == 50 then RepeatedName else if n == 51 then UnknownRef else if n == 52 then NotDeclared else if n == 53 then TargetIsSource else if n == 54 then RepeatedTarget else if n == 55 then RepeatedPath else if n == 56 then PathInside else RequiredVoid

-- The rule with the number of a rule is that rule.
rule_back : (r : Rule) → rule_of (number_of r) ≡ r
unfolding rule_of
rule_back RepeatedName = refl
rule_back UnknownRef = refl
rule_back NotDeclared = refl
rule_back TargetIsSource = refl
rule_back RepeatedTarget = refl
rule_back RepeatedPath = refl
rule_back PathInside = refl
rule_back RequiredVoid = refl

-- A rule is told by the number of its fault.
pub same_rule : (q r : Rule) → number_of q ≡ number_of r → q ≡ r
same_rule q r e = sym (rule_back q) ∙ ap rule_of e ∙ rule_back r

-- The number of a rule is below 58.
rule_below : (r : Rule) → number_of r < 58
rule_below RepeatedName = omega arith
rule_below UnknownRef = omega arith
rule_below NotDeclared = omega arith
rule_below TargetIsSource = omega arith
rule_below RepeatedTarget = omega arith
rule_below RepeatedPath = omega arith
rule_below PathInside = omega arith
rule_below RequiredVoid = omega arith

-- The number of a rule is at least 50.
rule_above : (r : Rule) → 50 ≤ number_of r
rule_above RepeatedName = omega arith
rule_above UnknownRef = omega arith
rule_above NotDeclared = omega arith
rule_above TargetIsSource = omega arith
rule_above RepeatedTarget = omega arith
rule_above RepeatedPath = omega arith
rule_above PathInside = omega arith
rule_above RequiredVoid = omega arith

-- The section with a rank.
section_of : ℕ → Section
section_of n = if n == 0 then Manifest else if n == 1 then Program else if n == 2 then Children else if n == 3 then Collections else if n == 4 then Capabilities else if n == 5 then Uses else if n == 6 then Offers else if n == 7 then Exposes else if n == 8 then Environments else Graph

-- The section with the rank of a section is that section.
section_back : (s : Section) → section_of (section_rank s) ≡ s
unfolding section_of
section_back Manifest = refl
section_back Program = refl
section_back Children = refl
section_back Collections = refl
section_back Capabilities = refl
section_back Uses = refl
section_back Offers = refl
section_back Exposes = refl
section_back Environments = refl
section_back Graph = refl

-- A section is told by its rank.
pub same_section : (s t : Section) → section_rank s ≡ section_rank t → s ≡ t
same_section s t e = sym (section_back s) ∙ ap section_of e ∙ section_back t

-- A fault of a declaration by its parts: number, section, index, other place and cycle.
fault : ℕ → Section → ℕ → Option RowPlace → List Node → DeclFault
fault n s i p c = record { number = n; section = s; index = i; against = p; cycle = c }

-- Faults whose parts are all the same are the same.
same_fault : (f g : DeclFault) → f.number ≡ g.number → f.section ≡ g.section → f.index ≡ g.index → f.against ≡ g.against → f.cycle ≡ g.cycle → f ≡ g
unfolding fault
same_fault f g a b c d e =
    ap (λ n. fault n f.section f.index f.against f.cycle) a ∙
    ap (λ s. fault g.number s f.index f.against f.cycle) b ∙
    ap (λ i. fault g.number g.section i f.against f.cycle) c ∙
    ap (λ p. fault g.number g.section g.index p f.cycle) d ∙
    ap (λ l. fault g.number g.section g.index g.against l) e

-- ---- the first of several

-- What is the first fault of a part is that of the same part in other words.
pub in_other_words : (d : Decl) (P Q : DeclFault → Type 0) (o : Option DeclFault) → ((f : DeclFault) → P f → Q f) → ((f : DeclFault) → IsBroken d f → Q f → P f) → IsFirstIn d P o → IsFirstIn d Q o
in_other_words d P Q None there back first = λ g st q. first g st (back g st q)
in_other_words d P Q (Some f) there back first =
    (first.0, there f first.1, λ g st q before. first.2 g st (back g st q) before)

-- the first of two parts of which the one stands before the other
pub first_of_both : (d : Decl) (P Q : DeclFault → Type 0) (o others : Option DeclFault) → ((f g : DeclFault) → P f → Q g → IsBefore g f → ⊥) → IsFirstIn d P o → IsFirstIn d Q others → IsFirstIn d (λ f. P f ⊎ Q f) (or_else o others)
first_of_both d P Q (Some f) others apart first second = (
  first.0,
  inl first.1,
  λ g st part before. elim part as (λ _. ⊥) [
    | inl p ↦ first.2 g st p before
    | inr q ↦ apart f g first.1 q before
  ],
)
first_of_both d P Q None (Some f) apart first second = (
  second.0,
  inr second.1,
  λ g st part before. elim part as (λ _. ⊥) [
    | inl p ↦ first g st p
    | inr q ↦ second.2 g st q before
  ],
)
first_of_both d P Q None None apart first second =
    λ g st part. elim part as (λ _. ⊥) [ inl p ↦ first g st p | inr q ↦ second g st q ]

-- ---- the first fault at a row

-- the least rule from a number on that passes
IsLeastRule : (Rule → Bool) → ℕ → Option Rule → Type 0
IsLeastRule p k None = (r : Rule) → k ≤ number_of r → p r ≡ false
IsLeastRule p k (Some r) = IsTrue (p r) × (k ≤ number_of r) × ((q : Rule) → k ≤ number_of q → number_of q < number_of r → p q ≡ false)

-- A rule whose number is no less than another's is that one or has at least the next number.
rule_split : (r q : Rule) → number_of r ≤ number_of q → (q ≡ r) ⊎ (number_of r + 1 ≤ number_of q)
rule_split r q h = elim (cases_order (number_of r) (number_of q)) as (λ _. (q ≡ r) ⊎ (number_of r + 1 ≤ number_of q)) [
  | inl e ↦ inl (same_rule q r (sym e))
  | inr (inl l) ↦ inr (omega arith)
  | inr (inr g) ↦ absurd (omega arith)
]

-- The least rule that passes, from a rule on, is that one if it passes, else the least behind it.
least_step : (p : Rule → Bool) (r : Rule) (o : Option Rule) (b : Bool) → p r ≡ b → IsLeastRule p (number_of r + 1) o → IsLeastRule p (number_of r) (cond b (Some r) o)
unfolding IsLeastRule
least_step p r o true here rest = (here, omega arith, λ q from below. absurd (omega arith))
least_step p r None false here rest = λ q from. elim (rule_split r q from) as (λ _. p q ≡ false) [
  | inl e ↦ ap p e ∙ here
  | inr l ↦ rest q l
]
least_step p r (Some s) false here rest = (
  rest.0,
  omega arith,
  λ q from below. elim (rule_split r q from) as (λ _. p q ≡ false) [
    | inl e ↦ ap p e ∙ here
    | inr l ↦ rest.2 q l below
  ],
)

-- From 58 on no rule passes.
none_from : (p : Rule → Bool) → IsLeastRule p 58 None
unfolding IsLeastRule
none_from p r from = let below : number_of r < 58 = rule_below r in absurd (omega arith)

-- The first rule of the list that passes is the least one that does.
least_rule : (p : Rule → Bool) → IsLeastRule p 50 (find p rules)
least_rule p =
    least_step p RepeatedName _ (p RepeatedName) refl
    (least_step p UnknownRef _ (p UnknownRef) refl
    (least_step p NotDeclared _ (p NotDeclared) refl
    (least_step p TargetIsSource _ (p TargetIsSource) refl
    (least_step p RepeatedTarget _ (p RepeatedTarget) refl
    (least_step p RepeatedPath _ (p RepeatedPath) refl
    (least_step p PathInside _ (p PathInside) refl
    (least_step p RequiredVoid _ (p RequiredVoid) refl (none_from p))))))))

-- at a row, below a row of a section, in a section, and from a section on
abbrev pub At : Section → ℕ → DeclFault → Type 0
At s i f = (f.section ≡ s) × (f.index ≡ i)

-- The fault stands in this section, at one of so many first rows.
abbrev pub Below : Section → ℕ → DeclFault → Type 0
Below s n f = (f.section ≡ s) × (f.index < n)

-- The fault stands in a section of this rank or of a greater one.
abbrev pub From : ℕ → DeclFault → Type 0
From k f = k ≤ section_rank f.section

-- a fault that stands at a row breaks its rule there
broken_at : (d : Decl) (s : Section) (i : ℕ) (g : DeclFault) (st : IsBroken d g) → At s i g → IsTrue (breaks d st.rule s i)
broken_at d s i g st here =
    subst (λ t. IsTrue (breaks d st.rule t i)) here.0 (subst (λ j. IsTrue (breaks d st.rule g.section j)) here.1 st.broken)

-- The fault by the least rule that a row breaks is the first fault at that row.
row_by : (d : Decl) (s : Section) (i : ℕ) (o : Option Rule) → IsLeastRule (λ r. breaks d r s i) 50 o → IsFirstIn d (At s i) (option_map (fault_by d s i) o)
unfolding IsLeastRule
row_by d s i None least = λ g st here. true≢false (sym (broken_at d s i g st here) ∙ least st.rule (rule_above st.rule))
row_by d s i (Some r) least = (
  record { rule = r; broken = least.0; numbered = refl; clashing = refl; no_cycle = refl },
  (refl, refl),
  λ g st here before. elim before as (λ _. ⊥) [
    | inl lower ↦ (let same : section_rank g.section ≡ section_rank s = ap section_rank here.0 in absurd (omega arith))
    | inr (e, inl lower) ↦ absurd (omega arith)
    | inr (e, inr (f, lower)) ↦ (let numbered : g.number ≡ number_of st.rule = st.numbered in
        true≢false (sym (broken_at d s i g st here) ∙ least.2 st.rule (rule_above st.rule) (omega arith)))
  ],
)

-- the computed fault at a row is the first that stands there
pub first_at_row : (d : Decl) (s : Section) (i : ℕ) → IsFirstIn d (At s i) (fault_at d s i)
first_at_row d s i = row_by d s i (find (λ r. breaks d r s i) rules) (least_rule (λ r. breaks d r s i))

-- With one row more, the first fault of the rows is that of those before, or else that row's.
pub first_below_more : (d : Decl) (s : Section) (n : ℕ) (o others : Option DeclFault) → IsFirstIn d (Below s n) o → IsFirstIn d (At s n) others → IsFirstIn d (Below s (n + 1)) (or_else o others)
first_below_more d s n o others first second =
    in_other_words d (λ f. Below s n f ⊎ At s n f) (Below s (n + 1)) (or_else o others)
    (λ f part. elim part as (λ _. Below s (n + 1) f) [ inl p ↦ (p.0, omega arith) | inr q ↦ (q.0, omega arith) ])
    (λ f st part. split f part)
    (first_of_both d (Below s n) (At s n) o others (λ f g p q before. apart f g p q before) first second)
  where
    split : (f : DeclFault) → Below s (n + 1) f → Below s n f ⊎ At s n f
    split f part = elim (cases_lt f.index n) as (λ _. Below s n f ⊎ At s n f) [
      | inl l ↦ inl (part.0, l)
      | inr g ↦ inr (part.0, omega arith)
    ]

    apart : (f g : DeclFault) → Below s n f → At s n g → IsBefore g f → ⊥
    apart f g p q (inl lower) =
        let one : section_rank f.section ≡ section_rank s = ap section_rank p.0 in
        let two : section_rank g.section ≡ section_rank s = ap section_rank q.0 in absurd (omega arith)
    apart f g p q (inr (e, inl lower)) = absurd (omega arith)
    apart f g p q (inr (e, inr (h, lower))) = absurd (omega arith)

-- The fault that is computed for the first rows of a section is the first that stands at them.
pub first_below : (d : Decl) (s : Section) (n : ℕ) → IsFirstIn d (Below s n) (fault_below d s n)
first_below d s zero = λ g st here. absurd (omega arith)
first_below d s (suc n) =
    subst (λ m. IsFirstIn d (Below s m) (or_else (fault_below d s n) (fault_at d s n))) next
    (first_below_more d s n (fault_below d s n) (fault_at d s n) (first_below d s n) (first_at_row d s n))
  where
    next : n + 1 ≡ suc n
    next = omega arith

-- ---- each fault stands at a row that is there

-- A row that passes a test is within its list.
passes_there : {A : Type 0} (p : A → Bool) (rows : List A) (i : ℕ) (o : Option A) → slice_get rows i ≡ o → IsTrue (option_map_or p o false) → i < length rows
passes_there p rows i None e h = never h
passes_there p rows i (Some row) e h = slice_get_within rows i row e

-- Where some row at an index passes a test, the index is within the rows.
pub passes_within : {A : Type 0} (p : A → Bool) (rows : List A) (i : ℕ) → IsTrue (passes_at p rows i) → i < length rows
passes_within p rows i h = passes_there p rows i (slice_get rows i) refl h

-- A row in which something is found is within its list.
found_there : {A B : Type 0} (find : A → Option B) (rows : List A) (i : ℕ) (o : Option A) → slice_get rows i ≡ o → IsTrue (is_some (option_and_then find o)) → i < length rows
found_there find rows i None e h = never h
found_there find rows i (Some row) e h = slice_get_within rows i row e

-- Where a row at an index clashes with one before it, the index is within the rows.
pub clash_within : {A : Type 0} (s : Section) (clashes : A → A → Bool) (rows : List A) (i : ℕ) → IsTrue (is_some (first_before s clashes rows i)) → i < length rows
clash_within s clashes rows i h = found_there _ rows i (slice_get rows i) refl h

-- A collection whose name clashes with another is within the list of collections.
name_within : (d : Decl) (i : ℕ) → IsTrue (is_some (clash d RepeatedName Collections i)) → i < length d.collections
name_within d i h = by (slice_get d.collections i) refl h
  where
    by : (o : Option Collection) → slice_get d.collections i ≡ o → IsTrue (is_some (or_else (option_and_then (λ k. first_row Children (λ c. bytes_eq c.name k.name) d.children) o) (option_and_then (λ row. first_row Collections (λ earlier. same_collection_name earlier row) (take i d.collections)) o))) → i < length d.collections
    by None e broken = never broken
    by (Some row) e broken = slice_get_within d.collections i row e

-- how many rows a section has
abbrev pub rows_of : Decl → Section → ℕ
rows_of d Children = length d.children
rows_of d Collections = length d.collections
rows_of d Capabilities = length d.capabilities
rows_of d Uses = length d.uses
rows_of d Offers = length d.offers
rows_of d Exposes = length d.exposes
rows_of d section = 0

-- a row that breaks a rule is there
pub broken_within : (d : Decl) (rule : Rule) (s : Section) (i : ℕ) → IsTrue (breaks d rule s i) → i < rows_of d s
broken_within d UnknownRef Uses i h = passes_within _ d.uses i h
broken_within d UnknownRef Offers i h = passes_within _ d.offers i h
broken_within d UnknownRef Exposes i h = passes_within _ d.exposes i h
broken_within d NotDeclared Uses i h = passes_within _ d.uses i h
broken_within d NotDeclared Offers i h = passes_within _ d.offers i h
broken_within d NotDeclared Exposes i h = passes_within _ d.exposes i h
broken_within d TargetIsSource Offers i h = passes_within _ d.offers i h
broken_within d RequiredVoid Offers i h = passes_within _ d.offers i h
broken_within d RequiredVoid Exposes i h = passes_within _ d.exposes i h
broken_within d RepeatedName Children i h = clash_within Children same_child_name d.children i h
broken_within d RepeatedName Collections i h = name_within d i h
broken_within d RepeatedName Capabilities i h = clash_within Capabilities same_capability_name d.capabilities i h
broken_within d RepeatedTarget Offers i h = clash_within Offers same_target d.offers i h
broken_within d RepeatedTarget Exposes i h = clash_within Exposes same_expose d.exposes i h
broken_within d RepeatedPath Uses i h = clash_within Uses same_path d.uses i h
broken_within d PathInside Uses i h = clash_within Uses are_paths_nested d.uses i h
broken_within d rule s i h = never h

-- the faults of a section stand at its rows
pub first_in_section : (d : Decl) (s : Section) (o : Option DeclFault) → IsFirstIn d (Below s (rows_of d s)) o → IsFirstIn d (λ f. f.section ≡ s) o
first_in_section d s o first =
    in_other_words d (Below s (rows_of d s)) (λ f. f.section ≡ s) o (λ f part. part.0)
    (λ f st same. (same, subst (λ t. f.index < rows_of d t) same (broken_within d st.rule f.section f.index st.broken))) first

-- a section, and those behind it
pub first_from : (d : Decl) (s : Section) (k : ℕ) (o others : Option DeclFault) → section_rank s ≡ k → IsFirstIn d (λ f. f.section ≡ s) o → IsFirstIn d (From (k + 1)) others → IsFirstIn d (From k) (or_else o others)
first_from d s k o others at first second =
    in_other_words d (λ f. (f.section ≡ s) ⊎ From (k + 1) f) (From k) (or_else o others)
    (λ f part. elim part as (λ _. From k f) [
      | inl p ↦ (let same : section_rank f.section ≡ section_rank s = ap section_rank p in omega arith)
      | inr q ↦ omega arith
    ])
    (λ f st part. split f part)
    (first_of_both d (λ f. f.section ≡ s) (From (k + 1)) o others (λ f g p q before. apart f g p q before) first second)
  where
    split : (f : DeclFault) → From k f → (f.section ≡ s) ⊎ From (k + 1) f
    split f part = elim (cases_order k (section_rank f.section)) as (λ _. (f.section ≡ s) ⊎ From (k + 1) f) [
      | inl e ↦ inl (same_section f.section s (sym e ∙ sym at))
      | inr (inl l) ↦ inr (omega arith)
      | inr (inr g) ↦ absurd (omega arith)
    ]

    apart : (f g : DeclFault) → f.section ≡ s → From (k + 1) g → IsBefore g f → ⊥
    apart f g p q (inl lower) =
        let same : section_rank f.section ≡ section_rank s = ap section_rank p in absurd (omega arith)
    apart f g p q (inr (e, rest)) =
        let same : section_rank f.section ≡ section_rank s = ap section_rank p in absurd (omega arith)

-- behind the exposes nothing stands
none_behind : (d : Decl) (f : DeclFault) (s : Section) → f.section ≡ s → IsBroken d f → 8 ≤ section_rank s → ⊥
none_behind d f Environments e st behind =
    let there : f.index < 0 = subst (λ t. f.index < rows_of d t) e (broken_within d st.rule f.section f.index st.broken) in omega arith
none_behind d f Graph e st behind =
    let there : f.index < 0 = subst (λ t. f.index < rows_of d t) e (broken_within d st.rule f.section f.index st.broken) in omega arith
none_behind d f s e st behind = omega arith

-- The first fault among a section's rows, as computed, is the section's first fault.
computed_section : (d : Decl) (s : Section) → IsFirstIn d (λ f. f.section ≡ s) (fault_below d s (rows_of d s))
computed_section d s = first_in_section d s (fault_below d s (rows_of d s)) (first_below d s (rows_of d s))

-- The exposes are the last part: the first fault there is the first from there on.
pub first_from_exposes : (d : Decl) (o : Option DeclFault) → IsFirstIn d (λ f. f.section ≡ Exposes) o → IsFirstIn d (From 7) o
first_from_exposes d o first =
    in_other_words d (λ f. f.section ≡ Exposes) (From 7) o
    (λ f part. let same : section_rank f.section ≡ 7 = ap section_rank part in omega arith)
    (λ f st part. elim (cases_order 7 (section_rank f.section)) as (λ _. f.section ≡ Exposes) [
      | inl e ↦ same_section f.section Exposes (sym e)
      | inr (inl l) ↦ absurd (none_behind d f f.section refl st (omega arith))
      | inr (inr g) ↦ absurd (omega arith)
    ]) first

-- The first fault of a declaration, as computed, is the first from the children's section on.
computed_from : (d : Decl) → IsFirstIn d (From 2) (first_fault d)
computed_from d =
    first_from d Children 2 _ _ refl (computed_section d Children)
    (first_from d Collections 3 _ _ refl (computed_section d Collections)
    (first_from d Capabilities 4 _ _ refl (computed_section d Capabilities)
    (first_from d Uses 5 _ _ refl (computed_section d Uses)
    (first_from d Offers 6 _ _ refl (computed_section d Offers)
    (first_from_exposes d _ (computed_section d Exposes))))))

-- before the children nothing stands
none_before : (d : Decl) (f : DeclFault) (s : Section) → f.section ≡ s → IsBroken d f → section_rank s < 2 → ⊥
none_before d f Manifest e st before =
    let there : f.index < 0 = subst (λ t. f.index < rows_of d t) e (broken_within d st.rule f.section f.index st.broken) in omega arith
none_before d f Program e st before =
    let there : f.index < 0 = subst (λ t. f.index < rows_of d t) e (broken_within d st.rule f.section f.index st.broken) in omega arith
none_before d f s e st before = omega arith

-- Each fault of a declaration is in the children's section or one behind it.
from_children : (d : Decl) (f : DeclFault) → IsBroken d f → From 2 f
from_children d f st = elim (cases_lt (section_rank f.section) 2) as (λ _. From 2 f) [
  | inl l ↦ absurd (none_before d f f.section refl st l)
  | inr g ↦ g
]

-- what is first from the children on is first
pub first_of_all : (d : Decl) (f : DeclFault) → IsFirstIn d (From 2) (Some f) → IsFirst d f
first_of_all d f first = record {
  stands = first.0;
  none_before = λ g st before. first.2 g st (from_children d g st) before;
}

-- A declaration that has no fault from the section of rank 2 on is faultless.
pub none_of_all : (d : Decl) → IsFirstIn d (From 2) None → IsFaultless d
none_of_all d first = λ f st. first f st (from_children d f st)

-- the computed fault is the first that stands, and where none is computed none stands
pub computes_some : (d : Decl) (f : DeclFault) → first_fault d ≡ Some f → IsFirst d f
computes_some d f e = first_of_all d f (subst (λ o. IsFirstIn d (From 2) o) e (computed_from d))

-- Where no first fault is computed, no row of the declaration breaks a rule.
pub computes_none : (d : Decl) → first_fault d ≡ None → IsFaultless d
computes_none d e = none_of_all d (subst (λ o. IsFirstIn d (From 2) o) e (computed_from d))

-- ---- a declaration has one fault

-- Numbers of which neither is below the other are the same.
no_less : (a b : ℕ) → (a < b → ⊥) → (b < a → ⊥) → a ≡ b
no_less a b f g = elim (cases_order a b) as (λ _. a ≡ b) [ inl e ↦ e | inr (inl l) ↦ absurd (f l) | inr (inr l) ↦ absurd (g l) ]

-- what stands at one place under one number is one fault
same_stands : (d : Decl) (f g : DeclFault) → IsBroken d f → IsBroken d g → f.section ≡ g.section → f.index ≡ g.index → f.number ≡ g.number → f ≡ g
same_stands d f g one two sections indexes numbers =
    let rule : one.rule ≡ two.rule = same_rule one.rule two.rule (sym one.numbered ∙ numbers ∙ two.numbered) in
    let against : f.against ≡ g.against = one.clashing ∙ ap (λ r. clash d r f.section f.index) rule ∙ ap (λ s. clash d two.rule s f.index) sections ∙ ap (λ i. clash d two.rule g.section i) indexes ∙ sym two.clashing in
    let cycle : f.cycle ≡ g.cycle = one.no_cycle ∙ sym two.no_cycle in
    same_fault f g numbers sections indexes against cycle

-- A declaration has one first fault at most.
first_once : (d : Decl) (f g : DeclFault) → IsFirst d f → IsFirst d g → f ≡ g
first_once d f g one two =
    let behind : IsBefore f g → ⊥ = two.none_before f one.stands in
    let before : IsBefore g f → ⊥ = one.none_before g two.stands in
    let ranks : section_rank f.section ≡ section_rank g.section = no_less _ _ (λ l. behind (inl l)) (λ l. before (inl l)) in
    let indexes : f.index ≡ g.index = no_less _ _ (λ l. behind (inr (ranks, inl l))) (λ l. before (inr (sym ranks, inl l))) in
    let numbers : f.number ≡ g.number = no_less _ _ (λ l. behind (inr (ranks, inr (indexes, l)))) (λ l. before (inr (sym ranks, inr (sym indexes, l)))) in
    same_stands d f g one.stands two.stands (same_section f.section g.section ranks) indexes numbers

-- a declaration has at most one fault
pub fault_once : (d : Decl) (f g : DeclFault) → IsDeclFault d f → IsDeclFault d g → f ≡ g
fault_once d f g (inl one) (inl two) = first_once d f g one two
fault_once d f g (inl one) (inr two) = absurd (two.faultless f one.stands)
fault_once d f g (inr one) (inl two) = absurd (one.faultless g two.stands)
fault_once d f g (inr one) (inr two) =
    one.whole ∙ ap cycle_fault (picks_once (is_strong_edge d []) f.cycle g.cycle one.picked two.picked) ∙ sym two.whole

-- A valid declaration has no fault.
pub valid_faultless : (d : Decl) (f : DeclFault) → IsValid d → IsDeclFault d f → ⊥
valid_faultless d f valid (inl one) = valid.faultless f one.stands
valid_faultless d f valid (inr one) = valid.acyclic (picked_is_cycle (is_strong_edge d []) f.cycle one.picked)
