use Rattle.std.proofs.Common.{◌≡◌, ℕ, zero, suc, ◌+◌, ◌<◌, ◌≤◌, List, [], ◌∷◌, get_or, true, false, true≢false, Option, Some, None, refl, sym, ◌∙◌, ap, subst, inl, inr, arith}
use Rattle.std.specs.Prelude.{is_some}
use Rattle.std.proofs.lemmas.Bool.{cases_order, cases_lt}
use Rattle.cm_facts.proofs.Options.{is_some_false}
use Rattle.cm_decl.specs.declared.decl.Decl.{Decl}
use Rattle.cm_decl.specs.declared.section.Section.{Section}
use Rattle.cm_decl.specs.declared.section.Section.TheVariants.{Manifest, Program, Children, Collections, Capabilities, Uses, Offers, Exposes, Environments, Graph}
use Rattle.cm_decl.specs.Faults.{DeclFault, IsFirst, IsFaultless, section_rank}
use Rattle.cm_decl.specs.FaultsInside.{IsFirstIn}
use Rattle.cm_decl.proofs.lemmas.faults.FirstFaults as faults
use Rattle.cm_decl.proofs.lemmas.faults.FirstFaults.{same_section, first_below_more, first_in_section}
use Rattle.cm_valid.specs.declared.found.FoundFault.{FoundFault}
use Rattle.cm_valid.specs.Parts.{FindsFault, fault_of, At, Below, In, Before, Anywhere, rows_of}

-- The number of a section's rows is that by which faults are told.
same_rows : (d : Decl) (s : Section) → rows_of d s ≡ faults.rows_of d s
same_rows d Manifest = refl
same_rows d Program = refl
same_rows d Children = refl
same_rows d Collections = refl
same_rows d Capabilities = refl
same_rows d Uses = refl
same_rows d Offers = refl
same_rows d Exposes = refl
same_rows d Environments = refl
same_rows d Graph = refl

-- ---- the rows of a section

-- before the first row there is no fault
pub none_yet : (d : Decl) (s : Section) → FindsFault d (Below s 0) None
none_yet d s = λ g st here. absurd (omega arith)

-- Where there is no fault below a row and none at it, there is none below the next row.
pub none_more : (d : Decl) (s : Section) (n : ℕ) (o : Option FoundFault) → FindsFault d (Below s n) None → FindsFault d (At s n) o → is_some o ≡ false → FindsFault d (Below s (n + 1)) None
none_more d s n o none at e =
    first_below_more d s n None None none (subst (λ (p : Option FoundFault). FindsFault d (At s n) p) (is_some_false o e) at)

-- Where there is no fault below as many rows as a section has, there is none in it.
pub none_in : (d : Decl) (s : Section) (n : ℕ) → rows_of d s ≤ n → FindsFault d (Below s n) None → FindsFault d (In s) None
none_in d s n whole none = first_in_section d s None (λ g st here.
    let same : rows_of d s ≡ faults.rows_of d s = same_rows d s in
    none g st (here.0, omega arith))

-- The fault at a row is the first of its section, where none stands below that row.
first_in : (d : Decl) (s : Section) (n : ℕ) (f : DeclFault) → IsFirstIn d (Below s n) None → IsFirstIn d (At s n) (Some f) → IsFirstIn d (In s) (Some f)
first_in d s n f none first = (
  first.0,
  first.1.0,
  λ g st here before. elim (cases_lt g.index n) as (λ _. ⊥) [
    | inl l ↦ none g st (here, l)
    | inr later ↦ (elim before as (λ _. ⊥) [
      | inl lower ↦ (let ranks : section_rank g.section ≡ section_rank f.section = ap section_rank (here ∙ sym first.1.0) in absurd (omega arith))
      | inr (e, inl lower) ↦ (let place : f.index ≡ n = first.1.1 in absurd (omega arith))
      | inr (e, inr (same, lower)) ↦ first.2 g st (here, same ∙ first.1.1) before
    ])
  ],
)

-- the first row with a fault has the first fault of the section
pub some_in : (d : Decl) (s : Section) (n : ℕ) (o : Option FoundFault) → FindsFault d (Below s n) None → FindsFault d (At s n) o → is_some o ≡ true → FindsFault d (In s) o
some_in d s n None none at e = absurd (true≢false (sym e))
some_in d s n (Some f) none at e = first_in d s n (fault_of f) none at

-- ---- the sections

-- The first fault of a section is the first anywhere, where no section before it has one.
first_anywhere : (d : Decl) (s : Section) (k : ℕ) (f : DeclFault) → section_rank s ≡ k → IsFirstIn d (Before k) None → IsFirstIn d (In s) (Some f) → IsFirstIn d Anywhere (Some f)
first_anywhere d s k f rank none first = (
  first.0,
  tt,
  λ g st any before. elim (cases_order (section_rank g.section) k) as (λ _. ⊥) [
    | inl e ↦ first.2 g st (same_section g.section s (e ∙ sym rank)) before
    | inr (inl lower) ↦ none g st lower
    | inr (inr upper) ↦ (let ranks : section_rank f.section ≡ section_rank s = ap section_rank first.1 in
        elim before as (λ _. ⊥) [ inl lower ↦ omega arith | inr rest ↦ omega arith ])
  ],
)

-- the first section with a fault has the first fault of all
pub some_anywhere : (d : Decl) (s : Section) (k : ℕ) (o : Option FoundFault) → section_rank s ≡ k → FindsFault d (Before k) None → FindsFault d (In s) o → is_some o ≡ true → FindsFault d Anywhere o
some_anywhere d s k None rank none first e = absurd (true≢false (sym e))
some_anywhere d s k (Some f) rank none first e = first_anywhere d s k (fault_of f) rank none first

-- the sections in their order
abbrev pub sections : List Section
sections = Children ∷ Collections ∷ Capabilities ∷ Uses ∷ Offers ∷ Exposes ∷ []

-- The rank of a section is two more than its place among the sections that are gone through.
pub ranked : (i : ℕ) (s : Section) → i < 6 → section_rank (get_or sections i s) ≡ i + 2
ranked zero s l = refl
ranked (suc zero) s l = refl
ranked (suc (suc zero)) s l = refl
ranked (suc (suc (suc zero))) s l = refl
ranked (suc (suc (suc (suc zero)))) s l = refl
ranked (suc (suc (suc (suc (suc zero))))) s l = refl
ranked (suc (suc (suc (suc (suc (suc i)))))) s l = absurd (omega arith)

-- ---- what was found anywhere

-- The first fault that is found anywhere in a declaration is its first fault.
pub is_first : (d : Decl) (found : FoundFault) → FindsFault d Anywhere (Some found) → IsFirst d (fault_of found)
is_first d found first = record { stands = first.0; none_before = λ g st before. first.2 g st tt before }

-- A declaration in which no fault is found anywhere is faultless.
pub is_faultless : (d : Decl) → FindsFault d Anywhere None → IsFaultless d
is_faultless d none = λ g st. none g st tt
