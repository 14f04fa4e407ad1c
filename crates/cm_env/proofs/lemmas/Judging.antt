-- The first fault of a declaration's environments, by the row at which each rule is broken first.
use Rattle.std.proofs.Common.{◌≡◌, ℕ, zero, suc, ◌+◌, ◌<◌, List, [], ◌∷◌, Bool, true, false, cond, Option, Some, None, IsTrue, true≢false, length, take, drop, get_or, position, option_map, refl, sym, ◌∙◌, ap, subst, arith, lit<}
use Rattle.std.specs.Prelude.{slice_get, Result, Ok, Err}
use Rattle.cm_decl.specs.declared.decl.Decl.{Decl}
use Rattle.cm_decl.specs.declared.section.Section.TheVariants.{Children, Collections, Uses, Environments}
use Rattle.cm_decl.specs.Breaks.{passes_at}
use Rattle.cm_env.specs.declared.check.FirstRows.{FirstRows}
use Rattle.cm_env.specs.declared.first.ParentLook.{ParentLook}
use Rattle.cm_env.specs.declared.fault.EnvFault.{EnvFault}
use Rattle.cm_decl.specs.declared.section.Section.{Section}
use Rattle.cm_env.specs.First.{Fault, SectionRule, IsFirstFault, HasNoFault, told}
use Rattle.cm_env.specs.FirstInside.{IsFirstAt, first_found}
use Rattle.cm_env.specs.Faults.{JudgesEnv, rules_of, reported, is_undeclared_environment, repeats_target, registers_from_nobody}
use Rattle.cm_env.specs.FaultsInside.{EnvFaultsFound}
use Rattle.cm_decl.specs.declared.environment.Environment.{Environment}
use Rattle.cm_decl.specs.declared.environment.DebugUse.{DebugUse}
use Rattle.cm_decl.specs.declared.rows.Child.{Child}
use Rattle.cm_decl.specs.declared.rows.Collection.{Collection}
use Rattle.cm_decl.specs.declared.rows.Usage.{Usage}
use Rattle.cm_world.proofs.lemmas.trees.Finding.{some_same}
use Rattle.cm_env.specs.Repeats.{repeats_at, meets_at}
use Rattle.cm_env.proofs.lemmas.Firsts.{IsJudged, judged}

-- ---- by six looks

-- What was looked for: the number of a rule, its section, and the first row that breaks it.
abbrev look : ℕ → Section → Option ℕ → ParentLook
look number section row = record { number = number; section = section; row = row }

-- The first fault that six looks at a declaration tell is the first by its rules; or it has none.
pub looks_judged : (d : Decl) (f : FirstRows) (a b c e g h : ParentLook) → EnvFaultsFound d f → a ≡ look 90 Environments f.repeated → b ≡ look 91 Children f.in_child → c ≡ look 91 Collections f.in_collection → e ≡ look 92 Environments f.target → g ≡ look 93 Environments f.source → h ≡ look 94 Uses f.path → IsJudged (rules_of d) (first_found (a ∷ b ∷ c ∷ e ∷ g ∷ h ∷ []))
looks_judged d f a b c e g h found is₁ is₂ is₃ is₄ is₅ is₆ =
    judged (rules_of d) (a ∷ b ∷ c ∷ e ∷ g ∷ h ∷ []) 0 (omega arith, (omega arith, (omega arith, (omega arith, (omega arith, (omega arith, tt)))))) (
      ap number is₁,
      ap section is₁,
      at (repeats_at (λ (x : Environment). x.name) d.environments) is₁ found.repeated,
      (
        ap number is₂,
        ap section is₂,
        at (passes_at (λ (k : Child). is_undeclared_environment d k.environment) d.children) is₂ found.in_child,
        (
          ap number is₃,
          ap section is₃,
          at (passes_at (λ (k : Collection). is_undeclared_environment d k.environment) d.collections) is₃ found.in_collection,
          (
            ap number is₄,
            ap section is₄,
            at (passes_at repeats_target d.environments) is₄ found.target,
            (
              ap number is₅,
              ap section is₅,
              at (passes_at (registers_from_nobody d) d.environments) is₅ found.source,
              (ap number is₆, ap section is₆, at (meets_at (λ (u : Usage). u.path) (λ (u : DebugUse). u.path) d.uses d.debug_uses) is₆ found.path, tt),
            ),
          ),
        ),
      ),
    )
  where
    number : ParentLook → ℕ
    number l = l.number

    section : ParentLook → Section
    section l = l.section

    at : {l m : ParentLook} (test : ℕ → Bool) → l ≡ m → IsFirstAt test m.row → IsFirstAt test l.row
    at {l} {m} test same first = subst (λ (x : ParentLook). IsFirstAt test x.row) (sym same) first

-- Where no fault is told of all rules, none is broken.
pub none_judged : (d : Decl) (o : Option Fault) → IsJudged (rules_of d) o → None ≡ option_map told o → HasNoFault (rules_of d)
none_judged d None judged e = judged
none_judged d (Some f) judged e = absurd cc

-- A fault that is told of the looks is what the check of the declaration comes to.
pub some_judged : (d : Decl) (o : Option Fault) (number : ℕ) (section : Section) (index : ℕ) → IsJudged (rules_of d) o → ◌≡◌ {A = Option (ℕ × Section × ℕ)} (Some (number, section, index)) (option_map told o) → JudgesEnv d (Err (record { number = number; section = section; index = index }))
some_judged d None number section index judged e = absurd cc
some_judged d (Some f) number section index judged e =
    let same : ◌≡◌ {A = ℕ × Section × ℕ} (number, section, index) (told f) = some_same (number, section, index) (told f) e in
    (f, judged, sym (ap (λ (t : ℕ × Section × ℕ). record { number = t.0; section = t.1; index = t.2 }) same))
