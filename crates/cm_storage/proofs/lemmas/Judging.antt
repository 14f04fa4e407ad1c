-- The first fault of a declaration's storage, by the row at which each rule is broken first.
use Rattle.std.proofs.Common.{◌≡◌, ℕ, ◌<◌, List, [], ◌∷◌, Bool, Option, Some, None, option_map, sym, ap, subst, arith}
use Rattle.std.specs.Prelude.{Result, Ok, Err}
use Rattle.cm_decl.specs.declared.decl.Decl.{Decl}
use Rattle.cm_decl.specs.declared.section.Section.{Section}
use Rattle.cm_decl.specs.declared.section.Section.TheVariants.{Capabilities, Offers}
use Rattle.cm_decl.specs.declared.storage.Storage.{Storage}
use Rattle.cm_decl.specs.Breaks.{passes_at}
use Rattle.cm_world.proofs.lemmas.trees.Finding.{some_same}
use Rattle.cm_env.specs.declared.first.ParentLook.{ParentLook}
use Rattle.cm_env.specs.First.{Fault, HasNoFault, told}
use Rattle.cm_env.specs.FirstInside.{IsFirstAt, first_found}
use Rattle.cm_env.specs.Repeats.{repeats_at}
use Rattle.cm_env.proofs.lemmas.Firsts.{IsJudged, judged}
use Rattle.cm_storage.specs.declared.check.Found.{Found}
use Rattle.cm_storage.specs.Faults.{JudgesStorage, rules_of, is_from_nobody, is_to_nobody, is_of_nothing}
use Rattle.cm_storage.specs.FaultsInside.{StorageFaultsFound}

-- What was looked for in a storage's declaration: a rule, its section, and the first row to break it.
abbrev look : ℕ → Section → Option ℕ → ParentLook
look number section row = record { number = number; section = section; row = row }

-- The first row that breaks one of the rules for storage, as it was found, is the first fault.
pub looks_judged : (d : Decl) (f : Found) (a b c e : ParentLook) → StorageFaultsFound d f → a ≡ look 95 Capabilities f.repeated → b ≡ look 96 Capabilities f.source → c ≡ look 96 Offers f.target → e ≡ look 97 Offers f.storage → IsJudged (rules_of d) (first_found (a ∷ b ∷ c ∷ e ∷ []))
looks_judged d f a b c e found is₁ is₂ is₃ is₄ =
    judged (rules_of d) (a ∷ b ∷ c ∷ e ∷ []) 0 (omega arith, (omega arith, (omega arith, (omega arith, tt)))) (
      ap number is₁,
      ap section is₁,
      at (repeats_at (λ (x : Storage). x.name) d.storages) is₁ found.repeated,
      (
        ap number is₂,
        ap section is₂,
        at (passes_at (is_from_nobody d) d.storages) is₂ found.source,
        (
          ap number is₃,
          ap section is₃,
          at (passes_at (is_to_nobody d) d.storage_offers) is₃ found.target,
          (ap number is₄, ap section is₄, at (passes_at (is_of_nothing d) d.storage_offers) is₄ found.storage, tt),
        ),
      ),
    )
  where
    number : ParentLook → ℕ
    number l = l.number

    section : ParentLook → Section
    section l = l.section

    at : {l m : ParentLook} (test : ℕ → Bool) → l ≡ m → IsFirstAt test m.row → IsFirstAt test l.row
    at {l} {m} test same first = subst (λ (x : ParentLook). IsFirstAt test x.row) (sym same) first

-- Where no fault is told of all rules, none is broken.
pub none_judged : (d : Decl) (o : Option Fault) → IsJudged (rules_of d) o → None ≡ option_map told o → HasNoFault (rules_of d)
none_judged d None judged e = judged
none_judged d (Some f) judged e = absurd cc

-- A fault that was judged first is what the check of the storage comes to, as it is told.
pub some_judged : (d : Decl) (o : Option Fault) (number : ℕ) (section : Section) (index : ℕ) → IsJudged (rules_of d) o → ◌≡◌ {A = Option (ℕ × Section × ℕ)} (Some (number, section, index)) (option_map told o) → JudgesStorage d (Err (record { number = number; section = section; index = index }))
some_judged d None number section index judged e = absurd cc
some_judged d (Some f) number section index judged e =
    let same : ◌≡◌ {A = ℕ × Section × ℕ} (number, section, index) (told f) = some_same (number, section, index) (told f) e in
    (f, judged, sym (ap (λ (t : ℕ × Section × ℕ). record { number = t.0; section = t.1; index = t.2 }) same))
