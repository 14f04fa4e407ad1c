-- Inside.
-- How the first fault is found: by the first row of each rule that has it.
use Rattle.std.specs.Prelude.{ℕ, ◌<◌, List, [], ◌∷◌, Bool, Option, Some, None, IsTrue}
use Rattle.cm_decl.specs.declared.section.Section.{Section}
use Rattle.cm_env.specs.declared.first.ParentLook.{ParentLook}
use Rattle.cm_env.specs.First.{Fault}

-- a fault, of its parts
abbrev pub fault : ℕ → Section → ℕ → Fault
fault number section index = record { number = number; section = section; index = index }

-- the first index that passes a test, or none
abbrev pub IsFirstAt : (ℕ → Bool) → Option ℕ → Type 0
IsFirstAt test None = (i : ℕ) → IsTrue (test i) → ⊥
IsFirstAt test (Some i) = IsTrue (test i) × ((j : ℕ) → j < i → IsTrue (test j) → ⊥)

-- the fault of the first of these rules by which a row was found; they are in the order of telling
abbrev pub first_found : List ParentLook → Option Fault
first_found [] = None
first_found (l ∷ ls) = elim l.row as (λ _. Option Fault) [
  | Some i ↦ Some (fault l.number l.section i)
  | None ↦ first_found ls
]
