use Rattle.std.proofs.Common.{◌≡◌, [], Option, Some, None, refl, IsTrue, inl, inr, ◌⊎◌}
use Rattle.cm_decl.specs.declared.decl.Decl.{Decl}
use Rattle.cm_decl.specs.Faults.{DeclFault, IsFaultless}
use Rattle.cm_decl.specs.Valid.{IsValid, IsDeclFault, is_well_formed, cycle_fault}
use Rattle.cm_decl.proofs.lemmas.faults.Computed.{first_fault}
use Rattle.cm_decl.proofs.lemmas.faults.FirstFaults.{computes_some, computes_none}
use Rattle.cm_deps.proofs.lemmas.given.Picked.{acyclic_or_picked}

-- a well-formed declaration without a fault at a row is valid, or has the fault of a cycle
judged_by_graph : (d : Decl) → IsTrue (is_well_formed d) → IsFaultless d → IsValid d ⊎ ((f : DeclFault) × IsDeclFault d f)
judged_by_graph d well faultless =
    elim (acyclic_or_picked d []) as (λ _. IsValid d ⊎ ((f : DeclFault) × IsDeclFault d f)) [
      | inl acyclic ↦ inl (record { well_formed = well; faultless = faultless; acyclic = acyclic })
      | inr picked ↦ inr (cycle_fault picked.0, inr (record { faultless = faultless; picked = picked.1; whole = refl }))
    ]

-- a well-formed declaration is valid or has a fault
pub judged : (d : Decl) → IsTrue (is_well_formed d) → IsValid d ⊎ ((f : DeclFault) × IsDeclFault d f)
judged d well = by (first_fault d) refl
  where
    by : (o : Option DeclFault) → first_fault d ≡ o → IsValid d ⊎ ((f : DeclFault) × IsDeclFault d f)
    by None e = judged_by_graph d well (computes_none d e)
    by (Some f) e = inr (f, inl (computes_some d f e))
