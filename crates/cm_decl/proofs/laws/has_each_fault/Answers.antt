use Rattle.std.proofs.Common.{refl, inl}
use Rattle.cm_decl.proofs.lemmas.faults.FirstFaults.{computes_some}
use Rattle.cm_decl.proofs.laws.has_each_fault.Goals as goal

pub returns-clause-repeated_name : goal.returns-clause-repeated_name
returns-clause-repeated_name c = inl (computes_some _ _ refl)

pub returns-clause-unknown_ref : goal.returns-clause-unknown_ref
returns-clause-unknown_ref c = inl (computes_some _ _ refl)

pub returns-clause-not_declared : goal.returns-clause-not_declared
returns-clause-not_declared c = inl (computes_some _ _ refl)

pub returns-clause-target_is_source : goal.returns-clause-target_is_source
returns-clause-target_is_source c = inl (computes_some _ _ refl)

pub returns-clause-repeated_target : goal.returns-clause-repeated_target
returns-clause-repeated_target c = inl (computes_some _ _ refl)

pub returns-clause-repeated_path : goal.returns-clause-repeated_path
returns-clause-repeated_path c = inl (computes_some _ _ refl)

pub returns-clause-path_inside : goal.returns-clause-path_inside
returns-clause-path_inside c = inl (computes_some _ _ refl)

pub returns-clause-required_void : goal.returns-clause-required_void
returns-clause-required_void c = inl (computes_some _ _ refl)

pub returns-clause-first_of_two : goal.returns-clause-first_of_two
returns-clause-first_of_two c = inl (computes_some _ _ refl)
