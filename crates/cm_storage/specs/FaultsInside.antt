-- Inside.
-- What is looked for in the storage of a declaration, rule by rule.
use Rattle.cm_decl.specs.declared.decl.Decl.{Decl}
use Rattle.cm_decl.specs.declared.storage.Storage.{Storage}
use Rattle.cm_decl.specs.Breaks.{passes_at}
use Rattle.cm_env.specs.First.{rule}
use Rattle.cm_env.specs.FirstInside.{IsFirstAt}
use Rattle.cm_env.specs.First as first
use Rattle.cm_env.specs.Repeats.{repeats_at}
use Rattle.cm_storage.specs.declared.check.Found.{Found}
use Rattle.cm_storage.specs.Faults.{is_from_nobody, is_to_nobody, is_of_nothing}

-- for each rule the first row that breaks it was found, or that none does
pub record StorageFaultsFound (d : Decl) (f : Found) : Type 0 where
  pub repeated : IsFirstAt (repeats_at (λ (s : Storage). s.name) d.storages) f.repeated
  pub source : IsFirstAt (passes_at (is_from_nobody d) d.storages) f.source
  pub target : IsFirstAt (passes_at (is_to_nobody d) d.storage_offers) f.target
  pub storage : IsFirstAt (passes_at (is_of_nothing d) d.storage_offers) f.storage
