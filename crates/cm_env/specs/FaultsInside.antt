-- Inside.
-- What is looked for in the environments of a declaration, rule by rule.
use Rattle.cm_decl.specs.declared.decl.Decl.{Decl}
use Rattle.cm_decl.specs.declared.environment.Environment.{Environment}
use Rattle.cm_decl.specs.Breaks.{passes_at}
use Rattle.cm_decl.specs.declared.environment.DebugUse.{DebugUse}
use Rattle.cm_decl.specs.declared.rows.Child.{Child}
use Rattle.cm_decl.specs.declared.rows.Collection.{Collection}
use Rattle.cm_decl.specs.declared.rows.Usage.{Usage}
use Rattle.cm_env.specs.declared.check.FirstRows.{FirstRows}
use Rattle.cm_env.specs.First.{rule}
use Rattle.cm_env.specs.FirstInside.{IsFirstAt}
use Rattle.cm_env.specs.First as first
use Rattle.cm_env.specs.Repeats.{meets_at, repeats_at}
use Rattle.cm_env.specs.Faults.{is_undeclared_environment, repeats_target, registers_from_nobody}

-- for each rule the first row that breaks it was found, or that none does
pub record EnvFaultsFound (d : Decl) (f : FirstRows) : Type 0 where
  pub repeated : IsFirstAt (repeats_at (λ (e : Environment). e.name) d.environments) f.repeated
  pub in_child : IsFirstAt
      (passes_at (λ (k : Child). is_undeclared_environment d k.environment) d.children) f.in_child
  pub in_collection : IsFirstAt
      (passes_at (λ (k : Collection). is_undeclared_environment d k.environment) d.collections)
      f.in_collection
  pub target : IsFirstAt (passes_at repeats_target d.environments) f.target
  pub source : IsFirstAt (passes_at (registers_from_nobody d) d.environments) f.source
  pub path :
      IsFirstAt (meets_at (λ (u : Usage). u.path) (λ (u : DebugUse). u.path) d.uses d.debug_uses) f.path
