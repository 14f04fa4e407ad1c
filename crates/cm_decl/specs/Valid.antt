-- Promised.
-- Which declarations are valid, and the fault of one that isn't.
use Rattle.std.specs.Prelude.{◌≡◌, List, [], Bool, true, false, not, ◌&&◌, None, is_none, IsTrue, ◌⊎◌}
use Rattle.std.specs.List.{list_all}
use Rattle.cm_decl.specs.declared.decl.Decl.{Decl}
use Rattle.cm_decl.specs.declared.origin.Origin.{Origin}
use Rattle.cm_decl.specs.declared.origin.Origin.TheVariants.{Parent, Own, Child, Void}
use Rattle.cm_decl.specs.declared.environment.Registration.{Registration}
use Rattle.cm_decl.specs.declared.environment.Environment.{Environment}
use Rattle.cm_decl.specs.declared.node.Node.{Node}
use Rattle.cm_decl.specs.declared.section.Section.TheVariants.{Graph}
use Rattle.cm_decl.specs.Graph.{is_strong_edge, StrongOn}
use Rattle.cm_decl.specs.Reach.{NoCycle}
use Rattle.cm_decl.specs.Cycle.{IsPickedCycle}
use Rattle.cm_decl.specs.Faults.{DeclFault, IsFirst, IsFaultless}

-- whether a source is the void, which gives nothing on purpose
abbrev pub is_void : Origin → Bool
is_void Void = true
is_void _ = false

-- whether a source is the parent of the component
abbrev pub is_parent : Origin → Bool
is_parent Parent = true
is_parent _ = false

-- whether a source may be that of a registration or a storage: the parent, the component itself or a
-- declared child
abbrev pub is_static_source : Origin → Bool
is_static_source Parent = true
is_static_source Own = true
is_static_source (Child c) = is_none c.coll
is_static_source _ = false

-- whether a source may be that of an offered storage: the parent, the component itself or void
abbrev pub is_storage_source : Origin → Bool
is_storage_source Parent = true
is_storage_source Own = true
is_storage_source Void = true
is_storage_source _ = false

-- whether all these registrations have a source that they may have
abbrev pub are_registrations : List Registration → Bool
are_registrations rs = list_all (λ r. is_static_source r.from) rs

-- whether all registrations of an environment have a source that they may have
abbrev pub is_environment : Environment → Bool
is_environment e = are_registrations e.runners && are_registrations e.debug

-- whether environments and storage have sources that they may have
abbrev pub is_further_formed : Decl → Bool
is_further_formed d =
    list_all is_environment d.environments
    && (list_all (λ s. is_static_source s.from) d.storages
    && list_all (λ o. is_storage_source o.from) d.storage_offers)

-- whether all sources are of the sorts that their sections allow: no use is from void, no expose from
-- the parent, and environments and storage have theirs
abbrev pub is_well_formed : Decl → Bool
is_well_formed d =
    list_all (λ u. not (is_void u.from)) d.uses
    && (list_all (λ g. not (is_parent g.from)) d.exposes && is_further_formed d)

-- a valid declaration: its sources are allowed, no row breaks a rule, and its realm graph has no cycle
-- of strong edges
pub record IsValid (d : Decl) : Type 0 where
  pub well_formed : IsTrue (is_well_formed d)
  pub faultless : IsFaultless d
  pub acyclic : NoCycle (StrongOn d [])

-- the fault of a declaration whose realm graph has a cycle; it is told of no row
abbrev pub cycle_fault : List Node → DeclFault
cycle_fault cycle = record { number = 58; section = Graph; index = 0; against = None; cycle = cycle }

-- no row breaks a rule, and the fault tells the picked cycle of the realm graph
pub record IsCycleFault (d : Decl) (f : DeclFault) : Type 0 where
  pub faultless : IsFaultless d
  pub picked : IsPickedCycle (is_strong_edge d []) f.cycle
  pub whole : f ≡ cycle_fault f.cycle

-- the fault that is told of a declaration: the first of its rows, else the cycle
abbrev pub IsDeclFault : Decl → DeclFault → Type 0
IsDeclFault d f = IsFirst d f ⊎ IsCycleFault d f
