-- Where nothing was run.
use Rattle.std.proofs.Common.{◌≡◌, ℕ, List, [], Option, refl, sym, ap, subst, ◌∙◌}
use Rattle.std.proofs.Math.Nat.{le_refl}
use Rattle.std.specs.List.{slice_get}
use Rattle.cm_world.specs.declared.frame.Frame.{Frame}
use Rattle.cm_world.specs.declared.reply.Entry.{Entry}
use Rattle.cm_world.specs.World.{start}
use Rattle.cm_world.specs.Legal.{Legal}
use Rattle.cm_world.proofs.lemmas.trees.Finding.{some_same}
use Rattle.cm_cache.specs.Keeping.{IsKeptNumber}
use Rattle.cm_cache.specs.Keeping as keeping
use Rattle.cm_gate.specs.declared.asked.GateCall.{GateCall}
use Rattle.cm_gate.proofs.lemmas.Logs.{grew_nothing, rose_nothing}
use Rattle.cm_laws.proofs.lemmas.AllLaws.{histories_keep_laws}
use Rattle.cm_manager.specs.Closed.{HasEnds}
use Rattle.cm_manager.specs.Turns.{own_entries}
use Rattle.cm_manager.specs.Work.{Manifests, WorksWith, nothing}
use Rattle.cm_manager.proofs.lemmas.left.HavingEnds.{none_has_ends}
use Rattle.cm_program.specs.Headline.{EndsWell, WorksEach}

-- An empty history is legal.
pub nothing_legal : (f : Frame) → Legal (start f) []
nothing_legal f = tt

-- In an empty history each action that is begun has its end.
pub nothing_ends : (history : List Entry) → history ≡ [] → HasEnds history
nothing_ends history none = subst HasEnds (sym none) none_has_ends

-- In an empty history no answer to a use was kept.
pub nothing_kept : (f : Frame) (history : List Entry) → history ≡ [] → IsKeptNumber f history 0
nothing_kept f history none = subst (λ (l : List Entry). IsKeptNumber f l 0) (sym none) (keeping.nothing, refl, refl)

-- A legal history in which each action that is begun has its end ends well.
pub ends_well : (f : Frame) (history : List Entry) → Legal (start f) history → HasEnds history → EndsWell f history
ends_well f history legal ends = record { laws = histories_keep_laws f history legal; ends = ends }

module _ {G : Type 0} (log_of : G → Option (List GateCall)) (faults_of : G → ℕ) where
  -- gates that were asked nothing
  pub works_nothing : (manifests : Manifests) (history : List Entry) (gates₀ gates₁ : List G) → history ≡ [] → gates₁ ≡ gates₀ → WorksEach log_of faults_of manifests history gates₀ gates₁
  works_nothing manifests history gates₀ gates₁ none same k g h at now =
      let is : g ≡ h = some_same g h (sym at ∙ ap (λ (l : List G). slice_get l k) (sym same) ∙ now) in
      subst (λ (x : G). WorksWith manifests (own_entries k history) (log_of g) (log_of x) (faults_of g) (faults_of x)) is
      (subst (λ (l : List Entry). WorksWith manifests (own_entries k l) (log_of g) (log_of g) (faults_of g) (faults_of g)) (sym none)
      (record { asked = []; works = nothing; log = grew_nothing (log_of g); faults = rose_nothing (faults_of g) (faults_of g) (le_refl (faults_of g)) }))
