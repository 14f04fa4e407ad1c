-- Inside.
-- What comes back of running a script in lanes.
use Rattle.std.specs.Prelude.{◌≡◌, ◌⊎◌, ℕ, List, map, flat_map, All, Option, None, IfSome}
use Rattle.cm_world.specs.declared.reply.Entry.{Entry}
use Rattle.cm_command.specs.declared.script.Line.{Line}
use Rattle.cm_gate.specs.declared.asked.GateCall.{GateCall}
use Rattle.cm_manager.specs.Work.{Manifests}
use Rattle.cm_manager.specs.Contract.{RealmPass}
use Rattle.cm_lanes.specs.declared.said.Lanes.{Lanes}
use Rattle.cm_lanes.specs.Script.{AnsweredLine, answered_lines, ArePhases}
use Rattle.cm_lanes.specs.ScriptInside.{said_of}
use Rattle.cm_manager.specs.Kept.{ExtendsPass, KeepsEach, frame_at}

module _ {G : Type 0} (log_of : G → Option (List GateCall)) (faults_of : G → ℕ) where
  -- all lines of the script were performed, phase by phase; before the first phase and after each, all
  -- passes were brought to the same place of the history
  pub record RanLanes (manifests : Manifests) (phases : List (List Line)) (passes : List RealmPass)
      (gates : List G)
      (back : Lanes G) : Type 0 where
    pub first : List Entry
    pub last : List Entry
    pub begins : All (ExtendsPass first) passes
    pub answered : List (List AnsweredLine)
    pub lines : map answered_lines answered ≡ phases
    pub performed : ArePhases (frame_at passes) answered first last
    pub met : All (λ q. q.seen ≡ last) back.passes
    pub kept : KeepsEach log_of faults_of manifests passes back.passes gates back.gates
    pub said : IfSome back.said (λ said. said ≡ flat_map (λ p. map said_of p) answered)

  -- nothing was done, for lack of memory: all that was given comes back as it was
  pub record IsUntouched (passes : List RealmPass) (gates : List G) (back : Lanes G) : Type 0 where
    pub same_passes : back.passes ≡ passes
    pub same_gates : back.gates ≡ gates
    pub nothing : back.said ≡ None

  -- all lines were performed, or nothing was done for lack of memory
  abbrev pub RanOrNot : Manifests → List (List Line) → List RealmPass → List G → Lanes G → Type 0
  RanOrNot manifests phases passes gates back = RanLanes manifests phases passes gates back
      ⊎ IsUntouched passes gates back
