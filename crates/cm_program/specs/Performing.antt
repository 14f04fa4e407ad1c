-- Inside.
-- What the lanes made of a script, before anything is printed.
use Rattle.std.specs.Prelude.{◌≡◌, ℕ, List, map, flat_map, Option, IfSome}
use Rattle.cm_world.specs.declared.frame.Frame.{Frame}
use Rattle.cm_cache.specs.Keeping.{IsKeptNumber}
use Rattle.cm_command.specs.declared.script.Line.{Line}
use Rattle.cm_gate.specs.declared.asked.GateCall.{GateCall}
use Rattle.cm_manager.specs.Closed.{HasEnds}
use Rattle.cm_manager.specs.Work.{Manifests}
use Rattle.cm_lanes.specs.Script.{AnsweredLine}
use Rattle.cm_lanes.specs.ScriptInside.{said_of}
use Rattle.cm_program.specs.Headline.{MakesHistory, WorksEach}
use Rattle.cm_program.specs.declared.performing.LanesResult.{LanesResult}

module _ {G : Type 0} (log_of : G → Option (List GateCall)) (faults_of : G → ℕ) where
  -- the lines of all phases were performed: this is the history, this many of its answers to uses were
  -- cache hits, and these are the gates and, where there was memory for them, the answers
  pub record RunsPhases
      (manifests : Manifests) (f : Frame) (phases : List (List Line)) (gates₀ : List G) (done : LanesResult G)
      : Type 0 where
    pub answered : List (List AnsweredLine)
    pub makes : MakesHistory f phases answered done.book.entries
    pub ends : HasEnds done.book.entries
    pub kept : IsKeptNumber f done.book.entries done.kept
    pub work : WorksEach log_of faults_of manifests done.book.entries gates₀ done.gates
    pub said : IfSome done.said (λ said. said ≡ flat_map (λ phase. map said_of phase) answered)
