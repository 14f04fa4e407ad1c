-- Inside.
-- What performing commands keeps of a pass and of its gates.
use Rattle.std.specs.Prelude.{◌≡◌, ℕ, List, ◌++◌, Option, Some, None, map, All, length, slice_get}
use Rattle.std.specs.List.{range_with_len}
use Rattle.cm_turn.specs.History.{StartsWith}
use Rattle.cm_turn.specs.Passes.{LockView}
use Rattle.cm_world.specs.declared.frame.Frame.{Frame}
use Rattle.cm_world.specs.declared.reply.Entry.{Entry}
use Rattle.cm_gate.specs.declared.asked.GateCall.{GateCall}
use Rattle.cm_manager.specs.Turns.{own_entries}
use Rattle.cm_manager.specs.Asking.{no_frame, frame_of}
use Rattle.cm_manager.specs.ClosedInside.{IsClosed}
use Rattle.cm_manager.specs.Work.{Manifests, WorksWith}
use Rattle.cm_manager.specs.Contract.{RealmPass, GatesView}
pub use Rattle.cm_manager.specs.Gated.{gates_view}

-- the passes of this lock for the sixteen callers, in order from 0 on
pub record AreSixteen (turn : LockView) (passes : List RealmPass) : Type 0 where
  pub lock : All (λ p. p.lock ≡ turn.lock) passes
  pub callers : map (λ p. p.caller) passes ≡ range_with_len 0 16

-- a pass knows all entries of its caller in what it has seen as its own
abbrev pub IsOwnPass : RealmPass → Type 0
IsOwnPass p = own_entries p.caller p.seen ≡ p.mine

-- what the realm of the pass at place k was made with
abbrev pub frame_at : List RealmPass → ℕ → Frame
frame_at passes k = elim (slice_get passes k) as (λ _. Frame) [ None ↦ no_frame | Some p ↦ frame_of p ]

-- the pass is the same one and has seen more, and its new entries are whole calls, with the work of
-- its gates
pub record KeepsPass (manifests : Manifests) (old new : RealmPass) (gates₀ gates₁ : GatesView) : Type 0 where
  pub lock : new.lock ≡ old.lock
  pub frame : new.frame ≡ old.frame
  pub caller : new.caller ≡ old.caller
  pub seen : StartsWith new.seen old.seen
  pub own : new.mine ≡ own_entries new.caller new.seen
  pub part : List Entry
  pub mine : new.mine ≡ old.mine ++ part
  pub closed : IsClosed part
  pub work : WorksWith manifests part gates₀.log gates₁.log gates₀.faults gates₁.faults

-- a history goes on from what a pass has seen, with no further entry of its caller
pub record ExtendsPass (history : List Entry) (p : RealmPass) : Type 0 where
  pub grows : StartsWith history p.seen
  pub own : own_entries p.caller history ≡ p.mine

module _ {G : Type 0} (log_of : G → Option (List GateCall)) (faults_of : G → ℕ) where
  -- each pass and its gates are kept so, in their order
  pub record KeepsEach (manifests : Manifests) (old new : List RealmPass)
      (gates₀ gates₁ : List G) : Type 0 where
    pub passes : length new ≡ length old
    pub gates : length gates₁ ≡ length gates₀
    pub each : (k : ℕ) (p q : RealmPass) (g h : G) → slice_get old k ≡ Some p → slice_get new k ≡ Some q
        → slice_get gates₀ k ≡ Some g → slice_get gates₁ k ≡ Some h
        → KeepsPass manifests p q (gates_view log_of faults_of g) (gates_view log_of faults_of h)
