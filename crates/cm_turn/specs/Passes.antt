-- Promised.
-- What contracts see of a lock, of its passes and of a turn. A lock keeps a state and its history;
-- each caller has one pass, by which it takes its turns.
use Rattle.std.specs.Prelude.{◌≡◌, ℕ, zero, suc, ◌<◌, List, [], ◌∷◌, ◌++◌, All, length, Option, Some, IsSome}
use Rattle.std.specs.Prelude.{slice_get}
use Rattle.atomic_table.specs.Seated.{TableId}
use Rattle.cm_turn.specs.declared.view.SeatView.{SeatView}
use Rattle.cm_turn.specs.declared.view.Known.{Known}
use Rattle.cm_turn.specs.History.{StartsWith, entries_by}
use Rattle.cm_turn.specs.Views.{spent_view, idle_view, holding_view}

-- a pass: its lock, what the lock was made with (the frame), its caller's number, as much of the
-- history as it has seen, and its caller's own entries in it
pub record PassView (E F : Type 0) : Type 0 where
  pub lock : TableId
  pub frame : Option F
  pub caller : ℕ
  pub seen : List E
  pub mine : List E

-- a lock, and how many passes it has
pub record LockView : Type 0 where
  pub lock : TableId
  pub passes : ℕ

-- a turn that is held: the state, and the pass that entered, which has seen the list that was found
pub record HeldView (S E F : Type 0) : Type 0 where
  pub state : S
  pub pass : PassView E F

-- the turn with another state, as the holder leaves it
abbrev pub with_state : {S E F : Type 0} → HeldView S E F → S → HeldView S E F
with_state h s = record { state = s; pass = h.pass }

module _ {E F : Type 0} where
  -- a new pass has seen nothing
  abbrev pub new_pass : TableId → F → ℕ → PassView E F
  new_pass lock f c = record { lock = lock; frame = Some f; caller = c; seen = []; mine = [] }

  -- the new passes of the callers below n, in order
  abbrev pub new_passes : TableId → F → ℕ → List (PassView E F)
  new_passes lock f zero = []
  new_passes lock f (suc n) = new_passes lock f n ++ new_pass lock f n ∷ []

  -- the pass with this in the place of what it had seen
  abbrev pub seen_up_to : List E → PassView E F → PassView E F
  seen_up_to seen p = record p { seen = seen }

  -- a pass knows all entries of its caller in what it has seen as its own
  abbrev pub IsOwn : (E → ℕ) → PassView E F → Type 0
  IsOwn by p = entries_by by p.caller p.seen ≡ p.mine

  -- the second pass is of the same lock and caller as the first
  abbrev pub IsPassOf : PassView E F → PassView E F → Type 0
  IsPassOf p q = (q.lock ≡ p.lock) × (q.caller ≡ p.caller)

  -- one of the passes is the caller's
  abbrev pub HasCaller : List (PassView E F) → ℕ → Type 0
  HasCaller passes c = (k : ℕ) × (p : PassView E F) × (slice_get passes k ≡ Some p) × (p.caller ≡ c)

  -- these are all passes of the lock, each once
  abbrev pub AreAll : LockView → List (PassView E F) → Type 0
  AreAll l passes =
      All (λ p. p.lock ≡ l.lock) passes × (length passes ≡ l.passes)
      × ((c : ℕ) → c < l.passes → HasCaller passes c)

-- what a pass knows is true of the state: its frame, what it has seen, and that its caller's entries
-- are its own
abbrev pub BearsPassOut : {S E F : Type 0} → (S → List E) → (S → F) → (E → ℕ) → S → PassView E F → Type 0
BearsPassOut story frame by s p =
    (p.frame ≡ Some (frame s)) × StartsWith (story s) p.seen × (entries_by by p.caller (story s) ≡ p.mine)

-- ---- a turn

module _ {S E F : Type 0} (story : S → List E) where
  -- the pass that had this turn has seen the whole history then, and what was added to it is its
  -- caller's own
  pub record LeavesTurn (by : E → ℕ) (h : HeldView S E F) (p : PassView E F) : Type 0 where
    pub lock : p.lock ≡ h.pass.lock
    pub frame : p.frame ≡ h.pass.frame
    pub caller : p.caller ≡ h.pass.caller
    pub seen : p.seen ≡ story h.state
    pub own : IsOwn by p
    pub mine : (es : List E) → story h.state ≡ h.pass.seen ++ es → p.mine ≡ h.pass.mine ++ es

  -- the pass has entered this turn: what it knows is true of the state that it found, and it has seen
  -- the whole history now
  pub record Enters (frame_of : S → F) (by : E → ℕ) (p : PassView E F) (h : HeldView S E F) : Type 0 where
    pub pass : h.pass ≡ seen_up_to (story h.state) p
    pub frame : p.frame ≡ Some (frame_of h.state)
    pub begins : StartsWith (story h.state) p.seen
    pub own : entries_by by p.caller (story h.state) ≡ p.mine
    pub known : IsOwn by p

-- How the values of this crate are seen.
module _ {E F : Type 0} where
  -- the view of a seat that is alone in its list
  abbrev pub view_in : List (SeatView E F) → SeatView E F
  view_in [] = spent_view
  view_in (v ∷ vs) = v

  -- a pass of this lock, by its caller's number and its seat's view
  abbrev pub pass_of : TableId → ℕ → SeatView E F → PassView E F
  pass_of lock number v =
      record { lock = lock; frame = v.frame; caller = number; seen = v.seen; mine = v.mine }

  -- what a pass knows, as one that is taken back hands it over
  abbrev pub known_as : PassView E F → Known E F
  known_as p = record { frame = p.frame; caller = p.caller; seen = p.seen; mine = p.mine }

  -- the view of caller c's pass outside of turns
  abbrev pub IsIdle : ℕ → SeatView E F → Type 0
  IsIdle c v = (v ≡ idle_view v.frame c v.seen v.mine) × IsSome v.frame

  -- the views of a pass's one seat, outside of turns
  abbrev pub IsPass : ℕ → List (SeatView E F) → Type 0
  IsPass c views = (views ≡ view_in views ∷ []) × IsIdle c (view_in views)

  -- the view of caller c's pass while it has the turn, which has seen all entries of its caller and no
  -- others of it
  abbrev pub IsHolding : (E → ℕ) → ℕ → SeatView E F → Type 0
  IsHolding by c v =
      ((t : ℕ) × (v ≡ holding_view t v.frame c v.seen v.mine)) × (entries_by by c v.seen ≡ v.mine)

-- a lock's table has two words, the next ticket and the served one, and one slot, for the state
abbrev pub IsLockTable : TableId → Type 0
IsLockTable z = (z.words ≡ 2) × (z.slots ≡ 1)
