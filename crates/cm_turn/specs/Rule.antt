-- Inside.
-- The rule of the lock's table, which holds between any two steps. Tickets are served in turn; the
-- seat whose ticket is served has the state.
use Rattle.std.specs.Prelude.{◌≡◌, ℕ, ◌+◌, ◌%◌, ◌^◌, ◌<◌, ◌≤◌, ◌⊎◌, Bool, true, false, List, [], ◌∷◌, Option}
use Rattle.std.specs.Prelude.{Some, None}
use mathlib.Core.Option.{some, none}
use lib.ListN.{get_elem?}
use Rattle.atomic_table.specs.Table.{State}
use Rattle.cm_turn.specs.declared.view.SeatView.{SeatView}
use Rattle.cm_turn.specs.declared.view.Known.{Known}
use Rattle.cm_turn.specs.History.{StartsWith, entries_by}

-- how many tickets a view has: one or none
abbrev pub ticket_count : Option ℕ → ℕ
ticket_count None = 0
ticket_count (Some t) = 1

-- the sum of a number over all items
abbrev pub total : {V : Type 0} → (V → ℕ) → List V → ℕ
total f [] = 0
total f (v ∷ vs) = f v + total f vs

-- how many tickets all seats have
abbrev pub tickets_out : {E F : Type 0} → List (SeatView E F) → ℕ
tickets_out views = total (λ v. ticket_count v.ticket) views

-- how many passes all seats stand for, made or still to be made
abbrev pub parts_of : {E F : Type 0} → List (SeatView E F) → ℕ
parts_of views = total (λ v. v.parts) views

-- what isn't in the table itself at one moment, such as the whole history; tickets are counted here
-- without end
pub record Moment (E : Type 0) : Type 0 where
  -- how many tickets were drawn
  pub drawn : ℕ
  -- the ticket that is served
  pub served : ℕ
  -- which seat has a ticket
  pub line : ℕ → ℕ
  -- which seat speaks for a caller
  pub seat : ℕ → ℕ
  -- the maker's seat
  pub making : ℕ
  -- how many passes are made
  pub made : ℕ
  -- the history
  pub log : List E

-- ticket t is held by the seat to which it was given
abbrev pub IsHeld : {E F : Type 0} → Moment E → List (SeatView E F) → ℕ → Type 0
IsHeld {E} {F} m views t = (v : SeatView E F) × (get_elem? views (m.line t) ≡ some v) × (v.ticket ≡ Some t)

-- each ticket that was drawn and hasn't been served yet is held
abbrev pub IsQueue : {E F : Type 0} → Moment E → List (SeatView E F) → Type 0
IsQueue m views = (t : ℕ) → m.served ≤ t → t < m.drawn → IsHeld m views t

-- what each slot has: none where a seat has taken it, else its value, which is a state or nothing yet
abbrev pub Homes : Type 0 → Type 0
Homes S = List (mathlib.Core.Option.Option (Option S))

-- what is in the slot while a seat has the turn: nothing yet until the maker takes it, and none
-- afterwards
abbrev pub left_home : {S : Type 0} → Bool → mathlib.Core.Option.Option (Option S)
left_home true = some None
left_home false = none

-- seat i stands for caller c: that pass is made, and `mine` are the caller's entries in the history
abbrev pub SpeaksFor : {E : Type 0} → (E → ℕ) → Moment E → ℕ → ℕ → List E → Type 0
SpeaksFor by m i c mine = (m.seat c ≡ i) × (c < m.made) × (entries_by by c m.log ≡ mine)

module _ {S E F : Type 0} where
  -- the state is in the slot: it has the history and the frame, and no seat has the turn
  abbrev pub IsHome : (S → List E) → (S → F) → F → List E → Homes S → List (SeatView E F) → Type 0
  IsHome story frame f log homes views =
      (s : S) × (homes ≡ some (Some s) ∷ []) × (story s ≡ log) × (frame s ≡ f)
      × ((i : ℕ) (v : SeatView E F) → get_elem? views i ≡ some v → v.turn ≡ false)

  -- the state is out: some seat has the turn
  abbrev pub IsOut : Homes S → List (SeatView E F) → Type 0
  IsOut homes views =
      (i : ℕ) × (v : SeatView E F) × (get_elem? views i ≡ some v) × (v.turn ≡ true)
      × (homes ≡ left_home v.fresh ∷ [])

module _ {S E F : Type 0} (story : S → List E) (frame : S → F) (by : E → ℕ) where
  -- the rule for one view: v is that of seat i, at a lock with the frame f and n passes
  pub record FitsView (f : F) (n : ℕ) (m : Moment E) (i : ℕ) (v : SeatView E F) : Type 0 where
    -- a frame that it knows is the lock's
    pub framed : (g : F) → v.frame ≡ Some g → g ≡ f
    -- the history begins with what it has seen
    pub seen : StartsWith m.log v.seen
    -- the history begins with what it was told
    pub told : StartsWith m.log v.told
    -- it speaks for its caller
    pub called : (c : ℕ) → v.caller ≡ Some c → SpeaksFor by m i c v.mine
    -- it has seen each entry of its caller
    pub own : (c : ℕ) → v.caller ≡ Some c → entries_by by c v.seen ≡ v.mine
    -- with no caller it has neither ticket nor turn, the maker excepted
    pub nameless : v.caller ≡ None → v.makes ≡ false → (v.ticket ≡ None) × (v.turn ≡ false)
    -- it speaks for each pass that it has taken in, and what that pass had seen begins the history
    pub gathered : (k : ℕ) (g : Known E F) → get_elem? v.gathered k ≡ some g
        → SpeaksFor by m i g.caller g.mine × StartsWith m.log g.seen × ((x : F) → g.frame ≡ Some x → x ≡ f)
    -- its ticket is its own, is drawn, and isn't past
    pub ticket : (t : ℕ) → v.ticket ≡ Some t → (m.line t ≡ i) × (m.served ≤ t) × (t < m.drawn)
    -- it has at most as many tickets as passes, so there are never more than n tickets
    pub paid : ticket_count v.ticket ≤ v.parts
    -- with the turn, it has the ticket that is served, and has seen the whole history
    pub turn : v.turn ≡ true → (v.ticket ≡ Some m.served) × (v.seen ≡ m.log)
    -- the maker is one seat, knows how many passes are made, and has the others yet to make
    pub maker : v.makes ≡ true → (m.making ≡ i) × (v.made ≡ m.made) × (m.made + v.parts ≡ n)

  -- the rule for one moment, of the table's words, of what is in the slot, and of all views
  pub record MomentHolds (f : F) (n : ℕ) (m : Moment E) (words : List ℕ) (homes : Homes S)
      (views : List (SeatView E F)) : Type 0 where
    -- the words are the next ticket and the one that is served
    pub words_are : words ≡ (m.drawn % 2 ^ 64) ∷ (m.served % 2 ^ 64) ∷ []
    -- as many tickets are held as are drawn and not yet past
    pub count : m.drawn ≡ m.served + tickets_out views
    -- and each of these is held
    pub queue : IsQueue m views
    -- the views have n passes among them, made or to be made
    pub parts : parts_of views ≡ n
    -- there are at most 64 passes
    pub few : n ≤ 64
    -- no more passes are made than there are
    pub made : m.made ≤ n
    -- no entry has a caller whose pass isn't made
    pub none_else : (c : ℕ) → m.made ≤ c → entries_by by c m.log ≡ []
    -- each view fits
    pub each : (i : ℕ) (v : SeatView E F) → get_elem? views i ≡ some v → FitsView f n m i v
    -- the state is at home, or out with a view that has the turn
    pub home : IsHome story frame f m.log homes views ⊎ IsOut homes views

  -- the rule: at each time there is such a moment. The key has the first state, whose frame is the
  -- lock's, and the number of passes
  abbrev pub KeepsRule : S × ℕ → State (Option S) (SeatView E F) → Type 0
  KeepsRule key s = (m : Moment E) × MomentHolds (frame key.0) key.1 m s.words s.homes s.views
