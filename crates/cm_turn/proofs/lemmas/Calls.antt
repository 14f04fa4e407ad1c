-- The steps at a seat whose parts are known by equations, as the calls have them.
use Rattle.std.proofs.Common.{◌≡◌, ℕ, ◌+◌, ◌%◌, ◌^◌, ◌<◌, List, [], ◌∷◌, ◌++◌, Some, None, Option, true, false, sym, subst}
use Rattle.std.specs.Prelude.{All, IsSome}
use mathlib.Core.Option.{none}
use Rattle.atomic_table.specs.Table.{Me, step, Allows}
use Rattle.cm_turn.specs.declared.view.SeatView.{SeatView}
use Rattle.cm_turn.specs.Rule.{KeepsRule}
use Rattle.cm_turn.specs.Plays.{Looks, RecordsState, Draws, TakesEmpty, PassesOn, Learns}
use Rattle.cm_turn.proofs.lemmas.Tickets as tickets
use Rattle.cm_turn.proofs.lemmas.RecordsState as records_of

module _ {S E F : Type 0} (story : S → List E) (frame : S → F) (by : E → ℕ) (key : S × ℕ) (slots id : ℕ) (me : Me (Option S) (SeatView E F)) where
  -- As a call has it, a seat with a caller and a pass, but no ticket and no turn, may draw a ticket.
  pub draws : me.1 ≡ [] → me.0.ticket ≡ None → me.0.turn ≡ false → IsSome me.0.caller → 0 < me.0.parts → Allows (KeepsRule story frame by key) slots id me 0 (λ n. (n + 1) % 2 ^ 64) (Draws (step slots 0 1 0 none) me)
  draws bare free idle caller part = subst (λ c. Allows (KeepsRule story frame by key) slots id (me.0, c) 0 (λ n. (n + 1) % 2 ^ 64) (Draws (step slots 0 1 0 none) (me.0, c))) (sym bare) (tickets.draws story frame by key slots id me.0 free idle caller part)

  -- As a call has it, a seat with a ticket, but no turn, may look whether that is served.
  pub looks : (t : ℕ) → me.1 ≡ [] → me.0.ticket ≡ Some t → me.0.turn ≡ false → me.0.fresh ≡ false → Allows (KeepsRule story frame by key) slots id me 1 (λ n. n) (Looks story frame by (step slots 1 0 0 none) me)
  looks t bare waits idle plain = subst (λ c. Allows (KeepsRule story frame by key) slots id (me.0, c) 1 (λ n. n) (Looks story frame by (step slots 1 0 0 none) (me.0, c))) (sym bare) (tickets.looks story frame by key slots id me.0 t waits idle plain)

  -- As a call has it, a seat with the turn may take the slot that is still empty.
  pub takes_empty : me.1 ≡ [] → me.0.turn ≡ true → me.0.fresh ≡ true → Allows (KeepsRule story frame by key) slots id me 1 (λ n. n) (TakesEmpty (step slots 1 0 0 none) me)
  takes_empty bare on fresh = subst (λ c. Allows (KeepsRule story frame by key) slots id (me.0, c) 1 (λ n. n) (TakesEmpty (step slots 1 0 0 none) (me.0, c))) (sym bare) (tickets.takes_empty story frame by key slots id me.0 on fresh)

  -- As a call has it, a seat with the turn and the state may record entries that its caller added.
  pub records : (x : S) (c : ℕ) (es : List E) → me.1 ≡ (0, Some x) ∷ [] → me.0.turn ≡ true → me.0.fresh ≡ false → me.0.caller ≡ Some c → me.0.gathered ≡ [] → story x ≡ me.0.seen ++ es → All (λ e. by e ≡ c) es
      → Allows (KeepsRule story frame by key) slots id me 1 (λ n. n) (RecordsState story frame by (step slots 1 0 0 none) me)
  records x c es has on plain caller bare more alone = subst (λ l. Allows (KeepsRule story frame by key) slots id (me.0, l) 1 (λ n. n) (RecordsState story frame by (step slots 1 0 0 none) (me.0, l))) (sym has) (records_of.records story frame by key slots id me.0 x c es on plain caller bare more alone)

  -- As a call has it, a seat that has seen all of the state's history may pass the turn on.
  pub passes_on : (x : S) → me.1 ≡ (0, Some x) ∷ [] → me.0.turn ≡ true → story x ≡ me.0.seen → me.0.frame ≡ Some (frame x)
      → Allows (KeepsRule story frame by key) slots id me 1 (λ n. (n + 1) % 2 ^ 64) (PassesOn (step slots 1 1 0 none) me)
  passes_on x has on is framed = subst (λ l. Allows (KeepsRule story frame by key) slots id (me.0, l) 1 (λ n. (n + 1) % 2 ^ 64) (PassesOn (step slots 1 1 0 none) (me.0, l))) (sym has) (tickets.passes_on story frame by key slots id me.0 x on is framed)

  -- As a call has it, a seat without the turn may learn what it was told.
  pub learns : me.1 ≡ [] → me.0.turn ≡ false → Allows (KeepsRule story frame by key) slots id me 1 (λ n. n) (Learns story frame by (step slots 1 0 0 none) me)
  learns bare idle = subst (λ c. Allows (KeepsRule story frame by key) slots id (me.0, c) 1 (λ n. n) (Learns story frame by (step slots 1 0 0 none) (me.0, c))) (sym bare) (records_of.learns story frame by key slots id me.0 idle)
