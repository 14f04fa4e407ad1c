-- The laws of what stands between any two steps.
use Rattle.std.proofs.Common.{◌≡◌, ℕ, ◌+◌, ◌-◌, ◌%◌, ◌^◌, ◌≤◌, List, [], ◌∷◌, Some, None, Option, true, false, sym, ap, ◌∙◌, inl, inr, arith}
use Rattle.std.specs.Prelude.{slice_index}
use mathlib.Core.Option.{some, none, some-ne-none, some-injective}
use Rattle.atomic_table.specs.Table.{State}
use Rattle.std.proofs.lemmas.Option.{same_Some}
use Rattle.cm_facts.proofs.Booleans.{true_and_false}
use Rattle.cm_turn.specs.declared.view.SeatView.{SeatView}
use Rattle.cm_turn.specs.Rule.{Homes, KeepsRule, Moment, MomentHolds, tickets_out, ticket_count, left_home}
use Rattle.cm_turn.specs.Laws.{OneTurn, OneCaller, CallersAreMade, OnlyCallersWait, OneTicket, CountsTickets, TicketsFollow, AllAreHeld, OneFrame, HomeFrame, SeenBegins, OutOnlyInTurn, OutInTurn, HomeIsHistory, TurnHasSeenAll, EntriesAreMine, NoOtherEntries}
use Rattle.cm_turn.proofs.lemmas.ViewLists.{total-le}
use Rattle.cm_turn.proofs.lemmas.Moments.{away}

-- the value at home, and whether anything is
home_value : {S : Type 0} → Homes S → mathlib.Core.Option.Option (Option S)
home_value [] = none
home_value (x ∷ xs) = x

-- Two states in the one slot are the same.
home_same : {S : Type 0} (x y : S) (homes : Homes S) → homes ≡ some (Some x) ∷ [] → homes ≡ some (Some y) ∷ [] → x ≡ y
unfolding home_value
home_same x y homes e f = same_Some x y (some-injective (Some x) (Some y) (ap home_value (sym e ∙ f)))

-- A slot that has a state isn't one that a seat with the turn has left.
left_else : {S : Type 0} (b : Rattle.std.specs.Prelude.Bool) (x : S) (homes : Homes S) → homes ≡ some (Some x) ∷ [] → homes ≡ left_home b ∷ [] → ⊥
unfolding home_value
left_else true x homes e f = absurd (cc (some-injective (Some x) None (ap home_value (sym e ∙ f))))
left_else false x homes e f = some-ne-none (Some x) (ap home_value (sym e ∙ f))

module _ {S E F : Type 0} (story : S → List E) (frame : S → F) (by : E → ℕ) (key : S × ℕ) (s : State (Option S) (SeatView E F)) (kept : KeepsRule story frame by key s) where
  -- At most one seat has the turn.
  pub one-turn : OneTurn s
  one-turn i j v u at there on its =
      let a = kept.1.each i v at in
      let b = kept.1.each j u there in
      sym (a.ticket _ (a.turn on).0).0 ∙ (b.ticket _ (b.turn its).0).0

  -- No two seats speak for the same caller.
  pub one-caller : OneCaller s
  one-caller i j c v u at there its also = sym ((kept.1.each i v at).called c its).0 ∙ ((kept.1.each j u there).called c also).0

  -- Each caller's pass was made by the maker.
  pub callers-made : CallersAreMade s
  callers-made i j c v u at there its makes =
      let low = ((kept.1.each i v at).called c its).1 in
      let same = ((kept.1.each j u there).maker makes).1 in
      omega arith

  -- Only a seat that speaks for a caller waits or has the turn, the maker excepted.
  pub only-callers : OnlyCallersWait s
  only-callers i v at nobody plain = (kept.1.each i v at).nameless nobody plain

  -- there are at most 64 tickets
  few_out : tickets_out s.views ≤ 64
  few_out =
      let le : tickets_out s.views ≤ Rattle.cm_turn.specs.Rule.parts_of s.views = total-le (λ (u : SeatView E F). ticket_count u.ticket) (λ (u : SeatView E F). u.parts) s.views (λ i u a. (kept.1.each i u a).paid) in
      let p = kept.1.parts in
      let q = kept.1.few in
      omega arith

  -- The second of the lock's words is the ticket that is served.
  serving_word : slice_index s.words 1 ≡ kept.0.served % 2 ^ 64
  serving_word = ap (λ (ws : List ℕ). slice_index ws 1) kept.1.words_are

  -- No two seats have the same ticket, not even modulo 2^64.
  pub one-ticket : OneTicket s
  one-ticket i j t r v u at there its also same =
      let a = (kept.1.each i v at).ticket t its in
      let b = (kept.1.each j u there).ticket r also in
      let count = kept.1.count in
      let few = few_out in
      let a1 = a.1 in
      let a2 = a.2 in
      let b1 = b.1 in
      let b2 = b.2 in
      let is : t ≡ r = omega arith in
      sym a.0 ∙ (ap kept.0.line is ∙ b.0)

  -- The word for the next ticket is the served one's plus the number of tickets held, modulo 2^64.
  pub counts-tickets : CountsTickets s
  counts-tickets =
      let next : slice_index s.words 0 ≡ kept.0.drawn % 2 ^ 64 = ap (λ (ws : List ℕ). slice_index ws 0) kept.1.words_are in
      let serving = serving_word in
      let count = kept.1.count in
      omega arith

  -- Each ticket that is held is among as many from the served one on, modulo 2^64.
  pub tickets-follow : TicketsFollow s
  tickets-follow i t v at its =
      let a = (kept.1.each i v at).ticket t its in
      let lo = a.1 in
      let hi = a.2 in
      let serving = serving_word in
      let count = kept.1.count in
      (t - kept.0.served, omega arith, omega arith)

  -- Each of as many tickets as are held, from the served one on, is held, modulo 2^64.
  pub all-held : AllAreHeld s
  all-held k lt =
      let count = kept.1.count in
      let serving = serving_word in
      let x = kept.1.queue (kept.0.served + k) (omega arith) (omega arith) in
      (kept.0.line (kept.0.served + k), kept.0.served + k, x.0, x.1, x.2, omega arith)

  -- All seats that know a frame know the lock's.
  pub one-frame : OneFrame (frame key.0) s
  one-frame i v g at its = (kept.1.each i v at).framed g its

  -- The history begins with what each seat has seen, and with what it was told.
  pub seen-begins : SeenBegins kept.0.log s
  seen-begins i v at = ((kept.1.each i v at).seen, (kept.1.each i v at).told)

  -- The state is in the slot where no seat has the turn.
  pub out-only : OutOnlyInTurn s
  out-only idle = elim kept.1.home [
    | inl x ↦ (x.0, x.1)
    | inr x ↦ true_and_false _ x.3 (idle x.0 x.1 x.2)
  ]

  -- The state isn't in the slot while a seat has the turn.
  pub out-in-turn : OutInTurn s
  out-in-turn i v at on = away story frame by (frame key.0) key.1 kept.0 s.words s.homes s.views i v kept.1 at on

  -- The state in the slot has the lock's frame.
  pub home-frame : HomeFrame frame (frame key.0) s
  home-frame y here = elim kept.1.home [
    | inl x ↦ ap frame (home_same y x.0 s.homes here x.1) ∙ x.3
    | inr x ↦ absurd (left_else x.1.fresh y s.homes here x.4)
  ]

  -- The state in the slot has the whole history.
  pub home-is-history : HomeIsHistory story kept.0.log s
  home-is-history y here = elim kept.1.home [
    | inl x ↦ ap story (home_same y x.0 s.homes here x.1) ∙ x.2
    | inr x ↦ absurd (left_else x.1.fresh y s.homes here x.4)
  ]

  -- The seat with the turn has seen the whole history.
  pub turn-has-seen : TurnHasSeenAll kept.0.log s
  turn-has-seen i v at on = ((kept.1.each i v at).turn on).1

  -- The entries of each caller in the history are those that its seat knows as its own.
  pub entries-mine : EntriesAreMine by kept.0.log s
  entries-mine i c v at its = ((kept.1.each i v at).called c its).2

  -- No entry is of a caller whose pass isn't made yet.
  pub no-others : NoOtherEntries by kept.0.log s
  no-others i c v at makes le =
      let made = ((kept.1.each i v at).maker makes).1 in
      kept.1.none_else c (omega arith)
