-- Facts about one moment that many steps use.
use Rattle.std.proofs.Common.{◌≡◌, ◌⊎◌, ℕ, ◌+◌, ◌%◌, ◌^◌, List, [], ◌∷◌, ◌++◌, length, set, Some, true, false, refl, sym, ap, ◌∙◌, inl, inr, arith}
use Rattle.std.specs.Prelude.{slice_index, slice_set}
use mathlib.Core.Option.{some, some-ne-none, some-injective}
use mathlib.Core.Logic.{dite}
use native.Mathlib.Decide.{ℕ_discrete}
use lib.ListN.{get_elem?}
use Rattle.atomic_table.proofs.Lists.{set_else, at_longer}
use Rattle.cm_facts.proofs.Booleans.{true_and_false}
use Rattle.cm_turn.specs.declared.view.SeatView.{SeatView}
use Rattle.cm_turn.specs.Views.{spent_view}
use Rattle.cm_turn.specs.Rule.{Homes, total, ticket_count, Moment, left_home, IsHeld, IsQueue, FitsView, MomentHolds, IsHome, IsOut}
use Rattle.cm_turn.proofs.lemmas.ViewLists.{each_set, each_snoc, set_at, total-set, total-snoc}

-- the words stay where one of them is only read
pub same_word : {E : Type 0} (m : Moment E) (ws : List ℕ) → ws ≡ (m.drawn % 2 ^ 64) ∷ (m.served % 2 ^ 64) ∷ [] → slice_set ws 1 (slice_index ws 1) ≡ (m.drawn % 2 ^ 64) ∷ (m.served % 2 ^ 64) ∷ []
same_word m ws e = rw e refl

module _ {E F : Type 0} where
  -- A sum over all views stays the same where one is replaced by another that counts as much.
  pub same_total : (f : SeatView E F → ℕ) (views : List (SeatView E F)) (id : ℕ) (v w : SeatView E F) → get_elem? views id ≡ some v → f w ≡ f v → total f (set views id w) ≡ total f views
  same_total f views id v w at same = let t = total-set f views id v w at in omega arith

  -- a ticket of another seat is still held after a change of one view
  pub queue_apart : (m : Moment E) (views : List (SeatView E F)) (id : ℕ) (w : SeatView E F) (t : ℕ) → (m.line t ≡ id → ⊥) → IsHeld m views t → IsHeld m (set views id w) t
  queue_apart m views id w t apart x = (x.0, set_else views id (m.line t) w apart ∙ x.1, x.2)

  -- the tickets that are held stay so where the view that changes keeps its own
  pub queue_set : (m : Moment E) (views : List (SeatView E F)) (id : ℕ) (v w : SeatView E F) → get_elem? views id ≡ some v → w.ticket ≡ v.ticket → IsQueue m views → IsQueue m (set views id w)
  queue_set m views id v w at same h = λ t lo hi.
      let x = h t lo hi in
      dite (ℕ_discrete (m.line t) id)
      (λ here.
      let is : v ≡ x.0 = some-injective v x.0 (sym at ∙ (ap (λ k. get_elem? views k) (sym here) ∙ x.1)) in
      (w, ap (λ k. get_elem? (set views id w) k) here ∙ set_at views id v w at, same ∙ (ap (λ (u : SeatView E F). u.ticket) is ∙ x.2)))
      (λ apart. queue_apart m views id w t apart x)

  -- one more view leaves the tickets where they are
  pub queue_snoc : (m : Moment E) (views : List (SeatView E F)) (w : SeatView E F) → IsQueue m views → IsQueue m (views ++ w ∷ [])
  queue_snoc m views w h = λ t lo hi. let x = h t lo hi in (x.0, at_longer views (w ∷ []) (m.line t) x.0 x.1, x.2)

module _ {S E F : Type 0} (story : S → List E) (frame : S → F) (by : E → ℕ) where
  -- A view fits the rule at a moment, at a lock with this frame and this number of passes.
  abbrev Fit : S × ℕ → Moment E → ℕ → SeatView E F → Type 0
  Fit key m i v = FitsView story frame by (frame key.0) key.1 m i v

  -- one ticket is one view's
  pub one_holder : (key : S × ℕ) (m : Moment E) (i j : ℕ) (v u : SeatView E F) (t : ℕ) → Fit key m i v → Fit key m j u → v.ticket ≡ Some t → u.ticket ≡ Some t → i ≡ j
  one_holder key m i j v u t hi hj ei ej = sym (hi.ticket t ei).0 ∙ (hj.ticket t ej).0

  -- the home after a change of a view that has no turn
  pub home_set : (f : F) (log : List E) (homes : Homes S) (views : List (SeatView E F)) (id : ℕ) (v w : SeatView E F) → get_elem? views id ≡ some v → v.turn ≡ false → w.turn ≡ false → IsHome story frame f log homes views ⊎ IsOut homes views → IsHome story frame f log homes (set views id w) ⊎ IsOut homes (set views id w)
  home_set f log homes views id v w at off_v off_w h =
      elim h [
        | inl x ↦ inl (x.0, x.1, x.2, x.3, each_set (λ _ (u : SeatView E F). u.turn ≡ false) views id w (λ j u _ e. x.4 j u e) off_w)
        | inr x ↦ inr (x.0, x.1, set_else views id x.0 w (λ same. let e : some v ≡ some x.1 = sym at ∙ (ap (λ k. get_elem? views k) (sym same) ∙ x.2) in true_and_false _ x.3 (ap (λ (u : SeatView E F). u.turn) (sym (some-injective v x.1 e)) ∙ off_v)) ∙ x.2, x.3, x.4)
      ]

  -- whoever has the turn has the slot
  pub away : (f : F) (n : ℕ) (m : Moment E) (words : List ℕ) (homes : Homes S) (views : List (SeatView E F)) (id : ℕ) (v : SeatView E F) → MomentHolds story frame by f n m words homes views → get_elem? views id ≡ some v → v.turn ≡ true → homes ≡ left_home v.fresh ∷ []
  away f n m words homes views id v h at on =
      elim h.home [
        | inl x ↦ true_and_false _ on (x.4 id v at)
        | inr x ↦
            let mine = (h.each id v at).turn on in
            let theirs = (h.each x.0 x.1 x.2).turn x.3 in
            let same : x.0 ≡ id = sym ((h.each x.0 x.1 x.2).ticket m.served theirs.0).0 ∙ ((h.each id v at).ticket m.served mine.0).0 in
            let e : x.1 ≡ v = some-injective x.1 v (sym x.2 ∙ (ap (λ k. get_elem? views k) same ∙ at)) in
            x.4 ∙ ap (λ (u : SeatView E F). left_home u.fresh ∷ []) e
      ]

  -- nobody else has the turn
  pub only_turn : (f : F) (n : ℕ) (m : Moment E) (words : List ℕ) (homes : Homes S) (views : List (SeatView E F)) (id j : ℕ) (v u : SeatView E F) → MomentHolds story frame by f n m words homes views → get_elem? views id ≡ some v → v.turn ≡ true → get_elem? views j ≡ some u → u.ticket ≡ Some m.served → j ≡ id
  only_turn f n m words homes views id j v u h at on e its =
      let mine = (h.each id v at).turn on in
      sym ((h.each j u e).ticket m.served its).0 ∙ ((h.each id v at).ticket m.served mine.0).0

  -- The state is in the slot, or out, with one view more that hasn't the turn.
  pub home_snoc : (f : F) (log : List E) (homes : Homes S) (views : List (SeatView E F)) (w : SeatView E F) → w.turn ≡ false → IsHome story frame f log homes views ⊎ IsOut homes views → IsHome story frame f log homes (views ++ w ∷ []) ⊎ IsOut homes (views ++ w ∷ [])
  home_snoc f log homes views w idle h =
      elim h [
        | inl x ↦ inl (x.0, x.1, x.2, x.3, λ i u e. each_snoc (λ _ (y : SeatView E F). y.turn ≡ false) views w x.4 idle i u e)
        | inr x ↦ inr (x.0, x.1, at_longer views (w ∷ []) x.0 x.1 x.2, x.3, x.4)
      ]

  -- a change of one view that has no turn, with as many tickets and parts
  pub change : (f : F) (n : ℕ) (m : Moment E) (words : List ℕ) (homes : Homes S) (views : List (SeatView E F)) (id : ℕ) (v w : SeatView E F) → get_elem? views id ≡ some v → v.turn ≡ false → w.turn ≡ false → w.ticket ≡ v.ticket → w.parts ≡ v.parts
      → FitsView story frame by f n m id w → MomentHolds story frame by f n m words homes views → MomentHolds story frame by f n m words homes (set views id w)
  change f n m words homes views id v w at off_v off_w tickets parts fit h = record {
    words_are = h.words_are;
    count = h.count ∙ ap (λ (k : ℕ). m.served + k) (sym (same_total (λ (u : SeatView E F). ticket_count u.ticket) views id v w at (ap ticket_count tickets)));
    parts = same_total (λ (u : SeatView E F). u.parts) views id v w at parts ∙ h.parts;
    few = h.few;
    made = h.made;
    none_else = h.none_else;
    each = each_set (FitsView story frame by f n m) views id w (λ j u ne e. h.each j u e) fit;
    queue = queue_set m views id v w at tickets h.queue;
    home = home_set f m.log homes views id v w at off_v off_w h.home;
  }

  -- one more view, with no ticket, turn or part
  pub one_more : (f : F) (n : ℕ) (m : Moment E) (words : List ℕ) (homes : Homes S) (views : List (SeatView E F)) (w : SeatView E F) → w.turn ≡ false → ticket_count w.ticket ≡ 0 → w.parts ≡ 0 → FitsView story frame by f n m (length views) w
      → MomentHolds story frame by f n m words homes views → MomentHolds story frame by f n m words homes (views ++ w ∷ [])
  one_more f n m words homes views w idle tickets parts fit h =
      let a = total-snoc (λ (u : SeatView E F). ticket_count u.ticket) views w in
      let b = total-snoc (λ (u : SeatView E F). u.parts) views w in
      let c = h.count in
      let d = h.parts in
      record {
        words_are = h.words_are;
        count = omega arith;
        parts = omega arith;
        few = h.few;
        made = h.made;
        none_else = h.none_else;
        each = each_snoc (FitsView story frame by f n m) views w h.each fit;
        queue = queue_snoc m views w h.queue;
        home = home_snoc f m.log homes views w idle h.home;
      }

  -- a seat that was let go
  pub spent_fits : (f : F) (n : ℕ) (m : Moment E) (j : ℕ) → FitsView story frame by f n m j spent_view
  spent_fits f n m j = record {
    framed = λ g e. absurd (cc e);
    seen = (m.log, refl);
    told = (m.log, refl);
    called = λ c e. absurd (cc e);
    own = λ c e. absurd (cc e);
    nameless = λ _ _. (refl, refl);
    gathered = λ k g e. absurd (some-ne-none g (sym e));
    ticket = λ t e. absurd (cc e);
    paid = omega arith;
    turn = λ on. true_and_false _ on refl;
    maker = λ on. true_and_false _ on refl;
  }
