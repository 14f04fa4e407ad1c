-- The steps that change what is seen: recording entries, telling another seat, and learning what was told.
use Rattle.std.proofs.Common.{◌≡◌, ◌≢◌, ℕ, ◌+◌, List, [], ◌∷◌, ◌++◌, length, set, Some, None, Option, Bool, true, false, refl, sym, ap, ◌∙◌, subst, inr, arith, append-nil}
use Rattle.std.specs.Prelude.{All, nat_lt}
use mathlib.Core.Option.{some, none, some-ne-none}
use lib.ListN.{get_elem?}
use Rattle.std.proofs.lemmas.Bool.Decides.{nat_tests}
use Rattle.atomic_table.specs.Table.{State, step, keeps, Allows, Splits, Joins}
use Rattle.atomic_table.proofs.Lists.{set_again, set_else}
use Rattle.cm_facts.proofs.Booleans.{true_and_false}
use Rattle.cm_turn.specs.declared.view.SeatView.{SeatView}
use Rattle.cm_turn.specs.History.{StartsWith, entries_by, longer, longer_if}
use Rattle.cm_turn.specs.Views.{spent_view, with_entries, with_longer, note_of, with_told}
use Rattle.cm_turn.specs.Rule.{ticket_count, Moment, FitsView, MomentHolds, KeepsRule}
use Rattle.cm_turn.specs.Plays.{RecordsState, Learns}
use Rattle.cm_turn.proofs.lemmas.ViewLists.{each_set, set_at}
use Rattle.cm_turn.proofs.lemmas.Histories.{entries-between, starts-trans, starts-refl, starts-longer, entries-append, entries-others}
use Rattle.cm_turn.proofs.lemmas.Moments.{home_set, same_total, same_word, queue_set, away, only_turn, change, one_more, spent_fits}

module _ {S E F : Type 0} (story : S → List E) (frame : S → F) (by : E → ℕ) where
  -- The rule that the table keeps between any two steps.
  abbrev Rule : S × ℕ → State (Option S) (SeatView E F) → Type 0
  Rule = KeepsRule story frame by

  -- A view of a seat fits at a moment, as the lock's rule says.
  abbrev Fit : S × ℕ → Moment E → ℕ → SeatView E F → Type 0
  Fit key m i v = FitsView story frame by (frame key.0) key.1 m i v

  -- recording
  abbrev adding : Moment E → List E → Moment E
  adding m log = record m { log = log }

  -- the entries of another caller are those that there were
  others_same : (c d : ℕ) (log es : List E) → All (λ e. by e ≡ c) es → d ≢ c → entries_by by d (log ++ es) ≡ entries_by by d log
  others_same c d log es alone ne =
      entries-append by d log es ∙ (ap (λ l. entries_by by d log ++ l) (entries-others by c d es alone ne) ∙ append-nil (entries_by by d log))

  -- After entries of another seat's caller, a view without the turn that fitted fits.
  record_other : (key : S × ℕ) (m : Moment E) (id j c : ℕ) (u : SeatView E F) (log es : List E) → log ≡ m.log ++ es → All (λ e. by e ≡ c) es → m.seat c ≡ id → j ≢ id → (u.turn ≡ true → ⊥) → Fit key m j u → Fit key (adding m log) j u
  record_other key m id j c u log es is alone seat ne no_turn h =
      let more : StartsWith log m.log = (es, is) in
      let apart : (d : ℕ) → m.seat d ≡ j → d ≢ c = λ d at same. ne (sym at ∙ (ap m.seat same ∙ seat)) in
      let same : (d : ℕ) → m.seat d ≡ j → entries_by by d log ≡ entries_by by d m.log = λ d at. ap (entries_by by d) is ∙ others_same c d m.log es alone (apart d at) in
      record {
        framed = h.framed;
        seen = starts-trans log m.log u.seen more h.seen;
        told = starts-trans log m.log u.told more h.told;
        called = λ d e. let k = h.called d e in (k.0, k.1, same d k.0 ∙ k.2);
        own = h.own;
        nameless = h.nameless;
        gathered = λ i g e. let k = h.gathered i g e in ((k.0.0, k.0.1, same g.caller k.0.0 ∙ k.0.2), starts-trans log m.log g.seen more k.1, k.2);
        ticket = h.ticket;
        paid = h.paid;
        turn = λ on. absurd (no_turn on);
        maker = h.maker;
      }

  -- After the entries of a seat's turn, its view with these fits where it has taken in no pass.
  record_own : (key : S × ℕ) (m : Moment E) (id c : ℕ) (v : SeatView E F) (log es : List E) → log ≡ m.log ++ es → v.caller ≡ Some c → v.gathered ≡ [] → v.turn ≡ true → Fit key m id v → Fit key (adding m log) id (with_entries log (entries_by by c log) v)
  record_own key m id c v log es is caller bare on h =
      let more : StartsWith log m.log = (es, is) in
      record {
        framed = h.framed;
        seen = starts-refl log;
        told = starts-trans log m.log v.told more h.told;
        called = λ d e. let k = h.called d e in let same : d ≡ c = cc (e, caller) in (k.0, k.1, ap (λ (x : ℕ). entries_by by x log) same);
        own = λ d e. let same : d ≡ c = cc (e, caller) in ap (λ (x : ℕ). entries_by by x log) same;
        nameless = h.nameless;
        gathered = λ i g e. absurd (some-ne-none g (sym (ap (λ l. get_elem? l i) (sym bare) ∙ e)));
        ticket = h.ticket;
        paid = h.paid;
        turn = λ _. ((h.turn on).0, refl);
        maker = h.maker;
      }

  -- A seat with the turn, a caller and the state may record the entries that its caller added to that.
  pub records : (key : S × ℕ) (slots id : ℕ) (v : SeatView E F) (x : S) (c : ℕ) (es : List E) → v.turn ≡ true → v.fresh ≡ false → v.caller ≡ Some c → v.gathered ≡ [] → story x ≡ v.seen ++ es → All (λ e. by e ≡ c) es
      → Allows (Rule key) slots id (v, (0, Some x) ∷ []) 1 (λ n. n) (RecordsState story frame by (step slots 1 0 0 none) (v, (0, Some x) ∷ []))
  records key slots id v x c es on plain caller bare more alone_es s kept len at fits =
      let m = kept.0 in
      let h = kept.1 in
      let fit = h.each id v at in
      let mine = fit.turn on in
      let is : story x ≡ m.log ++ es = more ∙ ap (λ l. l ++ es) mine.1 in
      let called = fit.called c caller in
      let m' = adding m (story x) in
      let w = with_entries (story x) (entries_by by c (story x)) v in
      let hs = away story frame by (frame key.0) key.1 m s.words s.homes s.views id v h at on in (
        w,
        keeps,
        tt,
        (
          m',
          record {
            words_are = same_word m s.words h.words_are;
            count = h.count ∙ ap (λ (k : ℕ). m.served + k) (sym (same_total (λ (u : SeatView E F). ticket_count u.ticket) s.views id v w at refl));
            parts = same_total (λ (u : SeatView E F). u.parts) s.views id v w at refl ∙ h.parts;
            few = h.few;
            made = h.made;
            none_else = λ d le. let low = called.1 in ap (entries_by by d) is ∙ (others_same c d m.log es alone_es (λ same. omega arith) ∙ h.none_else d le);
            each = each_set (Fit key m') s.views id w
                (λ j u ne e. record_other key m id j c u (story x) es is alone_es called.0 ne (λ its. ne (only_turn story frame by (frame key.0) key.1 m s.words s.homes s.views id j v u h at on e ((h.each j u e).turn its).0)) (h.each j u e))
                (record_own key m id c v (story x) es is caller bare on fit);
            queue = queue_set m s.views id v w at refl h.queue;
            home = inr (id, w, set_at s.views id v w at, on, hs);
          },
        ),
        (x, c, refl, caller, refl),
      )

  -- the longer of what was seen and told
  longer_from : (b : Bool) (xs ys log : List E) → nat_lt (length xs) (length ys) ≡ b → StartsWith log xs → StartsWith log ys → StartsWith log (longer_if b xs ys) × StartsWith (longer_if b xs ys) xs × StartsWith (longer_if b xs ys) ys
  longer_from true xs ys log is p q = (q, starts-longer xs ys log p q (grind (arith, nat_tests)), starts-refl ys)
  longer_from false xs ys log is p q = (p, starts-refl xs, starts-longer ys xs log q p (grind (arith, nat_tests)))

  -- A seat's view still fits with the longer of what it has seen and been told.
  learn_own : (key : S × ℕ) (m : Moment E) (id : ℕ) (v : SeatView E F) → StartsWith m.log (longer v.seen v.told) → ((c : ℕ) → v.caller ≡ Some c → entries_by by c (longer v.seen v.told) ≡ v.mine) → v.turn ≡ false → Fit key m id v → Fit key m id (with_longer v)
  learn_own key m id v starts own idle h = record {
    framed = h.framed;
    seen = starts;
    told = (m.log, refl);
    called = h.called;
    own = own;
    nameless = h.nameless;
    gathered = h.gathered;
    ticket = h.ticket;
    paid = h.paid;
    turn = λ on. true_and_false _ on idle;
    maker = h.maker;
  }

  -- A seat that hasn't the turn may take over what another one told it, where that is more.
  pub learns : (key : S × ℕ) (slots id : ℕ) (v : SeatView E F) → v.turn ≡ false → Allows (Rule key) slots id (v, []) 1 (λ n. n) (Learns story frame by (step slots 1 0 0 none) (v, []))
  learns key slots id v idle s kept len at fits =
      let m = kept.0 in
      let h = kept.1 in
      let fit = h.each id v at in
      let w = with_longer v in
      let l = longer_from (nat_lt (length v.seen) (length v.told)) v.seen v.told m.log refl fit.seen fit.told in
      let own : (c : ℕ) → v.caller ≡ Some c → entries_by by c (longer v.seen v.told) ≡ v.mine = λ c e. entries-between by c m.log (longer v.seen v.told) v.seen v.mine l.0 l.1 (fit.called c e).2 (fit.own c e) in (
        w,
        keeps,
        tt,
        (
          m,
          record {
            words_are = same_word m s.words h.words_are;
            count = h.count ∙ ap (λ (k : ℕ). m.served + k) (sym (same_total (λ (u : SeatView E F). ticket_count u.ticket) s.views id v w at refl));
            parts = same_total (λ (u : SeatView E F). u.parts) s.views id v w at refl ∙ h.parts;
            few = h.few;
            made = h.made;
            none_else = h.none_else;
            each = each_set (Fit key m) s.views id w (λ j u ne e. h.each j u e) (learn_own key m id v l.0 own idle fit);
            queue = queue_set m s.views id v w at refl h.queue;
            home = home_set story frame by (frame key.0) m.log s.homes s.views id v w at idle idle h.home;
          },
        ),
        (refl, l.1, l.2, own),
      )

  -- What a seat tells of what it has seen fits at any seat.
  note_fits : (key : S × ℕ) (m : Moment E) (i j : ℕ) (v : SeatView E F) → Fit key m i v → Fit key m j (note_of v)
  note_fits key m i j v h = record {
    framed = h.framed;
    seen = h.seen;
    told = (m.log, refl);
    called = λ c e. absurd (cc e);
    own = λ c e. absurd (cc e);
    nameless = λ _ _. (refl, refl);
    gathered = λ k g e. absurd (some-ne-none g (sym e));
    ticket = λ t e. absurd (cc e);
    paid = omega arith;
    turn = λ on. true_and_false _ on refl;
    maker = λ on. true_and_false _ on refl;
  }

  -- A seat may be made that only tells what this one has seen.
  pub notes : (key : S × ℕ) (id : ℕ) (v : SeatView E F) → Splits (Rule key) id v v (note_of v)
  notes key id v s kept at =
      let m = kept.0 in
      let h = kept.1 in
      let again : s.views ≡ set s.views id v = sym (set_again s.views id v at) in (
        m,
        subst (λ (vs : List (SeatView E F)). MomentHolds story frame by (frame key.0) key.1 m s.words s.homes (vs ++ note_of v ∷ [])) again
            (one_more story frame by (frame key.0) key.1 m s.words s.homes s.views (note_of v) refl refl refl (note_fits key m id (length s.views) v (h.each id v at)) h),
      )

  -- A view without the turn still fits after another seat has told it what that had seen.
  told_fits : (key : S × ℕ) (m : Moment E) (id j : ℕ) (v w : SeatView E F) → v.turn ≡ false → Fit key m id v → Fit key m j w → Fit key m id (with_told v w)
  told_fits key m id j v w idle h k = record { framed = h.framed; seen = h.seen; told = k.seen; called = h.called; own = h.own; nameless = h.nameless; gathered = h.gathered; ticket = h.ticket; paid = h.paid; turn = h.turn; maker = h.maker }

  -- A seat without the turn may be told what another one that has no pass has seen.
  pub tells : (key : S × ℕ) (id other : ℕ) (v w : SeatView E F) → v.turn ≡ false → w.turn ≡ false → w.ticket ≡ None → w.parts ≡ 0 → Joins (Rule key) id v other w (with_told v w) spent_view
  tells key id other v w idle off_w free bare s kept at apart there =
      let m = kept.0 in
      let h = kept.1 in
      let was : get_elem? s.views other ≡ some w = sym (set_else s.views id other (with_told v w) apart) ∙ there in
      let one = change story frame by (frame key.0) key.1 m s.words s.homes s.views id v (with_told v w) at idle idle refl refl (told_fits key m id other v w idle (h.each id v at) (h.each other w was)) h in
      (m, change story frame by (frame key.0) key.1 m s.words s.homes (set s.views id (with_told v w)) other w spent_view there off_w refl (sym free) (sym bare) (spent_fits story frame by (frame key.0) key.1 m other) one)
