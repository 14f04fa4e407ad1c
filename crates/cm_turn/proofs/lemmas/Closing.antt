-- Taking in all passes, and what the table is at the end.
use Rattle.std.proofs.Common.{◌≡◌, ℕ, ◌+◌, ◌<◌, ◌≤◌, List, [], ◌∷◌, ◌++◌, length, map, Some, None, Option, refl, sym, ap, ◌∙◌, arith, All, slice_index_or, length-append}
use Rattle.std.specs.Prelude.{IsSome}
use Rattle.std.proofs.lemmas.List.{map-append}
use mathlib.Core.Option.{some, some-injective}
use mathlib.Core.Logic.{dite}
use native.Mathlib.Decide.{dec_lt}
use lib.ListN.{get_elem?}
use Rattle.atomic_table.specs.Table.{Final, Seen}
use Rattle.cm_turn.specs.declared.view.SeatView.{SeatView}
use Rattle.cm_turn.specs.History.{entries_by}
use Rattle.cm_turn.specs.Views.{with_pass}
use Rattle.cm_turn.specs.Rule.{KeepsRule}
use Rattle.cm_turn.specs.Views.{gatherer}
use Rattle.cm_turn.specs.Passes.{PassView, LockView, pass_of, IsIdle, known_as, BearsPassOut, HasCaller}
use Rattle.cm_turn.proofs.lemmas.ViewLists.{get-map}
use Rattle.cm_turn.proofs.lemmas.Histories.{entries-some}
use Rattle.cm_turn.proofs.lemmas.PassSteps.{ends}

module _ {E F : Type 0} where
  -- A seat that has taken in passes and one more is one that has taken in all of these.
  more_of : (ys : List (PassView E F)) (p : PassView E F) → gatherer (length ys + 1) (map known_as ys ++ known_as p ∷ []) ≡ gatherer (length (ys ++ p ∷ [])) (map known_as (ys ++ p ∷ []))
  more_of ys p = λ i. gatherer (sym (length-append ys (p ∷ [])) i) (sym (map-append known_as ys (p ∷ [])) i)

  -- A maker that has taken in some passes, and takes in one more, has taken in these and that one.
  pub gathered_more : (ys : List (PassView E F)) (lock : Rattle.atomic_table.specs.Seated.TableId) (number : ℕ) (v : SeatView E F) (p : PassView E F) → IsIdle number v → pass_of lock number v ≡ p → with_pass (gatherer (length ys) (map known_as ys)) v ≡ gatherer (length (ys ++ p ∷ [])) (map known_as (ys ++ p ∷ []))
  gathered_more ys lock number v p idle is =
      ap (λ u. with_pass (gatherer (length ys) (map known_as ys)) u) idle.0 ∙ (more_of ys (pass_of lock number v) ∙ ap (λ q. gatherer (length (ys ++ q ∷ [])) (map known_as (ys ++ q ∷ []))) is)

module _ {S E F : Type 0} (story : S → List E) (frame : S → F) (by : E → ℕ) where
  -- The slot has a state that bears these passes out, and no entries of callers beyond their number.
  abbrev pub Closes : S × ℕ → List (PassView E F) → Option S → Type 0
  Closes key passes slot =
      (x : S) × (slot ≡ Some x) × All (λ p. BearsPassOut story frame by x p) passes × ((c : ℕ) → key.1 ≤ c → entries_by by c (story x) ≡ [])

  -- What is there, and can only be one thing, is that thing.
  of_some : (o : Option F) (x : F) → IsSome o → ((f : F) → o ≡ Some f → f ≡ x) → o ≡ Some x
  of_some (Some f) x h is = ap Some (is f refl)
  of_some None x h is = absurd (cc h)

  -- At the end the slot has a state that bears all passes out, where the maker has taken them all in.
  pub closes : (key : S × ℕ) (words : List ℕ) (slots : List (Option S)) (id : ℕ) (v : SeatView E F) (passes : List (PassView E F)) (slot : Option S) → Final (Seen (KeepsRule story frame by key) id v) words slots → v ≡ gatherer (length passes) (map known_as passes) → length passes ≡ key.1 → All (λ p. IsSome p.frame) passes → get_elem? slots 0 ≡ some slot → Closes key passes slot
  closes key words slots id v passes slot final is all framed there =
      let s = final.0 in
      let e = ends story frame by key s id v final.1.0 final.1.1 (ap (λ u. u.turn) is) (ap (λ u. u.parts) is ∙ all) in
      let x = e.0 in
      let known = final.4 0 (Some x) e.1 in (
        x,
        some-injective slot (Some x) (sym there ∙ known),
        (λ k d lt.
            let p = slice_index_or passes k d in
            let so = e.3 k (known_as p) (ap (λ u. get_elem? u.gathered k) is ∙ get-map known_as passes k d lt) in
            (of_some p.frame (frame x) (framed k d lt) so.2, so.0, so.1)),
        e.4,
      )

  -- Each entry of a state is of a caller with one of these passes, where all callers have theirs.
  pub all_callers : (l : LockView) (passes : List (PassView E F)) (x : S) → ((c : ℕ) → c < l.passes → HasCaller passes c) → ((c : ℕ) → l.passes ≤ c → entries_by by c (story x) ≡ []) → All (λ e. HasCaller passes (by e)) (story x)
  all_callers l passes x has none_else k d lt =
      let c = by (slice_index_or (story x) k d) in
      dite (dec_lt c l.passes) (λ low. has c low) (λ high. absurd (entries-some by (story x) k d lt (none_else c (omega arith))))
