-- Lemmas on the order of reads and writes.
use Rattle.std.proofs.Common.{◌≡◌, ◌≤◌, ◌+◌, ℕ, List, [], ◌∷◌, ◌++◌, length, map, take, drop, Option, None, Some, refl, ap, sym, ◌∙◌, subst, append_assoc, append-nil, take-add}
use Rattle.std.proofs.lemmas.List.{take_all}
use Rattle.cm_io.specs.Orders.{MovesCame, Move, joined, wrote}
use Rattle.cm_io.specs.OrdersInside.{PutsInOrder}
use Rattle.cm_io.specs.declared.output.Put.TheVariants as put

-- Moves that came, and then others, are all of these one after the other.
pub came-trans : (a b c : Option (List Move)) (xs ys : List Move) → MovesCame a b xs → MovesCame b c ys → MovesCame a c (xs ++ ys)
came-trans None None None xs ys first then = tt
came-trans None (Some y) None xs ys first then = tt
came-trans (Some x) None None xs ys first then = tt
came-trans (Some x) (Some y) None xs ys first then = tt
came-trans None None (Some z) xs ys first then = absurd then
came-trans (Some x) None (Some z) xs ys first then = absurd then
came-trans None (Some y) (Some z) xs ys first then = absurd first
came-trans (Some x) (Some y) (Some z) xs ys first then = then ∙ ap (λ (l : List Move). l ++ ys) first ∙ append_assoc x xs ys

-- With one piece more, the text of all pieces has that piece at its end.
pub joined-more : (pieces : List (List ℕ)) (piece : List ℕ) → joined (pieces ++ piece ∷ []) ≡ joined pieces ++ piece
joined-more [] piece = append-nil piece
joined-more (p ∷ pieces) piece = ap (λ (l : List ℕ). p ++ l) (joined-more pieces piece) ∙ sym (append_assoc p (joined pieces) piece)

-- Where the order stays as it was, no move came.
pub came-none : (o : Option (List Move)) → MovesCame o o []
came-none None = tt
came-none (Some x) = sym (append-nil x)

-- ---- a text that is written in pieces

-- Since the beginning, in one piece or more, just these bytes were written.
pub record Wrote (old new : Option (List Move)) (done : List ℕ) : Type 0 where
  pub pieces : List (List ℕ)
  pub came : MovesCame old new (map wrote pieces)
  pub all : joined pieces ≡ done

-- The writes of pieces with one more are those of the pieces and one of that piece.
writes-more : (pieces : List (List ℕ)) (piece : List ℕ) → map wrote (pieces ++ piece ∷ []) ≡ map wrote pieces ++ wrote piece ∷ []
writes-more [] piece = refl
writes-more (p ∷ pieces) piece = ap (λ (l : List Move). wrote p ∷ l) (writes-more pieces piece)

-- Where the order stays as it was, no bytes were written.
pub wrote-none : (o : Option (List Move)) → Wrote o o []
wrote-none o = record { pieces = []; came = came-none o; all = refl }

-- With one more piece written behind them, the bytes that were written have that piece at their end.
pub wrote-piece : (first o then : Option (List Move)) (done piece : List ℕ) → Wrote first o done → MovesCame o then (wrote piece ∷ []) → Wrote first then (done ++ piece)
wrote-piece first o then done piece w came = record {
  pieces = w.pieces ++ piece ∷ [];
  came = subst (MovesCame first then) (sym (writes-more w.pieces piece)) (came-trans first o then (map wrote w.pieces) (wrote piece ∷ []) w.came came);
  all = joined-more w.pieces piece ∙ ap (λ (l : List ℕ). l ++ piece) w.all;
}

-- With some of what is left written, the first bytes of a text are written up to there.
pub wrote-more : (first o then : Option (List Move)) (bytes : List ℕ) (i n : ℕ) → Wrote first o (take i bytes) → MovesCame o then (wrote (take n (drop i bytes)) ∷ []) → Wrote first then (take (i + n) bytes)
wrote-more first o then bytes i n w came = rw (take-add i n bytes) (wrote-piece first o then (take i bytes) (take n (drop i bytes)) w came)

-- A text of which all bytes were written was put in order and whole.
pub put-done : (first o : Option (List Move)) (bytes : List ℕ) (i : ℕ) → Wrote first o (take i bytes) → length bytes ≤ i → PutsInOrder first o bytes put.Done
put-done first o bytes i w all = record { pieces = w.pieces; came = w.came; are = w.all ∙ take_all i bytes all }

-- A text of which some first bytes were written before a write failed was put in order up to there.
pub put-fault : (first o then : Option (List Move)) (bytes : List ℕ) (i : ℕ) → Wrote first o (take i bytes) → MovesCame o then (wrote [] ∷ []) → PutsInOrder first then bytes (put.WriteFault i)
put-fault first o then bytes i w came =
    let last = wrote-piece first o then (take i bytes) [] w came in
    record { pieces = last.pieces; came = last.came; are = last.all ∙ append-nil (take i bytes) }
