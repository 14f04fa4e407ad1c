-- Lemmas on answering before reading on: what a session has in hand between two lines.
use Rattle.std.proofs.Common.{◌≡◌, ◌≢◌, ◌+◌, ℕ, suc, cond, nat_eq, Bool, true, false, List, [], ◌∷◌, ◌++◌, length, map, refl, ap, sym, ◌∙◌, subst, append_assoc, append-nil, length-append, arith}
use Rattle.std.proofs.lemmas.Bool.Decides.{nat_tests}
use Rattle.cm_io.specs.LinesInside.{IsUnbroken}
use Rattle.cm_io.specs.Orders.{InStep, Move, ends_in, gave, given_in, hung_up, joined, wrote, written_in}
use Rattle.cm_io.specs.OrdersInside.{AnsweredInOrder, ReadsUnbroken}
use Rattle.cm_io.proofs.lemmas.Ordering.{joined-more}

-- ---- how many lines end

-- In two texts together as many lines end as in the one and in the other.
pub ends-append : (xs ys : List ℕ) → ends_in (xs ++ ys) ≡ ends_in xs + ends_in ys
ends-append [] ys = omega arith
ends-append (x ∷ xs) ys = by (nat_eq x 10) (ends-append xs ys)
  where
    by : (v : Bool) → ends_in (xs ++ ys) ≡ ends_in xs + ends_in ys
        → cond v (suc (ends_in (xs ++ ys))) (ends_in (xs ++ ys)) ≡ cond v (suc (ends_in xs)) (ends_in xs) + ends_in ys
    by true ih = omega (arith, ih)
    by false ih = ih

-- A byte before the others that is no line feed ends no line.
pub ends-other : (byte : ℕ) (bytes : List ℕ) → byte ≢ 10 → ends_in (byte ∷ bytes) ≡ ends_in bytes
ends-other byte bytes h = grind (arith, nat_tests)

-- In bytes without a line feed no line ends.
pub unbroken-ends : (bytes : List ℕ) → IsUnbroken bytes → ends_in bytes ≡ 0
unbroken-ends [] h = refl
unbroken-ends (byte ∷ bytes) h = ends-other byte bytes (h 0 0 (omega arith)) ∙ unbroken-ends bytes (λ k d lt. h (suc k) d (omega arith))

-- ---- moves one behind another

-- The reads of two lists of moves gave what those of the first did, and then those of the second.
pub given-append : (xs ys : List Move) → given_in (xs ++ ys) ≡ given_in xs ++ given_in ys
given-append [] ys = refl
given-append (gave piece ∷ xs) ys = ap (λ (l : List ℕ). piece ++ l) (given-append xs ys) ∙ sym (append_assoc piece (given_in xs) (given_in ys))
given-append (wrote bytes ∷ xs) ys = given-append xs ys
given-append (hung_up ∷ xs) ys = given-append xs ys

-- The writes of two lists of moves took what those of the first did, and then those of the second.
pub written-append : (xs ys : List Move) → written_in (xs ++ ys) ≡ written_in xs ++ written_in ys
written-append [] ys = refl
written-append (gave piece ∷ xs) ys = written-append xs ys
written-append (wrote bytes ∷ xs) ys = ap (λ (l : List ℕ). bytes ++ l) (written-append xs ys) ∙ sym (append_assoc bytes (written_in xs) (written_in ys))
written-append (hung_up ∷ xs) ys = written-append xs ys

-- Moves that are reads of pieces gave just these pieces.
pub given-gave : (pieces : List (List ℕ)) → given_in (map gave pieces) ≡ joined pieces
given-gave [] = refl
given-gave (p ∷ pieces) = ap (λ (l : List ℕ). p ++ l) (given-gave pieces)

-- Moves that are all writes gave no bytes.
pub given-wrote : (pieces : List (List ℕ)) → given_in (map wrote pieces) ≡ []
given-wrote [] = refl
given-wrote (p ∷ pieces) = given-wrote pieces

-- Moves that are all reads wrote no bytes.
pub written-gave : (pieces : List (List ℕ)) → written_in (map gave pieces) ≡ []
written-gave [] = refl
written-gave (p ∷ pieces) = written-gave pieces

-- Moves that are writes of pieces wrote just these pieces.
pub written-wrote : (pieces : List (List ℕ)) → written_in (map wrote pieces) ≡ joined pieces
written-wrote [] = refl
written-wrote (p ∷ pieces) = ap (λ (l : List ℕ). p ++ l) (written-wrote pieces)

-- ---- a session's steps

-- Where nothing was read or written, no reply is owed.
pub answered-none : AnsweredInOrder [] [] []
answered-none = record { in_step = InStep.begun; written = refl; lines = refl }

-- pieces that are read while no line ends in what is there
pub reads-in_step : (replies : List (List ℕ)) (moves : List Move) (taken : List ℕ) (pieces : List (List ℕ)) → InStep replies moves → written_in moves ≡ joined replies
    → ends_in (given_in moves) ≡ length replies + ends_in taken → ReadsUnbroken taken pieces → InStep replies (moves ++ map gave pieces)
reads-in_step replies moves taken [] s w l r = subst (InStep replies) (sym (append-nil moves)) s
reads-in_step replies moves taken (p ∷ pieces) s w l r =
    let none : ends_in taken ≡ 0 = unbroken-ends taken r.0 in
    let here : ends_in (given_in moves) ≡ length replies = omega (arith, l, none) in
    let written : written_in (moves ++ gave p ∷ []) ≡ joined replies = written-append moves (gave p ∷ []) ∙ append-nil (written_in moves) ∙ w in
    let one : ends_in (given_in (moves ++ gave p ∷ [])) ≡ ends_in (given_in moves) + ends_in p =
    ap ends_in (given-append moves (gave p ∷ []) ∙ ap (λ (x : List ℕ). given_in moves ++ x) (append-nil p)) ∙ ends-append (given_in moves) p in
    let both : ends_in (taken ++ p) ≡ ends_in taken + ends_in p = ends-append taken p in
    let lines : ends_in (given_in (moves ++ gave p ∷ [])) ≡ length replies + ends_in (taken ++ p) = omega (arith, one, both, l) in
    subst (InStep replies) (append_assoc moves (gave p ∷ []) (map gave pieces))
    (reads-in_step replies (moves ++ gave p ∷ []) (taken ++ p) pieces (InStep.read_on p s w here) written lines r.1)

-- pieces of a reply that are written
pub writes-in_step : (replies : List (List ℕ)) (moves : List Move) (pieces : List (List ℕ)) → InStep replies moves → InStep replies (moves ++ map wrote pieces)
writes-in_step replies moves [] s = subst (InStep replies) (sym (append-nil moves)) s
writes-in_step replies moves (p ∷ pieces) s =
    subst (InStep replies) (append_assoc moves (wrote p ∷ []) (map wrote pieces)) (writes-in_step replies (moves ++ wrote p ∷ []) pieces (InStep.wrote_on p s))

-- a line was taken, and its reply written whole
pub answered-line : (replies : List (List ℕ)) (moves : List Move) (held : List ℕ) (pieces : List (List ℕ)) (line kept reply : List ℕ) (written : List (List ℕ)) → AnsweredInOrder replies moves held
    → ReadsUnbroken held pieces → held ++ joined pieces ≡ line ++ 10 ∷ kept → IsUnbroken line → joined written ≡ reply
    → AnsweredInOrder (replies ++ reply ∷ []) ((moves ++ map gave pieces) ++ map wrote written) kept
answered-line replies moves held pieces line kept reply written a reads taken unbroken all =
    let read = moves ++ map gave pieces in
    let step = reads-in_step replies moves held pieces a.in_step a.written a.lines reads in
    let before : written_in read ≡ joined replies =
    written-append moves (map gave pieces) ∙ ap (λ (l : List ℕ). written_in moves ++ l) (written-gave pieces) ∙ append-nil (written_in moves) ∙ a.written in
    let given : given_in (read ++ map wrote written) ≡ given_in moves ++ joined pieces =
    given-append read (map wrote written) ∙ ap (λ (l : List ℕ). given_in read ++ l) (given-wrote written) ∙ append-nil (given_in read)
    ∙ given-append moves (map gave pieces) ∙ ap (λ (l : List ℕ). given_in moves ++ l) (given-gave pieces) in
    let first : ends_in (given_in (read ++ map wrote written)) ≡ ends_in (given_in moves) + ends_in (joined pieces) = ap ends_in given ∙ ends-append (given_in moves) (joined pieces) in
    let there : ends_in held + ends_in (joined pieces) ≡ ends_in line + ends_in (10 ∷ kept) = sym (ends-append held (joined pieces)) ∙ ap ends_in taken ∙ ends-append line (10 ∷ kept) in
    let none : ends_in line ≡ 0 = unbroken-ends line unbroken in
    let one : ends_in (10 ∷ kept) ≡ suc (ends_in kept) = refl in
    let more : length (replies ++ reply ∷ []) ≡ length replies + 1 = length-append replies (reply ∷ []) in
    record {
      in_step = writes-in_step (replies ++ reply ∷ []) read written (InStep.made reply step);
      written =
          written-append read (map wrote written) ∙ ap (λ (l : List ℕ). l ++ written_in (map wrote written)) before
          ∙ ap (λ (l : List ℕ). joined replies ++ l) (written-wrote written ∙ all) ∙ sym (joined-more replies reply);
      lines = omega (arith, a.lines, first, there, none, one, more);
    }
