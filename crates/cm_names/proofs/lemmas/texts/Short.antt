-- The room of a short text into which two texts were written, one behind the other.
use Rattle.std.proofs.Common.{◌≡◌, ◌++◌, ◌+◌, ◌-◌, ◌≤◌, ◌∙◌, ℕ, List, ap, arith, drop, length, refl, take}
use Rattle.std.proofs.lemmas.List.{length-append, length-drop, take_at}
use Rattle.std.proofs.lemmas.Slice.{take-put_mid}
use borrow.Rule.Slice.PartMut.{mid_len, put_mid, same_len_mid}

-- What two texts are put into begins with both.
pub both-put : (prefix back rest : List ℕ) (k : ℕ)
    → take (length prefix + length back) (put_mid (length prefix) k (prefix ++ rest) back) ≡ prefix ++ back
both-put prefix back rest k =
    let long = length-append prefix rest in
    take-put_mid (length prefix) k (prefix ++ rest) back _ refl (omega arith)
    ∙ ap (λ l. l ++ back) (take_at prefix rest (length prefix) refl)

-- What is put into the midst of a room leaves the room as long as it was.
pub room-stays : (prefix back room : List ℕ) (n : ℕ) → length room ≡ n → length prefix + length back ≤ n
    → length (put_mid (length prefix) (length prefix + length back - length prefix)
    (prefix ++ drop (length prefix) room) back) ≡ n
room-stays prefix back room n long fits =
    let rest = drop (length prefix) room in
    let behind = length-drop (length prefix) room in
    let all = length-append prefix rest in
    let part = mid_len (length prefix) (length prefix + length back) (prefix ++ rest) (omega arith) in
    same_len_mid (length prefix) (length prefix + length back - length prefix) (prefix ++ rest) back (omega arith)
    ∙ omega arith
