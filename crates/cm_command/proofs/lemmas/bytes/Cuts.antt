-- What a cut at a separator says of the bytes.
use Rattle.std.proofs.Common.{◌≡◌, inl, inr, ℕ, List, ◌∷◌, ◌++◌, Bor, Option, Some, None, MatchOption, subst}
use Rattle.cm_command.proofs.lemmas.line.Machine.{BeginsWithPiece}

-- the bytes are the piece alone, or go on behind it and the separator
abbrev pub IsCut : ℕ → List ℕ → List ℕ → Option (Bor (List ℕ)) → Type 0
IsCut k w p o = MatchOption o (w ≡ p) (λ r. w ≡ p ++ k ∷ r.now)

-- A text that is cut at a separator begins with the piece that was cut off.
pub begins_with_piece : (k : ℕ) (o : Option (Bor (List ℕ))) (w p : List ℕ) → IsCut k w p o → BeginsWithPiece k p w
begins_with_piece k None w p h = inl h
begins_with_piece k (Some r) w p h = inr (r.now, h)

-- Where a cut leaves a rest, the text is the piece, the separator and that rest.
pub piece_and_rest : (k : ℕ) (o : Option (Bor (List ℕ))) (r : Bor (List ℕ)) (w p : List ℕ) → o ≡ Some r → IsCut k w p o → w ≡ p ++ k ∷ r.now
piece_and_rest k o r w p e h = subst (IsCut k w p) e h

-- Where a cut leaves no rest, the text is the piece alone.
pub piece_alone : (k : ℕ) (o : Option (Bor (List ℕ))) (w p : List ℕ) → o ≡ None → IsCut k w p o → w ≡ p
piece_alone k o w p e h = subst (IsCut k w p) e h
