-- Inside.
-- Texts that are read piece by piece: each piece leads from one state of the reader to the next.
use Rattle.std.specs.Prelude.{ℕ, List, [], ◌∷◌, ◌==◌}
use Rattle.std.specs.List.{slice_split}

-- the pieces of a text between separators k
abbrev pub pieces : ℕ → List ℕ → List (List ℕ)
pieces k t = slice_split (λ b. b == k) t

-- the pieces lead from a state to one in which the text may end, and it says v then
abbrev pub PiecesLead : {S V : Type 0} → (S → List ℕ → S → Type 0) → (S → V → Type 0) → S → List (List ℕ) → V
    → Type 0
PiecesLead {S} {V} steps ends s [] v = ends s v
PiecesLead {S} {V} steps ends s (w ∷ ws) v = (a : S) × steps s w a × PiecesLead steps ends a ws v

-- the piece leads on from this state
abbrev pub Wants : {S : Type 0} → (S → List ℕ → S → Type 0) → S → List ℕ → Type 0
Wants {S} steps s w = (a : S) × steps s w a

-- from this state on the text says something
abbrev pub SaysText : {S V : Type 0} → ℕ → (S → List ℕ → S → Type 0) → (S → V → Type 0) → S → List ℕ → Type 0
SaysText {S} {V} k steps ends s t = (v : V) × PiecesLead steps ends s (pieces k t) v
