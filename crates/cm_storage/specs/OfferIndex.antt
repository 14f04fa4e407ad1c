-- Inside.
-- An index of a declaration's storage offers, by their names at the target and by their targets.
use Rattle.std.specs.Prelude.{◌≡◌, ℕ, List, [], ◌∷◌, ◌&&◌, Bool, Option, find}
use Rattle.std.specs.Option.{option_copied, option_or}
use Rattle.std.specs.HashMap.{HashMap, get}
use Rattle.std.specs.Str.{bytes_eq}
use Rattle.std.specs.Prelude.{nat_eq}
use Rattle.std.specs.Cmp.Lexicographic.{pointwise}
use Rattle.cm_decl.specs.declared.storage.StorageOffer.{StorageOffer}
use denote.Ref.{Bor}

-- the key of an offer: its name at the target, and the target
abbrev pub Key : Type 0
Key = Bor (List ℕ) × Bor (List ℕ)

-- whether two keys are of the same bytes
abbrev pub same : Key → Key → Bool
same x y = pointwise nat_eq x.0.now y.0.now && pointwise nat_eq x.1.now y.1.now

-- whether an offer gives this name to this target
abbrev pub is_by : List ℕ → List ℕ → StorageOffer → Bool
is_by name to o = bytes_eq o.target_name name && bytes_eq o.to to

-- the offer that the index has for a key
abbrev pub offer_in : {S : Type 0} → HashMap Key (Bor StorageOffer) S → Key → Option StorageOffer
offer_in index q = option_copied (get same index q)

-- the index has for each key the first of these offers with it
abbrev pub IsIndexOf : {S : Type 0} → List StorageOffer → HashMap Key (Bor StorageOffer) S → Type 0
IsIndexOf offers index = (q : Key) → offer_in index q ≡ find (is_by q.0.now q.1.now) offers

-- one more offer was put into the index, unless an earlier one has its key
abbrev pub IsPutInIndex : {S : Type 0} → StorageOffer → HashMap Key (Bor StorageOffer) S
    → HashMap Key (Bor StorageOffer) S → Type 0
IsPutInIndex o old new = (q : Key)
    → offer_in new q ≡ option_or (offer_in old q) (find (is_by q.0.now q.1.now) (o ∷ []))
