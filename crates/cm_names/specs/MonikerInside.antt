-- Inside.
-- What functions that read and write monikers promise.
use Rattle.std.specs.Prelude.{◌≡◌, ℕ, ◌<◌, ◌≤◌, List, [], ◌∷◌, ◌++◌, length, ◌==◌}
use Rattle.std.specs.Prelude.{if◌then◌else◌, All}
use Rattle.cm_names.specs.declared.child.ChildName.{ChildName}
use Rattle.cm_names.specs.declared.moniker.Moniker.{Moniker}
use Rattle.cm_names.specs.declared.moniker.MonikerFault.{MonikerFault}
use Rattle.cm_names.specs.declared.moniker.MonikerFault.TheVariants.{TooLong, BadMoniker, Memory}
use Rattle.cm_names.specs.Child.{child_text}
use Rattle.cm_names.specs.Prefixes.{IsLongestPrefix}
use Rattle.cm_names.specs.Moniker.{moniker_text, IsChildName, IsMonikerTextOf}

-- the text of some moniker, of at most 4,096 bytes
abbrev pub IsMonikerText : List ℕ → Type 0
IsMonikerText t = (m : Moniker) × IsMonikerTextOf t m × (length t ≤ 4096)

-- the first fault of a text that is to be a moniker
abbrev pub IsMonikerFault : List ℕ → MonikerFault → Type 0
IsMonikerFault t TooLong = 4096 < length t
IsMonikerFault t (BadMoniker n) =
    (length t ≤ 4096) × (IsMonikerText t → ⊥) × IsLongestPrefix IsMonikerText t n
IsMonikerFault t Memory = ⊥

-- the text without a leading slash
abbrev pub behind_slash : List ℕ → List ℕ
behind_slash [] = []
behind_slash (b ∷ bs) = if b == 47 then bs else b ∷ bs

-- the text of some child's name
abbrev pub IsChildText : List ℕ → Type 0
IsChildText t = (c : ChildName) × IsChildName c × (child_text c ≡ t)

-- a text is the text of one moniker at most
abbrev pub MonikersReadOneWay : Type 0
MonikersReadOneWay = (t : List ℕ) (m n : Moniker) → IsMonikerTextOf t m → IsMonikerTextOf t n → m ≡ n

-- what is written of a moniker is read as it
abbrev pub WritesItsText : Type 0
WritesItsText = (m : Moniker) → All IsChildName m.parts → IsMonikerTextOf (moniker_text m) m

-- the first list of names begins with the second
abbrev pub MonikerStartsWith : List ChildName → List ChildName → Type 0
MonikerStartsWith parts prefix = (rest : List ChildName) × (parts ≡ prefix ++ rest)
