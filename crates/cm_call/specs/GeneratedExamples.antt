-- Inside.
-- A small workload, computed.
use Rattle.std.specs.Prelude.{◌≡◌, [], ◌∷◌, codes}
use Rattle.cm_names.specs.Moniker.{text_of_parts}
use Rattle.cm_call.specs.Generated.{drawn, names_to, kids_of, url_of}

-- which instances five draws from 1 on are, of five
abbrev pub DrawsExample : Type 0
DrawsExample = drawn 5 1 5 ≡ 3 ∷ 3 ∷ 3 ∷ 0 ∷ 1 ∷ []

-- the moniker of instance 22
abbrev pub MonikerExample : Type 0
MonikerExample = text_of_parts (names_to 22 22) ≡ codes "i1/i5/i22"

-- the children of instance 1, of eight
abbrev pub KidsExample : Type 0
KidsExample = kids_of 8 1 ≡ 5 ∷ 6 ∷ 7 ∷ []

-- the URL of instance 4095
abbrev pub UrlExample : Type 0
UrlExample = url_of 4095 ≡ codes "fuchsia-pkg://gen/p#meta/4095.cm"
