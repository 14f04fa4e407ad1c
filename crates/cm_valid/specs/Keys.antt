-- Inside.
-- The texts by which rows clash: rows are sorted by them, so that those that clash stand together.
use Rattle.std.specs.Prelude.{ℕ, ◌==◌, List, ◌∷◌, ◌++◌, map, if◌then◌else◌}
use Rattle.cm_decl.specs.declared.rows.Usage.{Usage}
use Rattle.cm_decl.specs.declared.rows.Offer.{Offer}

-- a path with a zero in the place of each slash, so that what lies in a folder sorts right after it
abbrev pub zeroed : List ℕ → List ℕ
zeroed path = map (λ b. if b == 47 then 0 else b) path

-- the key of a use: its path
abbrev pub usage_key : Usage → List ℕ
usage_key u = zeroed u.path

-- the key of an offer: its target and its name there, with a slash between them
abbrev pub offer_key : Offer → List ℕ
offer_key o = o.to ++ 47 ∷ o.give.target_name
