-- Promised.
-- The words of commands, and what they stand for.
use Rattle.std.specs.Prelude.{◌≡◌, ℕ, ◌<◌, ◌≤◌, ◌^◌, List, ◌∷◌, length, codes, ◌==◌}
use Rattle.std.specs.Prelude.{All, IsTrue, Ok}
use Rattle.std.specs.List.{slice_split}
use Rattle.cm_names.specs.Child.{child_text}
use Rattle.cm_names.specs.Moniker.{IsChildName, IsMonikerTextOf}
use Rattle.cm_names.specs.Rights.{RightSet, rights_of}
use Rattle.cm_names.specs.Urls.{is_url_byte}
use Rattle.cm_decl.specs.declared.origin.Origin.{Origin}
use Rattle.cm_decl.specs.declared.origin.Origin.TheVariants.{Parent, Own, Framework, Child, Void}
use Rattle.cm_world.specs.declared.event.Target.{Target}
use Rattle.cm_world.specs.declared.event.Target.TheVariants.{Named, Inc}
use Rattle.cm_command.specs.Numbers.{IsNumberText}

-- the words of a line: what stands between its single spaces
abbrev pub words_of : List ℕ → List (List ℕ)
words_of t = slice_split (λ b. b == 32) t

-- a text that may be a URL: 1 to 4,096 of the bytes that URLs have
pub record IsUrlText (t : List ℕ) : Type 0 where
  pub some : 1 ≤ length t
  pub short : length t ≤ 4096
  pub bytes : All (λ b. IsTrue (is_url_byte b)) t

-- the word names this instance: by its moniker, or by `@` and its incarnation
abbrev pub IsTargetText : List ℕ → Target → Type 0
IsTargetText t (Named m) = IsMonikerTextOf t m × (length t ≤ 4096)
IsTargetText t (Inc n) = (digits : List ℕ) × (t ≡ 64 ∷ digits) × IsNumberText digits n × (n < 2 ^ 64)

-- the word of a `create` names this source: `parent`, `self`, `framework`, `void`, or `#` and a child's name
abbrev pub IsOriginText : List ℕ → Origin → Type 0
IsOriginText t Parent = t ≡ codes "parent"
IsOriginText t Own = t ≡ codes "self"
IsOriginText t Framework = t ≡ codes "framework"
IsOriginText t Void = t ≡ codes "void"
IsOriginText t (Child c) = IsChildName c × (t ≡ 35 ∷ child_text c)

-- the text names these rights: words for rights, none twice, joined by commas
abbrev pub IsRightsText : List ℕ → RightSet → Type 0
IsRightsText t r = rights_of (slice_split (λ b. b == 44) t) ≡ Ok r

-- ---- kinds of words
