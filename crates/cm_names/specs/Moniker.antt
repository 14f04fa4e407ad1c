-- Promised.
-- Monikers, which name instances by the path from the root, and how they are written.
use Rattle.std.specs.Prelude.{◌≡◌, ◌⊎◌, ℕ, List, [], ◌∷◌, codes, map}
use Rattle.std.specs.Prelude.{IfSome, All}
use Rattle.std.specs.List.{join_with_byte}
use Rattle.cm_names.specs.declared.child.ChildName.{ChildName}
use Rattle.cm_names.specs.declared.moniker.Moniker.{Moniker}
use Rattle.cm_names.specs.Name.{IsName}
use Rattle.cm_names.specs.Child.{child_text}

-- the names of a moniker, joined by slashes; a dot for none
abbrev pub text_of_parts : List ChildName → List ℕ
text_of_parts [] = codes "."
text_of_parts (c ∷ cs) = join_with_byte 47 (map child_text (c ∷ cs))

-- how a moniker is written
abbrev pub moniker_text : Moniker → List ℕ
moniker_text m = text_of_parts m.parts

-- the same with a slash before it; a slash alone stands for the root
abbrev pub text_from_root : List ChildName → List ℕ
text_from_root [] = codes "/"
text_from_root (c ∷ cs) = 47 ∷ text_of_parts (c ∷ cs)

-- a child's name, and its collection's, are names
abbrev pub IsChildName : ChildName → Type 0
IsChildName c = IsName c.name × IfSome c.coll IsName

-- the text is read as that moniker; it may begin with a slash or not
pub record IsMonikerTextOf (t : List ℕ) (m : Moniker) : Type 0 where
  pub names : All IsChildName m.parts
  pub written : (t ≡ moniker_text m) ⊎ (t ≡ text_from_root m.parts)
