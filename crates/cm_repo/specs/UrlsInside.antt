-- Inside.
-- What stands before the fragment of a URL.
use Rattle.std.specs.Prelude.{◌≡◌, ℕ, List, ◌∷◌, ◌++◌, Bool, true, not, ◌||◌, ◌==◌, Some}
use Rattle.std.specs.List.{list_all}
use Rattle.cm_names.specs.Urls.{is_url_text}
use Rattle.cm_repo.specs.Urls.{has_fragment}

-- whether a byte begins neither a fragment nor a query
abbrev pub in_prefix : ℕ → Bool
in_prefix b = not ((b == 35) || (b == 63))

-- the text is this prefix and a fragment behind it; the prefix has no query
pub record IsUrlPrefix (prefix text : List ℕ) : Type 0 where
  pub old : List ℕ
  pub parts : text ≡ prefix ++ 35 ∷ old
  pub plain : list_all in_prefix prefix ≡ true

-- whether a byte isn't escaped in a fragment, if the text of a URL may have it at all
abbrev pub is_unescaped : ℕ → Bool
is_unescaped b = not ((b == 34) || (b == 60) || (b == 62) || (b == 96))

-- the text is this prefix and a fragment of at least one byte, of which none is escaped
pub record HasPlainFragment (prefix text : List ℕ) : Type 0 where
  pub fragment : List ℕ
  pub parts : text ≡ prefix ++ 35 ∷ fragment
  pub some : has_fragment (Some fragment) ≡ true
  pub plain : list_all is_unescaped fragment ≡ true

-- so is the base, and both texts are ones that nothing is taken from before they are parsed
pub record IsPlainPrefix (prefix base url : List ℕ) : Type 0 where
  pub parted : IsUrlPrefix prefix base
  pub base_text : is_url_text base ≡ true
  pub url_text : is_url_text url ≡ true
