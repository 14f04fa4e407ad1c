-- Promised.
-- The text of a URL, alone or relative to a base, by which manifests are found. How URLs are parsed
-- and written is the URL Standard's.
use Rattle.std.specs.Prelude.{ℕ, Bool, true, false, List, [], ◌∷◌, Option, Some, None}
use Rattle.std.specs.Prelude.{Result, Ok, Err, ◌==◌, if◌then◌else◌}
use Rattle.url.specs.Parser.{parse_url, Parsed}
use Rattle.url.specs.Parts.{Parts, serialize}
use Rattle.cm_names.specs.Urls.{is_url_text}
use Rattle.cm_names.specs.Steps.{◌>>=◌}
use Rattle.cm_repo.specs.declared.fault.UrlFault.{UrlFault}
use Rattle.cm_repo.specs.declared.fault.UrlFault.TheVariants.{BadUrl, NoFragment}

-- what was parsed; whatever the URL Standard refuses is a bad URL
abbrev pub accepted : {A : Type 0} → Parsed A → Result A UrlFault
accepted (Ok x) = Ok x
accepted (Err reason) = Err BadUrl

-- the URL that a text is, relative to a base if there is one
abbrev pub url_on : Option Parts → List ℕ → Result Parts UrlFault
url_on base text = accepted (parse_url base text)

-- whether a URL has a fragment with at least one byte
abbrev pub has_fragment : Option (List ℕ) → Bool
has_fragment None = false
has_fragment (Some []) = false
has_fragment (Some (byte ∷ bytes)) = true

-- the text of a URL that names a manifest by its fragment, where it is one that manifests and commands
-- can have
abbrev pub text_of : Parts → Result (List ℕ) UrlFault
text_of url =
    if is_url_text (serialize url) then
    (if has_fragment url.fragment then Ok (serialize url) else Err NoFragment)
    else Err BadUrl

-- the text of a URL that stands alone
unfoldable pub key_of : List ℕ → Result (List ℕ) UrlFault
key_of url = url_on None url >>= text_of

-- whether a text begins with `#`, so that it is relative
abbrev pub begins_with_hash : List ℕ → Bool
begins_with_hash [] = false
begins_with_hash (byte ∷ bytes) = byte == 35

-- the text of a URL relative to a base
abbrev pub joined_to : List ℕ → List ℕ → Result (List ℕ) UrlFault
joined_to base url = do
  whole ← url_on None base
  joined ← url_on (Some whole) url
  text_of joined

-- the absolute URL of a child, by its parent's: one that begins with `#` is relative to it, all others
-- stand alone
unfoldable pub absolute_of : List ℕ → List ℕ → Result (List ℕ) UrlFault
absolute_of base url = if begins_with_hash url then joined_to base url else key_of url
