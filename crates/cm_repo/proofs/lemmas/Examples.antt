-- What the definitions give for some URLs, by computation.
use Rattle.std.proofs.Common.{◌≡◌, codes, Ok, Err, [], ◌∷◌, refl}
use Rattle.url.proofs.OnLiterals.{url_on_literals}
use Rattle.cm_repo.specs.Blocks.{added}
use Rattle.cm_repo.specs.Urls.{key_of, absolute_of}
use Rattle.cm_repo.specs.declared.fault.RepoFault.TheVariants.{Repeated}
use Rattle.cm_repo.specs.declared.fault.UrlFault.TheVariants.{BadUrl, NoFragment}

-- a fragment alone lies in the package of its base
in_package : absolute_of (codes "fuchsia-pkg://t/a#meta/root.cm") (codes "#meta/logger.cm") ≡ Ok (codes "fuchsia-pkg://t/a#meta/logger.cm")
unfolding url_on_literals absolute_of
in_package = refl

-- A fragment joined to a boot URL takes the place of its fragment.
in_boot : absolute_of (codes "fuchsia-boot:///#meta/root.cm") (codes "#meta/logger.cm") ≡ Ok (codes "fuchsia-boot:///#meta/logger.cm")
unfolding url_on_literals absolute_of
in_boot = refl

-- a URL that stands alone is its own text, whatever the base
own_text : absolute_of (codes "fuchsia-pkg://t/a#meta/root.cm") (codes "fuchsia-boot:///#meta/root.cm") ≡ Ok (codes "fuchsia-boot:///#meta/root.cm")
unfolding url_on_literals absolute_of key_of
own_text = refl

-- a fragment alone needs a base that is a URL
empty_base : absolute_of (codes "") (codes "#meta/logger.cm") ≡ Err BadUrl
unfolding url_on_literals absolute_of
empty_base = refl

-- A fragment isn't joined to a base without a scheme, which is a bad URL.
relative_base : absolute_of (codes "a#meta/root.cm") (codes "#meta/logger.cm") ≡ Err BadUrl
unfolding url_on_literals absolute_of
relative_base = refl

-- An absolute URL without fragment fails as one.
no_fragment : absolute_of (codes "") (codes "fuchsia-pkg://t/a") ≡ Err NoFragment
unfolding url_on_literals absolute_of key_of
no_fragment = refl

-- A fragment that is empty counts as none.
empty_fragment : absolute_of (codes "fuchsia-pkg://t/a#meta/root.cm") (codes "#") ≡ Err NoFragment
unfolding url_on_literals absolute_of
empty_fragment = refl

-- A URL with a space in its host is bad.
space_in_host : absolute_of (codes "") (codes "fuchsia-pkg://t a/b#meta/root.cm") ≡ Err BadUrl
unfolding url_on_literals absolute_of key_of
space_in_host = refl

-- a space in the path or the fragment is written `%20`, and `..` goes
escaped : absolute_of (codes "") (codes "fuchsia-pkg://t/x/../a b#meta/root cm") ≡ Ok (codes "fuchsia-pkg://t/a%20b#meta/root%20cm")
unfolding url_on_literals absolute_of key_of
escaped = refl

-- Spaces of a path that doesn't begin with a slash stay in its URL, which is then bad.
space_stays : absolute_of (codes "") (codes "foo:a b#x") ≡ Err BadUrl
unfolding url_on_literals absolute_of key_of
space_stays = refl

-- two spellings of a URL have one key
repeated : added ((codes "fuchsia-pkg://t/a%20b#meta/root.cm", codes "{}") ∷ []) (codes "fuchsia-pkg://t/a b#meta/root.cm") (codes "[]") ≡ Err Repeated
unfolding url_on_literals key_of
repeated = refl

-- A URL with another fragment is added under another key.
two_blocks : added ((codes "fuchsia-pkg://t/a#meta/root.cm", codes "{}") ∷ []) (codes "fuchsia-pkg://t/a#meta/logger.cm") (codes "[]")
    ≡ Ok ((codes "fuchsia-pkg://t/a#meta/root.cm", codes "{}") ∷ (codes "fuchsia-pkg://t/a#meta/logger.cm", codes "[]") ∷ [])
unfolding url_on_literals key_of
two_blocks = refl
