-- Inside.
-- Where in a folder the manifest of a URL lies.
use Rattle.std.specs.Prelude.{ℕ, List, ◌++◌, codes, length, ◌≤◌, Bool, not, ◌&&◌, ◌==◌, if◌then◌else◌}
use Rattle.std.specs.Prelude.{Option, Some, None, Ok, Err, option_map}
use Rattle.std.specs.List.{list_all}
use Rattle.cm_names.specs.MonikerInside.{behind_slash}
use Rattle.cm_names.specs.Path.{is_dots, parts_of}
use Rattle.cm_gate.specs.declared.asked.Fetch.{Fetch}
use Rattle.cm_gate.specs.declared.asked.Fetched.{Fetched}
use Rattle.cm_gate.specs.declared.asked.Fetched.TheVariants as fetched
use Rattle.url.specs.Host.{host_text}
use Rattle.url.specs.Parser.{parse_url, Parsed}
use Rattle.url.specs.Parts.{Parts, nonempty_host}

-- whether a part may name a file or a folder: it isn't empty, and isn't `.` or `..`
abbrev pub is_plain : List ℕ → Bool
is_plain part = not (length part == 0) && not (is_dots part)

-- whether all parts between slashes may
abbrev pub are_plain : List ℕ → Bool
are_plain text = list_all is_plain (parts_of text)

-- the path of the file for a URL's host, path and fragment
abbrev pub file_in : List ℕ → List ℕ → List ℕ → List ℕ → List ℕ
file_in repo host path fragment =
    repo ++ (codes "/" ++ (host ++ (codes "/" ++ (path ++ (codes "/" ++ fragment)))))

-- the path of the file for a URL's host, path and fragment, where all their parts are plain, so that
-- it is within the folder
abbrev pub place_in : List ℕ → List ℕ → List ℕ → List ℕ → Option (List ℕ)
place_in repo host path fragment =
    if is_plain host && (are_plain path && are_plain fragment)
    then Some (file_in repo host path fragment) else None

-- the file for a URL's parts; none without a host and a fragment
abbrev pub place_with : List ℕ → List ℕ → Option (List ℕ) → Option (List ℕ) → Option (List ℕ)
place_with repo path None fragment = None
place_with repo path (Some host) None = None
place_with repo path (Some host) (Some fragment) = place_in repo host (behind_slash path) fragment

-- the file for a URL that was parsed by the URL Standard; none where it is none
abbrev pub place_at : List ℕ → Parsed Parts → Option (List ℕ)
place_at repo (Ok url) = place_with repo url.path (option_map host_text (nonempty_host url)) url.fragment
place_at repo (Err fault) = None

-- where in a folder the manifest of a URL is looked for, if anywhere
unfoldable pub place_of : List ℕ → List ℕ → Option (List ℕ)
place_of repo url = place_at repo (parse_url None url)

-- where the manifest of a URL is looked for in a folder, where one is named; else nowhere
abbrev pub place_for : Option (List ℕ) → List ℕ → Option (List ℕ)
place_for None url = None
place_for (Some repo) url = place_of repo url

-- where the manifest of a fetch is looked for, if anywhere: in the folder that the fetch names
abbrev pub place_of_fetch : Fetch → Option (List ℕ)
place_of_fetch what = place_for what.repo what.url

-- what was found has at most so many bytes
abbrev pub HasAtMost : ℕ → Fetched → Type 0
HasAtMost limit (fetched.Found bytes) = length bytes ≤ limit
HasAtMost limit fetched.Absent = Unit {0}
HasAtMost limit fetched.Failed = Unit {0}
HasAtMost limit fetched.Memory = Unit {0}
