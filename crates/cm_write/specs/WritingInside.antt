-- Inside.
-- What functions that write declarations promise.
use Rattle.std.specs.Prelude.{◌≡◌, ℕ, String, List, [], ◌∷◌, codes}
use Rattle.serde_json.specs.Data.{Data, string, put}
use Rattle.std.specs.declared.alloc.Global.{Global}
use Rattle.serde_json.specs.View.{members_view}
use Rattle.serde_json.specs.declared.value.Value.{Value}
use Rattle.cm_write.specs.Writing.{Pairs, with_pairs, object_of}

-- these members were put among the old ones
abbrev pub Puts : List (String Global × Value) → List (String Global × Value) → Pairs → Type 0
Puts old new ps = members_view new ≡ with_pairs (members_view old) ps

-- a use with nothing but its name, its source and its path
abbrev pub plain_use : List ℕ → List ℕ → List ℕ → List ℕ → Data
plain_use key name from path =
    object_of ((key, string name) ∷ (codes "from", string from) ∷ (codes "path", string path) ∷ [])
