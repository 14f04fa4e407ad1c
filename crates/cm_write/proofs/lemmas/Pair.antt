-- Pairs that are put among members.
use Rattle.std.proofs.Common.{◌≡◌, [], ◌∷◌, ◌++◌, refl}
use Rattle.serde_json.specs.Data.{Members, put}
use Rattle.cm_write.specs.Writing.{Pairs, with_pairs}

-- Putting some pairs among members, and others behind them, is putting all of them there at once.
pub with_pairs_append : (ms : Members) (ps qs : Pairs) → with_pairs ms (ps ++ qs) ≡ with_pairs (with_pairs ms ps) qs
with_pairs_append ms [] qs = refl
with_pairs_append ms (p ∷ ps) qs = with_pairs_append (put p.0 p.1 ms) ps qs
