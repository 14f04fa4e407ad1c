-- The text behind a mark.
use Rattle.std.proofs.Common.{◌≡◌, ◌≢◌, ℕ, Bool, true, false, cond, List, [], ◌∷◌, Option, Some, None, option_map, refl, sym, ap, Bor, ◌==◌, eqb-true}
use Rattle.std.specs.Option.{MatchOption}
use Rattle.cm_read.specs.Fields.{behind_mark}

-- A text that begins with no mark has nothing behind one.
by : (c : ℕ) (cs : List ℕ) (b : Bool) → (c == 35) ≡ b → ((rest : List ℕ) → (c ∷ cs) ≢ 35 ∷ rest) → None ≡ cond b (Some cs) None
by c cs true e h = absurd (h cs (ap (λ d. d ∷ cs) (eqb-true c 35 e)))
by c cs false e h = refl

-- What a text has behind its mark, if it begins with one, is what was found there.
pub behind : (bs : List ℕ) (r : Option (Bor (List ℕ))) → MatchOption r ((rest : List ℕ) → bs ≢ 35 ∷ rest) (λ x. bs ≡ 35 ∷ x.now) → option_map (λ s. s.now) r ≡ behind_mark bs
behind bs (Some x) h = sym (ap behind_mark h)
behind [] None h = refl
behind (c ∷ cs) None h = by c cs (c == 35) refl h
