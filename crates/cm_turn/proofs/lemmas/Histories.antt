-- Facts about histories: beginnings of one list, and the entries of a caller.
use Rattle.std.proofs.Common.{◌≡◌, ◌≢◌, ◌⊎◌, ℕ, zero, suc, ◌+◌, ◌-◌, ◌*◌, ◌/◌, ◌%◌, ◌^◌, ◌<◌, ◌≤◌, List, [], ◌∷◌, ◌++◌, length, map, set, get_or, Some, None, Option, Bool, true, false, cond, eqb, true≢false, refl, sym, ap, ◌∙◌, subst, inl, inr, ⊎_elim, arith, ne_eqb, eq-eqb, append_assoc, length-append}
use Rattle.std.specs.Prelude.{filter, All, slice_index_or}
use Rattle.std.proofs.lemmas.List.Elements.{filter-append}
use Rattle.std.proofs.lemmas.List.{nil_from_length, append_cancel_left}
use Rattle.cm_turn.specs.History.{StartsWith, entries_by, longer, longer_if}

module _ {E : Type 0} where
  -- What begins with a history begins with what that one begins with.
  pub starts-trans : (a b c : List E) → StartsWith a b → StartsWith b c → StartsWith a c
  starts-trans a b c p q = (q.0 ++ p.0, p.1 ∙ (ap (λ (l : List E). l ++ p.0) q.1 ∙ append_assoc c q.0 p.0))

  -- A history begins with itself.
  pub starts-refl : (a : List E) → StartsWith a a
  starts-refl a = ([], sym (Rattle.std.proofs.Common.append-nil a))

  -- of two beginnings of one list, the longer begins with the shorter
  pub starts-longer : (xs ys log : List E) → StartsWith log xs → StartsWith log ys → length xs ≤ length ys → StartsWith ys xs
  starts-longer [] ys log p q le = (ys, refl)
  starts-longer (x ∷ xs) [] log p q le = absurd (omega arith)
  starts-longer (x ∷ xs) (y ∷ ys) [] p q le = absurd (cc (p.1))
  starts-longer (x ∷ xs) (y ∷ ys) (z ∷ zs) p q le =
      let p1 : zs ≡ xs ++ p.0 = cc (p.1) in
      let q1 : zs ≡ ys ++ q.0 = cc (q.1) in
      let h : x ≡ y = cc (p.1, q.1) in
      let r = starts-longer xs ys zs (p.0, p1) (q.0, q1) (omega arith) in
      (r.0, λ i. sym h i ∷ r.1 i)

  -- Two histories of which each begins with the other are the same.
  pub starts-antisym : (a b : List E) → StartsWith a b → StartsWith b a → a ≡ b
  starts-antisym a b p q = none_left p.0 p.1
    where
      none_left : (r : List E) → a ≡ b ++ r → a ≡ b
      none_left [] e = e ∙ Rattle.std.proofs.Common.append-nil b
      none_left (x ∷ xs) e = let m = ap length e ∙ length-append b (x ∷ xs) in let n = ap length q.1 ∙ length-append a q.0 in absurd (omega arith)

  -- A list that begins with two lists begins with the longer of them, whichever test chooses.
  starts-either : (c : Bool) (l xs ys : List E) → StartsWith l xs → StartsWith l ys → StartsWith l (longer_if c xs ys)
  starts-either true l xs ys p q = q
  starts-either false l xs ys p q = p

  -- Where the longer of two lists begins with both, it is the same in either order.
  pub longer-same : (xs ys : List E) → StartsWith (longer xs ys) xs → StartsWith (longer xs ys) ys → StartsWith (longer ys xs) xs → StartsWith (longer ys xs) ys → longer xs ys ≡ longer ys xs
  longer-same xs ys p q r s =
      starts-antisym (longer xs ys) (longer ys xs)
      (starts-either (Rattle.std.specs.Prelude.nat_lt (length ys) (length xs)) (longer xs ys) ys xs q p)
      (starts-either (Rattle.std.specs.Prelude.nat_lt (length xs) (length ys)) (longer ys xs) xs ys r s)

  -- A caller's entries in two lists are those in the first, and behind them those in the second.
  pub entries-append : (by : E → ℕ) (c : ℕ) (xs ys : List E) → entries_by by c (xs ++ ys) ≡ entries_by by c xs ++ entries_by by c ys
  entries-append by c xs ys = filter-append (λ e. eqb (by e) c) xs ys

  -- where all of a caller's entries were seen, a longer beginning has no others of it
  pub entries-between : (by : E → ℕ) (c : ℕ) (log mid seen mine : List E) → StartsWith log mid → StartsWith mid seen → entries_by by c log ≡ mine → entries_by by c seen ≡ mine → entries_by by c mid ≡ mine
  entries-between by c log mid seen mine p q all own =
      let X = entries_by by c q.0 in
      let Y = entries_by by c p.0 in
      let m : entries_by by c mid ≡ mine ++ X = ap (entries_by by c) q.1 ∙ (entries-append by c seen q.0 ∙ ap (λ l. l ++ X) own) in
      let l : mine ≡ (mine ++ X) ++ Y = sym all ∙ (ap (entries_by by c) p.1 ∙ (entries-append by c mid p.0 ∙ ap (λ l. l ++ Y) m)) in
      let e = ap length l ∙ (length-append (mine ++ X) Y ∙ ap (λ (k : ℕ). k + length Y) (length-append mine X)) in
      let z : length X ≡ 0 = omega arith in
      m ∙ (ap (λ l. mine ++ l) (nil_from_length X z) ∙ Rattle.std.proofs.Common.append-nil mine)

  -- Where all entries are of one caller, another one has none.
  pub entries-others : (by : E → ℕ) (c d : ℕ) (xs : List E) → All (λ e. by e ≡ c) xs → d ≢ c → entries_by by d xs ≡ []
  entries-others by c d [] h ne = refl
  entries-others by c d (x ∷ xs) h ne =
      let e : by x ≡ c = h 0 x (omega arith) in
      let n : eqb (by x) d ≡ false = ne_eqb (by x) d (λ k. ne (sym k ∙ e)) in
      rw n (entries-others by c d xs (λ k z l. h (suc k) z (omega arith)) ne)

  -- Where all entries are of one caller, they are all of that caller's.
  pub entries-own : (by : E → ℕ) (c : ℕ) (xs : List E) → All (λ e. by e ≡ c) xs → entries_by by c xs ≡ xs
  entries-own by c [] h = refl
  entries-own by c (x ∷ xs) h =
      let e : by x ≡ c = h 0 x (omega arith) in
      let n : eqb (by x) c ≡ true = eq-eqb (by x) c e in
      rw n (ap (λ (l : List E). x ∷ l) (entries-own by c xs (λ k z l. h (suc k) z (omega arith))))

  -- a caller's entries after a turn of its own
  pub entries-left : (by : E → ℕ) (c : ℕ) (log seen mine made es : List E) → log ≡ seen ++ made → All (λ e. by e ≡ c) made → entries_by by c seen ≡ mine → log ≡ seen ++ es → entries_by by c log ≡ mine ++ es
  entries-left by c log seen mine made es is alone own also =
      let same : made ≡ es = append_cancel_left seen made es (sym is ∙ also) in
      ap (entries_by by c) is ∙ (entries-append by c seen made ∙ (λ i. own i ++ (entries-own by c made alone ∙ same) i))

  -- an entry is among its caller's
  pub entries-some : (by : E → ℕ) (xs : List E) (k : ℕ) (d : E) → k < length xs → entries_by by (by (slice_index_or xs k d)) xs ≡ [] → ⊥
  entries-some by [] k d lt e = omega arith
  entries-some by (x ∷ xs) zero d lt e = absurd (cc (sym (rw (eq-eqb (by x) (by x) refl) at e)))
  entries-some by (x ∷ xs) (suc k) d lt e = kept_or (eqb (by x) (by (slice_index_or xs k d))) x (entries_by by (by (slice_index_or xs k d)) xs) (entries-some by xs k d (omega arith)) e
    where
      kept_or : (b : Bool) (x : E) (ys : List E) → (ys ≡ [] → ⊥) → cond b (x ∷ ys) ys ≡ [] → ⊥
      kept_or true x ys ne e = absurd (cc e)
      kept_or false x ys ne e = ne e
