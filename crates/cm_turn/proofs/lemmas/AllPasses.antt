-- When a list has all passes of a lock, for those who close one.
use Rattle.std.proofs.Common.{◌≡◌, ℕ, zero, suc, ◌<◌, List, [], ◌∷◌, ◌++◌, length, Some, refl, sym, ap, ◌∙◌, subst, arith, slice_index_or, length-append}
use mathlib.Core.Logic.{dite}
use native.Mathlib.Decide.{dec_lt}
use Rattle.std.proofs.lemmas.Option.{slice_get-get_or, slice_get_within, get_or_from_slice_get}
use Rattle.std.proofs.Math.ListN.{get_or-append}
use Rattle.std.proofs.Math.Seq.{get_or-append_seam}
use Rattle.atomic_table.specs.Seated.{TableId}
use Rattle.cm_turn.specs.Passes.{PassView, LockView, AreAll, IsPassOf, new_pass, new_passes}

-- The new passes of so many callers are that many.
new_passes-length : (E : Type 0) {F : Type 0} (lock : TableId) (f : F) (n : ℕ) → length (new_passes {E = E} lock f n) ≡ n
new_passes-length E lock f zero = refl
new_passes-length E lock f (suc n) =
    let e = length-append (new_passes {E = E} lock f n) (new_pass lock f n ∷ []) in
    let h = new_passes-length E lock f n in
    omega arith

module _ {E F : Type 0} where
  -- The new pass of a caller stands at its number among the new passes.
  new_passes-at : (lock : TableId) (f : F) (n c : ℕ) (d : PassView E F) → c < n → slice_index_or (new_passes lock f n) c d ≡ new_pass lock f c
  new_passes-at lock f zero c d lt = absurd (omega arith)
  new_passes-at lock f (suc n) c d lt =
      let prefix = new_passes {E = E} lock f n in
      let last : PassView E F = new_pass lock f n in
      let len : length prefix ≡ n = new_passes-length E lock f n in
      dite (dec_lt c n)
      (λ low. get_or-append prefix (last ∷ []) d c (omega arith) ∙ new_passes-at lock f n c d low)
      (λ high.
      let here : c ≡ length prefix = omega arith in
      let is : n ≡ c = omega arith in
      ap (λ k. slice_index_or (prefix ++ last ∷ []) k d) here ∙ (get_or-append_seam prefix last [] d ∙ ap (λ k. new_pass lock f k) is))

  -- the passes that a new lock gives are all of its passes
  pub AreAll-new : (l : LockView) (f : F) (passes : List (PassView E F)) → passes ≡ new_passes l.lock f l.passes → AreAll l passes
  AreAll-new l f passes is =
      let prefix = new_passes {E = E} l.lock f l.passes in
      let len : length prefix ≡ l.passes = new_passes-length E l.lock f l.passes in
      subst (λ ps. AreAll l ps) (sym is) (
        (λ k d lt. ap (λ (p : PassView E F). p.lock) (new_passes-at l.lock f l.passes k d (omega arith))),
        len,
        (λ c lt. (c, new_pass l.lock f c, slice_get-get_or prefix c (new_pass l.lock f c) (omega arith) ∙ ap Some (new_passes-at l.lock f l.passes c (new_pass l.lock f c) lt), refl)),
      )

  -- where each pass is of the lock and of the caller that it was, they are all passes still
  pub AreAll-kept : (l : LockView) (old new : List (PassView E F)) → length new ≡ length old
      → ((k : ℕ) (d : PassView E F) → k < length old → IsPassOf (slice_index_or old k d) (slice_index_or new k d))
      → AreAll l old → AreAll l new
  AreAll-kept l old new len each h = (
    (λ k d lt. let low : k < length old = omega arith in (each k d low).0 ∙ h.0 k d low),
    len ∙ h.1,
    (λ c lt.
        let x = h.2 c lt in
        let low : x.0 < length old = slice_get_within old x.0 x.1 x.2 in
        (x.0, slice_index_or new x.0 x.1, slice_get-get_or new x.0 x.1 (omega arith), (each x.0 x.1 low).1 ∙ (ap (λ (p : PassView E F). p.caller) (get_or_from_slice_get old x.0 x.1 x.1 x.2) ∙ x.3))),
  )
