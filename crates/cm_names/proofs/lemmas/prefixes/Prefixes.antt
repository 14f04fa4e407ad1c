-- Reading a text by places: a kind of text that is read byte by byte, from place to place.
use Rattle.std.proofs.Common.{◌≡◌, ℕ, ◌+◌, ◌<◌, ◌≤◌, List, [], ◌∷◌, ◌++◌, length, take, drop, get_or, Option, Some, None, Bool, true, false, true≢false, refl, sym, ap, subst, ◌∙◌, arith, length-append}
use Rattle.std.proofs.lemmas.List.{take_more, take-append-drop}
use Rattle.std.proofs.lemmas.Option.{none-some}
use Rattle.cm_names.specs.Prefixes.{HasCompletion, IsLongestPrefix}

-- the place behind a text, where there is one
abbrev pub state_after : {P : Type 0} → (P → ℕ → Option P) → P → List ℕ → Option P
state_after {P} next p [] = Some p
state_after {P} next p (b ∷ bs) =
    elim (next p b) as (λ _. Option P) [ None ↦ None | Some q ↦ state_after next q bs ]

-- from this place the text leads to one where it may end
pub record Accepts {P : Type 0} (next : P → ℕ → Option P) (may_end : P → Bool) (p : P) (t : List ℕ) : Type 0 where
  pub last : P
  pub leads : state_after next p t ≡ Some last
  pub ends : may_end last ≡ true

-- where the prefix of a text leads, the rest goes on from
pub state_after-append : {P : Type 0} (next : P → ℕ → Option P) (p q : P) (xs ys : List ℕ) → state_after next p xs ≡ Some q → state_after next p (xs ++ ys) ≡ state_after next q ys
state_after-append {P} next p q [] ys h = cc
state_after-append {P} next p q (b ∷ bs) ys h =
    elim (next p b) as (λ o. elim o as (λ _. Option P) [ None ↦ None | Some r ↦ state_after next r bs ] ≡ Some q → elim o as (λ _. Option P) [ None ↦ None | Some r ↦ state_after next r (bs ++ ys) ] ≡ state_after next q ys) [
      | None ↦ λ e. cc
      | Some r ↦ λ e. state_after-append next r q bs ys e
    ] h

-- a prefix that leads nowhere isn't mended by what follows
pub state_after-stuck : {P : Type 0} (next : P → ℕ → Option P) (p : P) (xs ys : List ℕ) → state_after next p xs ≡ None → state_after next p (xs ++ ys) ≡ None
state_after-stuck {P} next p [] ys h = cc
state_after-stuck {P} next p (b ∷ bs) ys h =
    elim (next p b) as (λ o. elim o as (λ _. Option P) [ None ↦ None | Some r ↦ state_after next r bs ] ≡ None → elim o as (λ _. Option P) [ None ↦ None | Some r ↦ state_after next r (bs ++ ys) ] ≡ None) [
      | None ↦ λ e. refl
      | Some r ↦ λ e. state_after-stuck next r bs ys e
    ] h

-- A byte alone leads where the next step from that place leads.
one : {P : Type 0} (next : P → ℕ → Option P) (p : P) (b : ℕ) (o : Option P) → next p b ≡ o → state_after next p (b ∷ []) ≡ o
one {P} next p b o e =
    ap (λ r. elim r as (λ _. Option P) [ None ↦ None | Some q ↦ Some q ]) e ∙ elim o as (λ r. elim r as (λ _. Option P) [ None ↦ None | Some q ↦ Some q ] ≡ r) [ None ↦ refl | Some q ↦ refl ]

-- The state behind bytes, where the first leads on, is the state behind the others from there.
pub state_after-cons : {P : Type 0} (next : P → ℕ → Option P) (p q : P) (b : ℕ) (bs : List ℕ) → next p b ≡ Some q → state_after next p (b ∷ bs) ≡ state_after next q bs
state_after-cons next p q b bs e = state_after-append next p q (b ∷ []) bs (one next p b (Some q) e)

-- The state behind one byte more is the next of the state before.
pub one_more : {P : Type 0} (next : P → ℕ → Option P) (start : P) (xs : List ℕ) (i : ℕ) (p : P) (o : Option P) → i < length xs → state_after next start (take i xs) ≡ Some p → next p (get_or xs i 0) ≡ o → state_after next start (take (i + 1) xs) ≡ o
one_more next start xs i p o lt h e =
    ap (state_after next start) (take_more xs i 0 lt) ∙ state_after-append next start p (take i xs) (get_or xs i 0 ∷ []) h ∙ one next p (get_or xs i 0) o e

-- ---- what a prefix of the text adds to an accepted rest

-- Where a text leads to a place that accepts another, the two together are accepted.
pub accepts_from : {P : Type 0} {next : P → ℕ → Option P} {may_end : P → Bool} (p q : P) (xs ys : List ℕ) → state_after next p xs ≡ Some q → Accepts next may_end q ys → Accepts next may_end p (xs ++ ys)
accepts_from {P} {next} {may_end} p q xs ys h rest =
    record { last = rest.last; leads = state_after-append next p q xs ys h ∙ rest.leads; ends = rest.ends }

-- What a prefix leaves of an accepted text is accepted from the state behind the prefix.
pub accepts_rest : {P : Type 0} {next : P → ℕ → Option P} {may_end : P → Bool} (p q : P) (xs ys : List ℕ) → state_after next p xs ≡ Some q → Accepts next may_end p (xs ++ ys) → Accepts next may_end q ys
accepts_rest {P} {next} {may_end} p q xs ys h whole =
    record { last = whole.last; leads = sym (state_after-append next p q xs ys h) ∙ whole.leads; ends = whole.ends }

-- Where no byte is left and the rest is accepted, the text may end.
pub at_end : {P : Type 0} {next : P → ℕ → Option P} {may_end : P → Bool} (p : P) (ys : List ℕ) → length ys ≡ 0 → Accepts next may_end p ys → may_end p ≡ true
at_end {P} {next} {may_end} p [] n h = let same : p ≡ h.last = cc h.leads in ap may_end same ∙ h.ends
at_end {P} {next} {may_end} p (y ∷ ys) n h = absurd (omega arith)

-- the place behind the first byte
pub record Onward {P : Type 0} (next : P → ℕ → Option P) (may_end : P → Bool) (p : P) (b : ℕ) (bs : List ℕ) : Type 0 where
  pub place : P
  pub is : next p b ≡ Some place
  pub rest : Accepts next may_end place bs

-- The first byte of an accepted text leads to a place that accepts the others.
pub onward : {P : Type 0} {next : P → ℕ → Option P} {may_end : P → Bool} (p : P) (b : ℕ) (bs : List ℕ) → Accepts next may_end p (b ∷ bs) → Onward next may_end p b bs
onward {P} {next} {may_end} p b bs h =
    elim (next p b) as (λ o. next p b ≡ o → elim o as (λ _. Option P) [ None ↦ None | Some r ↦ state_after next r bs ] ≡ Some h.last → Onward next may_end p b bs) [
      | None ↦ λ _ e. absurd (none-some h.last e)
      | Some r ↦ λ is e. record { place = r; is = is; rest = record { last = h.last; leads = e; ends = h.ends } }
    ] refl h.leads

-- ---- a kind of text that has a limit

-- the texts of the kind are those that are accepted from the start and within the limit
pub record IsReadFrom {P : Type 0} (next : P → ℕ → Option P) (may_end : P → Bool) (start : P) (limit : ℕ) (K : List ℕ → Type 0) : Type 0 where
  pub accepted : (t : List ℕ) → K t → Accepts next may_end start t
  pub short : (t : List ℕ) → K t → length t ≤ limit
  pub is_kind : (t : List ℕ) → Accepts next may_end start t → length t ≤ limit → K t

-- what leads to a place from which the text can end in time is the prefix of such a text
pub can_begin : {P : Type 0} {next : P → ℕ → Option P} {may_end : P → Bool} {start : P} {limit : ℕ} {K : List ℕ → Type 0} → IsReadFrom next may_end start limit K → (t : List ℕ) (p : P) → state_after next start t ≡ Some p → (rest : List ℕ) → Accepts next may_end p rest → length t + length rest ≤ limit → HasCompletion K t
can_begin {P} {next} {may_end} {start} {limit} {K} read t p h rest ends fits =
    (rest, read.is_kind (t ++ rest) (accepts_from start p t rest h ends) (omega (arith, length-append t rest)))

-- what leads nowhere is no such prefix
pub cannot_begin : {P : Type 0} {next : P → ℕ → Option P} {may_end : P → Bool} {start : P} {limit : ℕ} {K : List ℕ → Type 0} → IsReadFrom next may_end start limit K → (t : List ℕ) → state_after next start t ≡ None → HasCompletion K t → ⊥
cannot_begin {P} {next} {may_end} {start} {limit} {K} read t h begun =
    let whole = read.accepted (t ++ begun.0) begun.1 in
    none-some whole.last (sym (state_after-stuck next start t begun.0 h) ∙ whole.leads)

-- A text that fills the limit and may not end there has no completion.
pub cannot_end : {P : Type 0} {next : P → ℕ → Option P} {may_end : P → Bool} {start : P} {limit : ℕ} {K : List ℕ → Type 0} → IsReadFrom next may_end start limit K → (t : List ℕ) (p : P) → state_after next start t ≡ Some p → may_end p ≡ false → limit ≤ length t → HasCompletion K t → ⊥
cannot_end {P} {next} {may_end} {start} {limit} {K} read t p h unfinished full begun =
    let whole = read.accepted (t ++ begun.0) begun.1 in
    let fits : length t + length begun.0 ≤ limit = omega (arith, length-append t begun.0, read.short (t ++ begun.0) begun.1) in
    let ended : may_end p ≡ true = at_end p begun.0 (omega arith) (accepts_rest start p t begun.0 h whole) in
    absurd (true≢false (sym ended ∙ unfinished))

-- what goes on behind the longest prefix is no such text
pub not_whole : {K : List ℕ → Type 0} (t : List ℕ) (n : ℕ) → IsLongestPrefix K t n → n < length t → K t → ⊥
not_whole {K} t n prefix lt whole =
    prefix.stops lt (drop (n + 1) t, subst K (sym (take-append-drop (n + 1) t)) whole)
