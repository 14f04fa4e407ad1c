-- Lemmas on what a place of files is asked.
use Rattle.cm_keep.specs.declared.service.Unkept.{Unkept}
use Rattle.cm_keep.specs.declared.service.Unkept.TheVariants as unkept
use Rattle.cm_keep.specs.Files.{IsFaultLine, SaysWhere, SaysWhyUnkept, TellsWhere}
use Rattle.std.specs.Prelude.{MatchResult, IfOk, IfErr, Ok}
use Rattle.std.proofs.Common.{◌≡◌, ◌⊎◌, inl, inr, List, [], ◌∷◌, ◌++◌, Option, Some, None, Result, Err, OnErr, ap, sym, subst, ◌∙◌, append_assoc}
use Rattle.cm_reply.specs.Lists.{TextBytes}
use Rattle.cm_keep.specs.Asked.{Asks, AsksOneOf, FileNames, IsGoneOrSaysWhere, WasRefused, failed_keeping, failing, failing_last, faulting, leaving_nothing, letting_go, making, making_and_letting_go, refusing}
use Rattle.cm_keep.specs.declared.place.PlaceCall.{PlaceCall}

-- A log that has some calls more, and then more calls, has all of these more.
pub asks_more : (a b c : Option (List PlaceCall)) (xs ys : List PlaceCall) → Asks a b xs → Asks b c ys → Asks a c (xs ++ ys)
asks_more None b c xs ys before behind = tt
asks_more (Some x) b c xs ys before behind =
    subst (λ (m : Option (List PlaceCall)). Asks m c ys) before behind
    ∙ ap (λ (l : List PlaceCall). Some l) (append_assoc x xs ys)

-- A journal isn't kept where its new file is made and the keeping fails behind that.
failed_of : (n : FileNames) (a b c : Option (List PlaceCall))
    → Asks a b (making n) → AsksOneOf b c (failed_keeping n) → AsksOneOf a c (making_and_letting_go n ++ failing_last n ∷ [])
failed_of n a b c made (inl given_up) = inl (asks_more a b c _ _ made given_up)
failed_of n a b c made (inr (inl unsynced)) = inr (inl (asks_more a b c _ _ made unsynced))
failed_of n a b c made (inr (inr (inl unplaced))) = inr (inr (inl (asks_more a b c _ _ made unplaced)))
failed_of n a b c made (inr (inr (inr nothing))) = absurd nothing

-- A new file was made, and then a keeper failed that has these names, for that reason.
faulted_of : (n m : FileNames) (a b c d : Option (List PlaceCall))
    → Asks a b (making n) → AsksOneOf b c (failed_keeping m) → m ≡ n → d ≡ c
    → AsksOneOf a d (making_and_letting_go n ++ failing_last n ∷ [])
faulted_of n m a b c d made failed names same =
    subst (λ (x : Option (List PlaceCall)). AsksOneOf a x (making_and_letting_go n ++ failing_last n ∷ [])) (sym same)
    (failed_of n a b c made (subst (λ (x : FileNames). AsksOneOf b c (failed_keeping x)) names failed))

-- It is one of the ways in which a journal isn't kept.
pub failed_behind : (n m : FileNames) (a b c d : Option (List PlaceCall))
    → Asks a b (making n) → AsksOneOf b c (failed_keeping m) → m ≡ n → d ≡ c → AsksOneOf a d (failing n)
failed_behind n m a b c d made failed names same = inr (inr (inr (faulted_of n m a b c d made failed names same)))

-- What a line says is why, where the place of files was asked so.
pub was_refused : (a d : Option (List PlaceCall)) (calls : List (List PlaceCall)) (u : Unkept) → AsksOneOf a d calls → WasRefused a d calls u
was_refused a d calls unkept.Memory asked = tt
was_refused a d calls (unkept.Said line) asked = asked

-- A new file was made, and then a keeper failed: a line may say why.
pub refused_behind : (n m : FileNames) (a b c d : Option (List PlaceCall)) (u : Unkept)
    → Asks a b (making n) → AsksOneOf b c (failed_keeping m) → m ≡ n → d ≡ c → WasRefused a d (faulting n) u
refused_behind n m a b c d u made failed names same =
    was_refused a d (faulting n) u (inr (inr (faulted_of n m a b c d made failed names same)))

-- Where no new file is made, a journal isn't kept, for the same reason.
pub unmade_refused : (n : FileNames) (a d : Option (List PlaceCall)) (u : Unkept) → WasRefused a d (refusing n) u → WasRefused a d (faulting n) u
unmade_refused n a d unkept.Memory refused = tt
unmade_refused n a d (unkept.Said line) (inl unfit) = inl unfit
unmade_refused n a d (unkept.Said line) (inr (inl uncreated)) = inr (inl uncreated)
unmade_refused n a d (unkept.Said line) (inr (inr nothing)) = absurd nothing

-- Nothing of a journal is left where its new file is made and the keeping fails behind that and lets go.
gone_of : (n : FileNames) (a b c : Option (List PlaceCall))
    → Asks a b (making n) → AsksOneOf b c (letting_go n) → AsksOneOf a c (leaving_nothing n)
gone_of n a b c made (inl given_up) = inr (inr (inr (inl (asks_more a b c _ _ made given_up))))
gone_of n a b c made (inr (inl unsynced)) = inr (inr (inr (inr (inl (asks_more a b c _ _ made unsynced)))))
gone_of n a b c made (inr (inr nothing)) = absurd nothing

-- A new file was made, and then a keeper failed that has these names: it let go, or has all of it, and says where.
pub gone_behind : {W : Type 0} (n m : FileNames) (a b c d : Option (List PlaceCall)) (u : Unkept)
    → Asks a b (making n) → W ⊎ AsksOneOf b c (letting_go m) → m ≡ n → d ≡ c
    → (W → SaysWhere n.place n.beside u) → IsGoneOrSaysWhere a d n u
gone_behind n m a b c d u made (inl whole) names same says = inr (says whole)
gone_behind {W} n m a b c d u made (inr let_go) names same says =
    inl (subst (λ (x : Option (List PlaceCall)). AsksOneOf a x (leaving_nothing n)) (sym same)
    (gone_of n a b c made (subst (λ (x : FileNames). AsksOneOf b c (letting_go x)) names let_go)))

-- what is told of errors holds of one
pub at_err : {T E X : Type 0} (r : Result T E) (e : E) → r ≡ Err e → X → OnErr r X
at_err {T} {E} {X} r e same told = subst (λ (q : Result T E). OnErr q X) (sym same) told

-- ---- why no journal is kept

-- what is made of the line that tells of a fault with a journal tells of that journal's place
pub as_told : {E : Type 0} (place own : TextBytes) (line : Result TextBytes E) (u : Unkept) → own ≡ place → IfOk line (IsFaultLine own)
    → MatchResult line (λ text. u ≡ unkept.Said text) (λ _. u ≡ unkept.Memory) → SaysWhyUnkept place u
as_told place own (Ok text) u same is said = subst (λ (v : Unkept). SaysWhyUnkept place v) (sym said) (subst (λ (p : TextBytes). IsFaultLine p text) same is)
as_told place own (Err e) u same is said = subst (λ (v : Unkept). SaysWhyUnkept place v) (sym said) tt

-- What is made of the line that tells where a journal stands tells where.
pub as_where : {E : Type 0} (own n : FileNames) (line : Result TextBytes E) (u : Unkept) → own ≡ n → IfOk line (TellsWhere own.place own.beside)
    → MatchResult line (λ text. u ≡ unkept.Said text) (λ _. u ≡ unkept.Memory) → SaysWhere n.place n.beside u
as_where own n (Ok text) u same is said = subst (λ (v : Unkept). SaysWhere n.place n.beside v) (sym said) (subst (λ (m : FileNames). TellsWhere m.place m.beside text) same is)
as_where own n (Err e) u same is said = subst (λ (v : Unkept). SaysWhere n.place n.beside v) (sym said) tt

-- what holds of the error that a result is holds where the result is one
pub if_err : {T E : Type 0} (P : E → Type 0) (r : Result T E) (e : E) → r ≡ Err e → P e → IfErr r P
if_err {T} {E} P r e same holds = subst (λ (q : Result T E). IfErr q P) (sym same) holds
