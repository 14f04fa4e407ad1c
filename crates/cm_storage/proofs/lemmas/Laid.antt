-- Offers laid out by name and target.
use Rattle.std.proofs.Common.{◌≡◌, ℕ, ◌+◌, ◌<◌, ◌≤◌, List, [], ◌∷◌, ◌++◌, Bool, true, false, cond, ◌&&◌, true≢false, Option, Some, None, is_some, length, take, find, get_or, refl, sym, ◌∙◌, ap, ap₂, subst}
use Rattle.std.specs.Option.{option_copied, option_or}
use Rattle.std.specs.HashMap.{HashMap, get, get_by}
use Rattle.std.specs.Map.{lookup}
use Rattle.std.specs.Str.{bytes_eq}
use Rattle.std.specs.Cmp.Lexicographic.{bytes_decides}
use Rattle.std.proofs.lemmas.Bool.{and_parts}
use Rattle.std.proofs.lemmas.List.Folds.{find-append}
use Rattle.std.proofs.lemmas.List.{take_more, take_all}
use Rattle.cm_decl.specs.declared.storage.StorageOffer.{StorageOffer}
use Rattle.cm_storage.specs.OfferIndex.{Key, same, is_by, offer_in, IsIndexOf, IsPutInIndex}
use denote.Ref.{Bor}
use Rattle.cm_facts.proofs.Options.{is_some_false, option_or_none}

-- what stands at a key stands at each of the same bytes
same_key : {S : Type 0} (index : HashMap Key (Bor StorageOffer) S) (k q : Key) → same k q ≡ true → get same index q ≡ get same index k
same_key index k q e =
    let both : (bytes_eq k.0.now q.0.now ≡ true) × (bytes_eq k.1.now q.1.now ≡ true) = and_parts (bytes_eq k.0.now q.0.now) (bytes_eq k.1.now q.1.now) e in
    let name : k.0.now ≡ q.0.now = (bytes_decides k.0.now q.0.now).0 both.0 in
    let to : k.1.now ≡ q.1.now = (bytes_decides k.1.now q.1.now).0 both.1 in
    ap₂ (λ a b. get_by (λ (x : Key). bytes_eq a x.0.now && bytes_eq b x.1.now) index) (sym name) (sym to)

-- An offer that is there stays, whatever comes behind it.
some_stays : (x : Option (Bor StorageOffer)) (y : Option StorageOffer) → is_some x ≡ true → option_or (option_copied x) y ≡ option_copied x
some_stays None y there = absurd (true≢false (sym there))
some_stays (Some a) y there = refl

-- an offer is by the name and to the target of its own key
at_key : (o : StorageOffer) (k q : Key) → k.0.now ≡ o.target_name → k.1.now ≡ o.to → is_by q.0.now q.1.now o ≡ same k q
at_key o k q name to = ap₂ (λ a b. bytes_eq a q.0.now && bytes_eq b q.1.now) (sym name) (sym to)

-- Where an index has an offer for a key, one that comes behind it for that key changes nothing.
stays_by : {S : Type 0} (o : StorageOffer) (index : HashMap Key (Bor StorageOffer) S) (k q : Key) (t : Bool) → same k q ≡ t → is_some (get same index k) ≡ true → offer_in index q ≡ option_or (offer_in index q) (cond t (Some o) None)
stays_by o index k q false e there = sym (option_or_none (offer_in index q))
stays_by o index k q true e there = sym (some_stays (get same index q) (Some o) (ap is_some (same_key index k q e) ∙ there))

-- nothing more is put where something stands
pub put_stays : {S : Type 0} (o : StorageOffer) (index : HashMap Key (Bor StorageOffer) S) (k : Key) → k.0.now ≡ o.target_name → k.1.now ≡ o.to → is_some (get same index k) ≡ true → IsPutInIndex o index index
put_stays o index k name to there q =
    stays_by o index k q (same k q) refl there
    ∙ ap (λ t. option_or (offer_in index q) (cond t (Some o) None)) (sym (at_key o k q name to))

-- An offer put in an index at a free key is found there where none was before.
adds_by : {S : Type 0} (o : StorageOffer) (v : Bor StorageOffer) (old new : HashMap Key (Bor StorageOffer) S) (k q : Key) (t : Bool) → same k q ≡ t → v.now ≡ o → get same old k ≡ None → get same new q ≡ cond t (Some v) (get same old q) → offer_in new q ≡ option_or (offer_in old q) (cond t (Some o) None)
adds_by o v old new k q true e is free at =
    ap option_copied at ∙ ap Some is
    ∙ sym (ap (λ x. option_or (option_copied x) (Some o)) (same_key old k q e ∙ free))
adds_by o v old new k q false e is free at = ap option_copied at ∙ sym (option_or_none (offer_in old q))

-- what is put where nothing stands stands there
pub put_adds : {S : Type 0} (o : StorageOffer) (v : Bor StorageOffer) (old new : HashMap Key (Bor StorageOffer) S) (k : Key) → k.0.now ≡ o.target_name → k.1.now ≡ o.to → v.now ≡ o → is_some (get same old k) ≡ false → ((q : Key) → get same new q ≡ cond (same k q) (Some v) (get same old q)) → IsPutInIndex o old new
put_adds o v old new k name to is free at q =
    adds_by o v old new k q (same k q) refl is (is_some_false (get same old k) free) (at q)
    ∙ ap (λ t. option_or (offer_in old q) (cond t (Some o) None)) (sym (at_key o k q name to))

-- An empty index is one of no offers.
pub index_none : {S : Type 0} (index : HashMap Key (Bor StorageOffer) S) → index.entries ≡ [] → IsIndexOf [] index
index_none index e q = ap (λ es. option_copied (lookup (same q) es)) e

-- With one offer more put in, the index is that of the offers so far.
pub index_more : {S : Type 0} (offers : List StorageOffer) (i : ℕ) (o : StorageOffer) (old new : HashMap Key (Bor StorageOffer) S) → i < length offers → o ≡ get_or offers i o → IsIndexOf (take i offers) old → IsPutInIndex o old new → IsIndexOf (take (i + 1) offers) new
index_more offers i o old new below at before put q =
    put q
    ∙ ap (λ x. option_or x (find (is_by q.0.now q.1.now) (o ∷ []))) (before q)
    ∙ sym (find-append (is_by q.0.now q.1.now) (take i offers) (o ∷ []))
    ∙ ap (find (is_by q.0.now q.1.now)) (sym (take_more offers i o below ∙ ap (λ x. take i offers ++ x ∷ []) (sym at)))

-- An index of the first so many offers is one of all, where there are no more than these.
pub index_whole : {S : Type 0} (offers : List StorageOffer) (i : ℕ) (index : HashMap Key (Bor StorageOffer) S) → length offers ≤ i → IsIndexOf (take i offers) index → IsIndexOf offers index
index_whole offers i index past before = subst (λ os. IsIndexOf os index) (take_all i offers past) before
