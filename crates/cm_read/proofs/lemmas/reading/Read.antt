-- What is read has a property: the steps that all readers have in common.
use Rattle.std.proofs.Common.{◌≡◌, ℕ, suc, List, [], ◌∷◌, length, Bool, true, false, nat_lt, if◌then◌else◌, Option, Some, None, Ok, Err, refl, arith}
use Rattle.std.specs.Prelude.{IfOk, IfSome, All, ok_or}
use Rattle.std.specs.List.{flat_map}
use Rattle.std.proofs.lemmas.List.Elements.{All-nil, All-cons, All-append}
use Rattle.serde_json.specs.Data.{Data}
use Rattle.cm_read.specs.declared.fault.ItemPlace.{ItemPlace}
use Rattle.cm_read.specs.declared.fault.ReadFault.{ReadFault}
use Rattle.cm_read.specs.Numbers.{not_with_many, unknown_word}
use Rattle.cm_names.specs.Steps.{◌>>=◌}
use Rattle.cm_facts.proofs.Lists.{All_cons_option}
use Rattle.cm_read.specs.Reading.{ReadResult, bad}
use Rattle.cm_read.specs.Fields.{or_default, if_there, unless_fault, each, text_at, listed_at}
use Rattle.cm_read.specs.Items.{alone}
use Rattle.cm_read.specs.Readable.{ForSomeOf}

-- ---- what is read

-- what is read, if there is no fault, has the property
pub record Reads {A : Type 0} (P : A → Type 0) (r : ReadResult A) : Type 0 where
  pub value : IfOk r P

-- A fault gives no value, so what is read has any property.
pub fails : {A : Type 0} {P : A → Type 0} (e : ReadFault) → Reads P (Err e)
fails e = record { value = tt }

-- A value that has a property is read with it.
pub gives : {A : Type 0} {P : A → Type 0} {x : A} → P x → Reads P (Ok x)
gives h = record { value = h }

-- nothing is said of the value
pub any : {A : Type 0} (r : ReadResult A) → Reads (λ (x : A). Unit {0}) r
any (Ok x) = record { value = tt }
any (Err e) = record { value = tt }

-- the value is the one that is read
pub exact : {A : Type 0} (r : ReadResult A) → Reads (λ (x : A). r ≡ Ok x) r
exact (Ok x) = record { value = refl }
exact (Err e) = record { value = tt }

-- reading goes on with a value that has the property
pub next : {A B : Type 0} {P : A → Type 0} {Q : B → Type 0} {r : ReadResult A} {f : A → ReadResult B} → Reads P r → ((x : A) → P x → Reads Q (f x)) → Reads Q (r >>= f)
next {A} {B} {P} {Q} {r} {f} g h = by r g.value
  where
    by : (s : ReadResult A) → IfOk s P → Reads Q (s >>= f)
    by (Ok x) p = h x p
    by (Err e) p = fails e

-- A value that is read only where a test passes has what follows from the test.
pub tested : {A : Type 0} {P : A → Type 0} (b : Bool) (x : A) (e : ReadFault) → (b ≡ true → P x) → Reads P (if b then Ok x else Err e)
tested true x e h = gives (h refl)
tested false x e h = fails e

-- ---- fields

-- A value that is read or defaulted has a property, where the default and what is read have it.
pub defaulted : {A : Type 0} {P : A → Type 0} (o : Option Data) (default : A) (read : Data → ReadResult A) → P default → ((d : Data) → Reads P (read d)) → Reads P (or_default o default read)
defaulted None default read h f = gives h
defaulted (Some d) default read h f = f d

-- What is given and has a property is read as what may be missing and else has it.
given_is : {A : Type 0} {P : A → Type 0} (x : A) → P x → Reads (λ o. ForSomeOf o P) (Ok (Some x))
given_is x p = gives p

-- A value that is read where it is there has a property, where whatever is read has it.
pub given : {A : Type 0} {P : A → Type 0} (o : Option Data) (read : Data → ReadResult A) → ((d : Data) → Reads P (read d)) → Reads (λ x. ForSomeOf x P) (if_there o read)
given None read f = gives tt
given {A} {P} (Some d) read f = next (f d) (λ x p. given_is {A = A} {P = P} x p)

-- A value that is read only where there is no fault has what follows from there being none.
pub unless : {A F : Type 0} {P : A → Type 0} (o : Option F) (e : ReadFault) (x : A) → (o ≡ None → P x) → Reads P (unless_fault o e x)
unless None e x h = gives (h refl)
unless (Some f) e x h = fails e

-- A value that may stand only beside a single name has the property that it had.
pub alone_reads : {A : Type 0} {P : A → Type 0} (at : ItemPlace) (key : List ℕ) (names : List (List ℕ)) (x : A) → P x → Reads P (alone at key names x)
alone_reads {A} {P} at key names x p = by (nat_lt 1 (length names))
  where
    by : (b : Bool) → Reads P (if b then Err (bad at not_with_many key) else Ok x)
    by true = fails (bad at not_with_many key)
    by false = gives p

-- ---- what a word means

-- the value, if there is one, has the property
pub record Means {A : Type 0} (P : A → Type 0) (o : Option A) : Type 0 where
  pub value : IfSome o P

-- A word's meaning has a property, where the first meaning and all later ones have it.
pub means : {A : Type 0} {P : A → Type 0} (b : Bool) (x : A) {o : Option A} → P x → Means P o → Means P (if b then Some x else o)
means true x p h = record { value = p }
means false x p h = h

-- Where a word has no meaning, any property holds of its meaning.
pub means_nothing : {A : Type 0} {P : A → Type 0} → Means P None
means_nothing = record { value = tt }

-- What a word means, or else a fault, is read with the property of its meanings.
pub meant : {A : Type 0} {P : A → Type 0} (o : Option A) (e : ReadFault) → Means P o → Reads P (ok_or o e)
meant None e h = fails e
meant (Some x) e h = gives h.value

-- What is read in a field by the meanings of its words has the property that all meanings have.
pub listed_reads : {A : Type 0} {P : A → Type 0} (meaning : List ℕ → Option A) (at : ItemPlace) (key : List ℕ) (d : Data)
    → ((t : List ℕ) → Means P (meaning t)) → Reads P (listed_at meaning at key d)
listed_reads meaning at key d h =
    next (any (text_at at key d)) (λ text _. meant (meaning text) (bad at unknown_word key) (h text))

-- ---- rows

-- What is made of each item of a list has a property, where what is made of any such item has it.
pub all_in_turn : {A B : Type 0} (P : A → Type 0) (Q : B → Type 0) (f : A → List B) (xs : List A) → ((x : A) → P x → All Q (f x)) → All P xs → All Q (flat_map f xs)
all_in_turn P Q f [] h ps = All-nil Q
all_in_turn P Q f (x ∷ xs) h ps =
    All-append Q (f x) (flat_map f xs) (h x (ps 0 x (omega arith))) (all_in_turn P Q f xs h (λ k d lt. ps (suc k) d (omega arith)))

-- What is read of each of some texts has a property, where what is read of any text has it.
pub each_reads : {A : Type 0} (P : A → Type 0) (read : List ℕ → ReadResult A) (ts : List (List ℕ)) → ((t : List ℕ) → Reads P (read t)) → Reads (All P) (each read ts)
each_reads P read [] h = gives (All-nil P)
each_reads P read (t ∷ ts) h = next (h t) (λ x p. next (each_reads P read ts h) (λ xs ps. gives (All-cons P x xs p ps)))
