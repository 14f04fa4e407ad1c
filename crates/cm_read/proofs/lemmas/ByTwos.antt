-- Fields that are read two by two are read as one after another.
use Rattle.std.proofs.Common.{◌≡◌, Ok, Err, refl, sym, ap, ◌∙◌, subst}
use Rattle.std.specs.Result.{IsErrAnd}
use Rattle.std.proofs.lemmas.Result.{err_from_is_err_and}
use Rattle.cm_names.specs.Steps.{◌>>=◌}
use Rattle.cm_read.specs.declared.fault.ReadFault.{ReadFault}
use Rattle.cm_read.specs.declared.fault.ReadFault.TheVariants.{Bad, Memory}
use Rattle.cm_read.specs.Reading.{ReadResult}
use Rattle.cm_read.specs.ReadingInside.{FailsReading, GivesReading}
use Rattle.cm_read.specs.Both.{both}

-- ---- the first readings, and all

-- Where the first of readings fails with a fault, all of them do.
fails_all : {A X : Type 0} (fault : ReadFault) (first : ReadResult A) (next : A → ReadResult X) (all : ReadResult X)
    → (first >>= next) ≡ all → FailsReading fault first → FailsReading fault all
fails_all Memory first next all e f = tt
fails_all (Bad number section index field) first next all e f = sym e ∙ ap (λ r. r >>= next) f

-- what is told of a fault of the first readings is what all have
pub fails_then : {A X : Type 0} (fault : ReadFault) (told : ReadResult X) (first : ReadResult A) (next : A → ReadResult X)
    (all : ReadResult X) → IsErrAnd told (λ other. other ≡ fault) → (first >>= next) ≡ all → FailsReading fault first
    → GivesReading told all
fails_then fault told first next all t e f =
    let p = err_from_is_err_and told t in rw (p.1, p.2) (fails_all fault first next all e f)

-- what all give is what comes behind the values of the first readings
pub reads_then : {A X : Type 0} (value : A) (first : ReadResult A) (next : A → ReadResult X) (all : ReadResult X)
    → (first >>= next) ≡ all → first ≡ Ok value → all ≡ next value
reads_then value first next all e f = sym e ∙ ap (λ r. r >>= next) f

-- A result that is made from the value of a first reading is what both give.
pub gives_then : {A X : Type 0} (value : A) (first : ReadResult A) (next : A → ReadResult X) (all result : ReadResult X)
    → (first >>= next) ≡ all → first ≡ Ok value → GivesReading result (next value) → GivesReading result all
gives_then value first next all result e f h =
    subst (λ (r : ReadResult _). GivesReading result r) (sym (reads_then value first next all e f)) h

-- ---- so many fields

-- Three fields that are read two by two are read as one after another.
pub three : {A B C X : Type 0} (a : ReadResult A) (b : ReadResult B) (c : ReadResult C)
    (k : A → B → C → ReadResult X)
    → (both (both a b) c >>= λ p. k p.0.0 p.0.1 p.1)
    ≡ (a >>= λ x. b >>= λ y. c >>= λ z. k x y z)
three (Err o) b c k = refl
three (Ok x) (Err o) c k = refl
three (Ok x) (Ok y) (Err o) k = refl
three (Ok x) (Ok y) (Ok z) k = refl

-- Four fields that are read two by two are read as one after another.
pub four : {A B C D X : Type 0} (a : ReadResult A) (b : ReadResult B) (c : ReadResult C) (d : ReadResult D)
    (k : A → B → C → D → ReadResult X)
    → (both (both a b) (both c d) >>= λ p. k p.0.0 p.0.1 p.1.0 p.1.1)
    ≡ (a >>= λ x. b >>= λ y. c >>= λ z. d >>= λ u. k x y z u)
four (Err o) b c d k = refl
four (Ok x) (Err o) c d k = refl
four (Ok x) (Ok y) (Err o) d k = refl
four (Ok x) (Ok y) (Ok z) (Err o) k = refl
four (Ok x) (Ok y) (Ok z) (Ok u) k = refl

-- Five fields that are read two by two are read as one after another.
pub five : {A B C D E X : Type 0} (a : ReadResult A) (b : ReadResult B) (c : ReadResult C) (d : ReadResult D) (e : ReadResult E)
    (k : A → B → C → D → E → ReadResult X)
    → (both (both a b) (both c (both d e)) >>= λ p. k p.0.0 p.0.1 p.1.0 p.1.1.0 p.1.1.1)
    ≡ (a >>= λ x. b >>= λ y. c >>= λ z. d >>= λ u. e >>= λ v. k x y z u v)
five (Err o) b c d e k = refl
five (Ok x) (Err o) c d e k = refl
five (Ok x) (Ok y) (Err o) d e k = refl
five (Ok x) (Ok y) (Ok z) (Err o) e k = refl
five (Ok x) (Ok y) (Ok z) (Ok u) (Err o) k = refl
five (Ok x) (Ok y) (Ok z) (Ok u) (Ok v) k = refl

-- Six fields that are read two by two are read as one after another.
pub six : {A B C D E F X : Type 0} (a : ReadResult A) (b : ReadResult B) (c : ReadResult C) (d : ReadResult D) (e : ReadResult E)
    (g : ReadResult F)
    (k : A → B → C → D → E → F → ReadResult X)
    → (both (both a b) (both (both c d) (both e g)) >>= λ p. k p.0.0 p.0.1 p.1.0.0 p.1.0.1 p.1.1.0 p.1.1.1)
    ≡ (a >>= λ x. b >>= λ y. c >>= λ z. d >>= λ u. e >>= λ v. g >>= λ w. k x y z u v w)
six (Err o) b c d e g k = refl
six (Ok x) (Err o) c d e g k = refl
six (Ok x) (Ok y) (Err o) d e g k = refl
six (Ok x) (Ok y) (Ok z) (Err o) e g k = refl
six (Ok x) (Ok y) (Ok z) (Ok u) (Err o) g k = refl
six (Ok x) (Ok y) (Ok z) (Ok u) (Ok v) (Err o) k = refl
six (Ok x) (Ok y) (Ok z) (Ok u) (Ok v) (Ok w) k = refl

-- Seven fields that are read two by two are read as one after another.
pub seven : {A B C D E F G X : Type 0} (a : ReadResult A) (b : ReadResult B) (c : ReadResult C) (d : ReadResult D) (e : ReadResult E)
    (g : ReadResult F) (h : ReadResult G)
    (k : A → B → C → D → E → F → G → ReadResult X)
    → (both (both (both a b) (both c d)) (both e (both g h))
    >>= λ p. k p.0.0.0 p.0.0.1 p.0.1.0 p.0.1.1 p.1.0 p.1.1.0 p.1.1.1)
    ≡ (a >>= λ x. b >>= λ y. c >>= λ z. d >>= λ u. e >>= λ v. g >>= λ w. h >>= λ t. k x y z u v w t)
seven (Err o) b c d e g h k = refl
seven (Ok x) (Err o) c d e g h k = refl
seven (Ok x) (Ok y) (Err o) d e g h k = refl
seven (Ok x) (Ok y) (Ok z) (Err o) e g h k = refl
seven (Ok x) (Ok y) (Ok z) (Ok u) (Err o) g h k = refl
seven (Ok x) (Ok y) (Ok z) (Ok u) (Ok v) (Err o) h k = refl
seven (Ok x) (Ok y) (Ok z) (Ok u) (Ok v) (Ok w) (Err o) k = refl
seven (Ok x) (Ok y) (Ok z) (Ok u) (Ok v) (Ok w) (Ok t) k = refl

-- Two fields that are read together are read as one after another.
pub two : {A B X : Type 0} (a : ReadResult A) (b : ReadResult B) (k : A → B → ReadResult X)
    → (both a b >>= λ p. k p.0 p.1) ≡ (a >>= λ x. b >>= λ y. k x y)
two (Err o) b k = refl
two (Ok x) (Err o) k = refl
two (Ok x) (Ok y) k = refl

-- ---- two fields, and what is asked of what is given

-- Six readings in turn, whose values then go on, are the six readings with what goes on in the end.
asked : {A B C D E F R X : Type 0} (a : ReadResult A) (b : ReadResult B) (c : ReadResult C) (d : ReadResult D) (e : ReadResult E)
    (g : ReadResult F)
    (f : A → B → C → D → E → F → R) (k : R → ReadResult X)
    → ((a >>= λ x. b >>= λ y. c >>= λ z. d >>= λ u. e >>= λ v. g >>= λ w. Ok (f x y z u v w)) >>= k)
    ≡ (a >>= λ x. b >>= λ y. c >>= λ z. d >>= λ u. e >>= λ v. g >>= λ w. k (f x y z u v w))
asked (Err o) b c d e g f k = refl
asked (Ok x) (Err o) c d e g f k = refl
asked (Ok x) (Ok y) (Err o) d e g f k = refl
asked (Ok x) (Ok y) (Ok z) (Err o) e g f k = refl
asked (Ok x) (Ok y) (Ok z) (Ok u) (Err o) g f k = refl
asked (Ok x) (Ok y) (Ok z) (Ok u) (Ok v) (Err o) f k = refl
asked (Ok x) (Ok y) (Ok z) (Ok u) (Ok v) (Ok w) f k = refl

-- Two readings in turn go on the same where what follows is the same for all their values.
behind_two : {N F X : Type 0} (n : ReadResult N) (f : ReadResult F) (p q : N → F → ReadResult X)
    → ((x : N) (y : F) → p x y ≡ q x y)
    → (n >>= λ x. f >>= λ y. p x y) ≡ (n >>= λ x. f >>= λ y. q x y)
behind_two (Err e) f p q h = refl
behind_two (Ok x) (Err e) p q h = refl
behind_two (Ok x) (Ok y) p q h = h x y

-- Two fields and the terms of six, which are read together, are read as one after another.
pub two_and_asked : {M N A B C D E F R X : Type 0} (m : ReadResult M) (n : ReadResult N) (a : ReadResult A) (b : ReadResult B)
    (c : ReadResult C) (d : ReadResult D) (e : ReadResult E) (g : ReadResult F) (f : A → B → C → D → E → F → R)
    (k : M → N → R → ReadResult X)
    → (both (both m n) (a >>= λ x. b >>= λ y. c >>= λ z. d >>= λ u. e >>= λ v. g >>= λ w. Ok (f x y z u v w))
    >>= λ p. k p.0.0 p.0.1 p.1)
    ≡ (m >>= λ i. n >>= λ j. a >>= λ x. b >>= λ y. c >>= λ z. d >>= λ u. e >>= λ v. g >>= λ w.
    k i j (f x y z u v w))
two_and_asked m n a b c d e g f k =
    three m n _ k ∙ behind_two m n _ _ (λ i j. asked a b c d e g f (k i j))
