-- What a parse says of the rows.
use Rattle.std.proofs.Common.{◌≡◌, ℕ, ◌<◌, ◌≤◌, ◌^◌, Bool, true, false, cond, List, [], ◌∷◌, Some, Ok, Err, refl, sym, ap, ◌∙◌, inl, inr, subst}
use Rattle.std.specs.Str.Parse.{IsNumeral, digits_value, without_leading_plus}
use Rattle.clap.specs.Walk.{Row, Text}
use Rattle.clap.specs.Simple.{App, matches_of}
use Rattle.clap.specs.Faults.{fault_of}
use Rattle.clap.specs.Kinds.{Kinds, IsAmong, HasKind}
use Rattle.clap.specs.Values.{Accepts, kind_of}
use Rattle.clap.specs.ValueTests.{accepts}
use Rattle.clap.specs.declared.builder.ValueParser.TheVariants as value
use Rattle.clap.proofs.ValueTestLemmas.{accepts-Accepts, Accepts-accepts}
use Rattle.clap.specs.declared.error.Error.{Error}
use Rattle.clap.specs.declared.error.kind.ErrorKind.{ErrorKind}
use Rattle.clap.specs.declared.error.kind.ErrorKind.TheVariants as kind
use Rattle.cm_call.specs.Calls.{is_free, number_in, rows_read}
use Rattle.cm_call.specs.declared.call.WordsFault.TheVariants.{Usage}

-- Words in which the parser finds no fault are read as the rows that match them.
pub rows_ok : (app : App) (words : List Text) (rows : List Row) → fault_of app words ≡ [] → rows ≡ matches_of app words → rows_read app words ≡ Ok rows
rows_ok app words rows h e = ap (λ ks. cond (is_free ks) (Ok (matches_of app words)) (Err Usage)) h ∙ ap Ok (sym e)

-- A kind of errors that is among those that may come isn't free of them.
not_free : (k : ErrorKind) (ks : Kinds) → IsAmong k ks → is_free ks ≡ false
not_free k [] h = elim h [ ]
not_free k (x ∷ xs) h = refl

-- Words in which the parser finds a fault other than lack of memory are refused as usage.
pub rows_err : (app : App) (words : List Text) (e : Error) → HasKind (fault_of app words) e → (kind_of e ≡ kind.OutOfMemory → ⊥) → rows_read app words ≡ Err Usage
rows_err app words e (inl h) ne = absurd (ne h)
rows_err app words e (inr h) ne = ap (λ b. cond b (Ok (matches_of app words)) (Err Usage)) (not_free (kind_of e) (fault_of app words) h)

-- ---- numbers

-- The number that a text stands for, whose digits may follow a plus.
abbrev pub text_number : List ℕ → ℕ
text_number text = digits_value 10 (without_leading_plus text)

-- A text that no number within the bounds accepts is refused as a fault of usage.
number_refused : (low high : ℕ) (text : List ℕ) → (Accepts false (value.Unsigned low high) text → ⊥) → number_in low high (Some text) ≡ Err Usage
number_refused low high text never = by (accepts false (value.Unsigned low high) text) refl
  where
    by : (b : Bool) → accepts false (value.Unsigned low high) text ≡ b → cond b (Ok (text_number text)) (Err Usage) ≡ Err Usage
    by true is = absurd (never (accepts-Accepts false (value.Unsigned low high) text is))
    by false is = refl

-- A text that is no number of 64 bits is a faulty command line.
pub number_unread : (low high : ℕ) (text : List ℕ) → (IsNumeral 10 (without_leading_plus text) × (text_number text < 2 ^ 64) → ⊥) → number_in low high (Some text) ≡ Err Usage
number_unread low high text never = number_refused low high text (λ a. never (a.0, a.1))

-- A number that is within the bounds is the one that is read of its text.
pub number_within : (low high number : ℕ) (text : List ℕ) → IsNumeral 10 (without_leading_plus text) × (text_number text < 2 ^ 64) → number ≡ text_number text → low ≤ number → number ≤ high → number_in low high (Some text) ≡ Ok number
number_within low high number text read is above below =
    ap (λ b. cond b (Ok (text_number text)) (Err Usage))
    (Accepts-accepts false (value.Unsigned low high) text (read.0, read.1, subst (λ n. low ≤ n) is above, subst (λ n. n ≤ high) is below))
    ∙ ap Ok (sym is)
