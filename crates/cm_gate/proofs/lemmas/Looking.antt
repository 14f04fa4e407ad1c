-- What is found at a place of a folder.
use Rattle.std.proofs.Common.{◌≡◌, ◌≢◌, ◌⊎◌, inl, inr, ℕ, List, Option, Some, subst, sym}
use Rattle.std.specs.declared.io.ErrorKind.{ErrorKind}
use Rattle.std.specs.declared.io.ErrorKind.TheVariants.{NotFound, NotADirectory, OutOfMemory}
use Rattle.cm_gate.specs.Places.{place_of_fetch}
use Rattle.cm_gate.specs.Reads.{FailsAt, FindsAt, FindsFile, FindsIn, IsMissing}
use Rattle.cm_gate.specs.declared.asked.Fetch.{Fetch}
use Rattle.cm_gate.specs.declared.asked.Fetched.{Fetched}
use Rattle.cm_gate.specs.declared.asked.Fetched.TheVariants as fetched

-- a file broke as it was read, and this was found in it
pub finds_broken : {File : Type 0} (left : File → Option (List ℕ)) (broken : File → ErrorKind → Type 0) (file : File) (kind : ErrorKind) (found : Fetched) → broken file kind → (kind ≡ OutOfMemory → found ≡ fetched.Memory) → (found ≡ fetched.Failed → kind ≢ OutOfMemory) → ((found ≡ fetched.Failed) ⊎ (kind ≡ OutOfMemory)) → FindsIn left broken file found
finds_broken left broken file kind found breaks memory other (inl is) = subst (λ (f : Fetched). FindsIn left broken file f) (sym is) (record { kind = kind; breaks = breaks; other = other is })
finds_broken left broken file kind found breaks memory other (inr out) = subst (λ (f : Fetched). FindsIn left broken file f) (sym (memory out)) tt

module _ {F File : Type 0} (opened : F → List ℕ → File → Type 0) (refused : F → List ℕ → ErrorKind → Type 0) (left : File → Option (List ℕ)) (broken : File → ErrorKind → Type 0) (folder : F) (place : List ℕ) where
  -- a file was opened there, and this was found in it
  pub finds_opened : (file : File) (found : Fetched) → opened folder place file → FindsIn left broken file found → FindsAt opened refused left broken folder place found
  finds_opened file (fetched.Found bytes) opens finds = record { file = file; opens = opens; prefix = finds }
  finds_opened file fetched.Absent opens finds = absurd finds
  finds_opened file fetched.Failed opens finds = FailsAt.not_read file opens finds
  finds_opened file fetched.Memory opens finds = tt

  -- none was opened since there is none
  finds_none : (kind : ErrorKind) (found : Fetched) → refused folder place kind → IsMissing kind → found ≡ fetched.Absent → FindsAt opened refused left broken folder place found
  finds_none kind found refuses missing is = subst (λ (f : Fetched). FindsAt opened refused left broken folder place f) (sym is) (record { kind = kind; refuses = refuses; missing = missing })

  -- none was opened, and this was found
  pub finds_unopened : (kind : ErrorKind) (found : Fetched) → refused folder place kind → (kind ≡ NotFound → found ≡ fetched.Absent) → (kind ≡ NotADirectory → found ≡ fetched.Absent) → (kind ≡ OutOfMemory → found ≡ fetched.Memory) → (found ≡ fetched.Failed → IsMissing kind → ⊥) → (found ≡ fetched.Failed → kind ≢ OutOfMemory) → ((found ≡ fetched.Failed) ⊎ (IsMissing kind ⊎ (kind ≡ OutOfMemory))) → FindsAt opened refused left broken folder place found
  finds_unopened kind found refuses none inside memory there other (inl is) = subst (λ (f : Fetched). FindsAt opened refused left broken folder place f) (sym is) (FailsAt.not_opened kind refuses (there is) (other is))
  finds_unopened kind found refuses none inside memory there other (inr (inl (inl missing))) = finds_none kind found refuses (inl missing) (none missing)
  finds_unopened kind found refuses none inside memory there other (inr (inl (inr missing))) = finds_none kind found refuses (inr missing) (inside missing)
  finds_unopened kind found refuses none inside memory there other (inr (inr out)) = subst (λ (f : Fetched). FindsAt opened refused left broken folder place f) (sym (memory out)) tt

  -- what was found at the place of a fetch
  pub finds_file : (what : Fetch) (found : Fetched) → FindsAt opened refused left broken folder place found → place_of_fetch what ≡ Some place → FindsFile opened refused left broken folder what found
  finds_file what (fetched.Found bytes) finds looks = record { place = place; looks = looks; there = finds }
  finds_file what fetched.Absent finds looks = inr (record { place = place; looks = looks; there = finds })
  finds_file what fetched.Failed finds looks = record { place = place; looks = looks; there = finds }
  finds_file what fetched.Memory finds looks = tt
