-- What is said of a door whose links were served, or that gave none.
use Rattle.std.proofs.Common.{◌≡◌, ◌≢◌, ◌⊎◌, inl, inr, ℕ, ◌≤◌, ◌+◌, List, [], map, length, Option, Some, refl, sym, ap, subst, ◌∙◌, arith}
use Rattle.std.proofs.Math.Nat.{le_refl}
use Rattle.cm_io.specs.Counts.{one_more}
use Rattle.cm_io.specs.Doors.{CountsFault, IsOpenAt, IsOpen, DoorPlace, at, nowhere, somewhere, untold}
use Rattle.cm_io.specs.Outside.{Rose}
use Rattle.cm_io.specs.declared.door.DoorCounts.{DoorCounts}
use Rattle.cm_call.specs.declared.call.ServeOptions.{ServeOptions}
use Rattle.cm_world.specs.declared.frame.Frame.{Frame}
use Rattle.cm_gate.specs.declared.asked.GateCall.{GateCall}
use Rattle.cm_manager.specs.Work.{Manifests}
use Rattle.cm_session.specs.declared.served.Cause.{Cause}
use Rattle.cm_session.specs.declared.served.Cause.TheVariants as cause
use Rattle.cm_session.specs.Links.{LinkView}
use Rattle.cm_session.specs.Serving.{back_view}
use Rattle.cm_program.specs.Run.{IsServeStatus}
use Rattle.cm_program.specs.Sessions.{Attended, served_frame, served_manifests, status_of}
use Rattle.cm_program.specs.declared.ran.Ran.{Ran}
use Rattle.cm_program.proofs.lemmas.Statuses.{few_given, none_given}
use Rattle.cm_program.proofs.lemmas.links.Attending.{runs_no_session}

-- ---- which cause a status is

-- Where the status of served links is 0, they ended since all were done.
pub is_done : (why : Cause) → status_of why ≡ 0 → why ≡ cause.Done
is_done cause.Done is = refl
is_done cause.DoorFault is = absurd (cc is)
is_done cause.Memory is = absurd (cc is)

-- Where the status of served links is 5, they ended since the door failed.
pub is_fault : (why : Cause) → status_of why ≡ 5 → why ≡ cause.DoorFault
is_fault cause.Done is = absurd (cc is)
is_fault cause.DoorFault is = refl
is_fault cause.Memory is = absurd (cc is)

-- Whatever links ended for, the status is one that `serve` may end with.
pub serves : (why : Cause) → IsServeStatus (status_of why)
serves cause.Done = inl refl
serves cause.DoorFault = inr (inl refl)
serves cause.Memory = inr (inr refl)

-- ---- where peers may come

-- A place at which peers can come to a socket that the words name is open.
pub at_is_open : (wanted : List ℕ) (place : DoorPlace) → IsOpenAt wanted place → IsOpen place
at_is_open wanted untold is = tt
at_is_open wanted nowhere is = absurd is
at_is_open wanted somewhere is = tt
at_is_open wanted (at there) is = tt

-- A place that is the same as one open at a socket, under the same name, is open at it.
pub at_same : (wanted named : List ℕ) (now then : DoorPlace) → named ≡ wanted → then ≡ now → IsOpenAt named now → IsOpenAt wanted then
at_same wanted named now then same kept is = subst (λ (p : DoorPlace). IsOpenAt wanted p) (sym kept) (subst (λ (t : List ℕ). IsOpenAt t now) same is)

-- a run that failed doesn't end with 0
pub failed_run : {A : Type 0} {status told : ℕ} (n : ℕ) → status ≡ told → told ≡ n + 1 → status ≡ 0 → A
failed_run n same told is = absurd (omega (arith, same, told, is))

module _ {D L G : Type 0} (log_of : G → Option (List GateCall)) (faults_of : G → ℕ) (view : L → LinkView) (counts_of : D → DoorCounts) where
  -- The door was attended as the promise of a run with sessions says.
  abbrev IsSo : Frame → Manifests → ℕ → ℕ → List G → DoorCounts → Ran D L G → Type 0
  IsSo f manifests sessions workers gates before ran = Attended log_of faults_of view counts_of f manifests sessions workers gates before ran

  -- ---- where no link came

  -- A run of a door that gave no link, and ended with a failure, was attended as promised.
  unattended : (f : Frame) (manifests : Manifests) (sessions workers : ℕ) (gates : List G) (before : DoorCounts) (ran : Ran D L G)
      → length gates ≡ 16 → ran.book.entries ≡ [] → ran.gates ≡ gates → ran.links ≡ []
      → (counts_of ran.door).links ≡ before.links → ran.status ≢ 0 → (ran.status ≡ 5 → Rose before.faults (counts_of ran.door).faults) → IsServeStatus ran.status
      → IsSo f manifests sessions workers gates before ran
  unattended f manifests sessions workers gates before ran count none same no_links still ended failed others = record {
    sixteen = ap length same ∙ count;
    runs = runs_no_session log_of faults_of view f manifests workers gates ran.gates ran.book.entries (map (back_view view) ran.links) ran.status none same (ap (map (back_view view)) no_links);
    given = still ∙ none_given before.links ran.links no_links;
    few = few_given ran.links sessions no_links;
    done = λ is. absurd (ended is);
    sound = λ is. absurd (ended is);
    failed = failed;
    others = others;
  }

  -- for lack of memory
  pub unattended_for_want : (f : Frame) (manifests : Manifests) (sessions workers : ℕ) (gates : List G) (door : D) (ran : Ran D L G)
      → length gates ≡ 16 → ran.book.entries ≡ [] → ran.gates ≡ gates → ran.links ≡ [] → ran.door ≡ door → ran.status ≡ 6
      → IsSo f manifests sessions workers gates (counts_of door) ran
  unattended_for_want f manifests sessions workers gates door ran count none same no_links kept six =
      unattended f manifests sessions workers gates (counts_of door) ran count none same no_links
      (ap (λ (d : D). (counts_of d).links) kept) (λ is. absurd (cc (six, is))) (λ is. absurd (cc (six, is))) (inr (inr six))

  -- since the door failed
  pub unattended_for_fault : (f : Frame) (manifests : Manifests) (sessions workers : ℕ) (gates : List G) (before : DoorCounts) (now : D) (ran : Ran D L G)
      → length gates ≡ 16 → ran.book.entries ≡ [] → ran.gates ≡ gates → ran.links ≡ [] → ran.door ≡ now → ran.status ≡ 5 → CountsFault before (counts_of now)
      → IsSo f manifests sessions workers gates before ran
  unattended_for_fault f manifests sessions workers gates before now ran count none same no_links kept five fault =
      let counts : counts_of ran.door ≡ record before { faults = one_more before.faults } = ap counts_of kept ∙ fault.1 in
      unattended f manifests sessions workers gates before ran count none same no_links
      (ap (λ (c : DoorCounts). c.links) counts) (λ is. absurd (cc (five, is)))
      (λ is. subst (λ (n : ℕ). one_more before.faults ≤ n) (sym (ap (λ (c : DoorCounts). c.faults) counts)) (le_refl (one_more before.faults)))
      (inr (inl five))

  -- ---- what was asked for, and what it was made into

  -- What came of a door's links is the same for manifests and counts that are those of `serve`.
  pub attended_by : (o : ServeOptions) (made : Manifests) (gates : List G) (before now : DoorCounts) (ran : Ran D L G)
      → made ≡ served_manifests o → now ≡ before
      → IsSo (served_frame o) made o.sessions o.workers gates now ran
      → IsSo (served_frame o) (served_manifests o) o.sessions o.workers gates before ran
  attended_by o made gates before now ran manifests same is =
      subst (λ (m : Manifests). IsSo (served_frame o) m o.sessions o.workers gates before ran) manifests
      (subst (λ (c : DoorCounts). IsSo (served_frame o) made o.sessions o.workers gates c ran) same is)
