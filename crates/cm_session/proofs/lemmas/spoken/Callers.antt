-- What is said of a caller's pass and gates, between two moments of the same caller.
use Rattle.std.proofs.Common.{◌≡◌, List, Option, refl, sym, subst}
use Rattle.cm_io.specs.LinesInside.{Reader}
use Rattle.cm_manager.specs.Caller.{CallerView, IsSameCaller}
use Rattle.cm_manager.specs.Contract.{RealmPass, GatesView}
use Rattle.cm_manager.specs.Managers.{ManagerView}
use Rattle.cm_manager.specs.Work.{Manifests}
use Rattle.cm_session.specs.declared.ended.Ended.{Ended}
use Rattle.cm_session.specs.Links.{LinkView}
use Rattle.cm_session.specs.Pool.{ServesLink}
use Rattle.cm_session.specs.Steps.{Stepped}

-- who does nothing is the same caller
pub same_caller : (s : CallerView) → IsSameCaller s s
same_caller s = record { manager = refl; name = refl }

-- what a caller did was done with the pass and the gates that it was made of, and left what it was taken apart into
pub made_and_parted : (Does : Manifests → RealmPass → RealmPass → GatesView → GatesView → Type 0) (s t : CallerView) (m : ManagerView) (p q : RealmPass) (g h : GatesView) → s.manager ≡ m → s.pass ≡ p → s.gates ≡ g → q ≡ t.pass → h ≡ t.gates
    → Does s.manager.manifests s.pass t.pass s.gates t.gates → Does m.manifests p q g h
made_and_parted Does s t m p q g h manager pass gates parted back it =
    subst (λ (k : GatesView). Does m.manifests p q g k) (sym back)
    (subst (λ (r : RealmPass). Does m.manifests p r g t.gates) (sym parted)
    (subst (λ (k : GatesView). Does m.manifests p t.pass k t.gates) gates
    (subst (λ (r : RealmPass). Does m.manifests r t.pass s.gates t.gates) pass
    (subst (λ (n : ManagerView). Does n.manifests s.pass t.pass s.gates t.gates) manager it))))

-- a later step is one over the manifests of the first moment
pub stepped_by : (s t u : CallerView) (before after : Reader) (old new : LinkView) (end : Option Ended) → IsSameCaller s t
    → Stepped t.manager.manifests t.pass u.pass t.gates u.gates before after old new end → Stepped s.manager.manifests t.pass u.pass t.gates u.gates before after old new end
stepped_by s t u before after old new end same it =
    subst (λ (m : ManagerView). Stepped m.manifests t.pass u.pass t.gates u.gates before after old new end) same.manager it

-- A service of a link by a caller that stayed the same is one by the caller that began.
pub link_served_by : {L : Type 0} (view : L → LinkView) (s t u : CallerView) (link : L) (old new : List L) (end : Ended) → IsSameCaller s t
    → ServesLink view t.manager.manifests t.pass u.pass t.gates u.gates link old new end → ServesLink view s.manager.manifests t.pass u.pass t.gates u.gates link old new end
link_served_by view s t u link old new end same it =
    subst (λ (m : ManagerView). ServesLink view m.manifests t.pass u.pass t.gates u.gates link old new end) same.manager it
