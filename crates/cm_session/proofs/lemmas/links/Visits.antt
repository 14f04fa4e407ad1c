-- Visits of one worker, one after another.
use Rattle.std.proofs.Common.{List, [], ◌∷◌, ◌++◌, refl, inl}
use Rattle.cm_manager.specs.Contract.{GatesView, RealmPass}
use Rattle.cm_manager.specs.Work.{Manifests}
use Rattle.cm_session.specs.Serving.{ServesVisits, ServedLink, Visits, none_came, one_first}
use Rattle.cm_session.specs.Session.{KeepsOrNot}
use Rattle.cm_session.proofs.lemmas.spoken.Kept.{kept_then}

-- With one visit more at the end, visits are served one after another.
pub serves_more : (manifests : Manifests) (vs : List ServedLink) (v : ServedLink) (p q r : RealmPass) (g h k : GatesView) → ServesVisits manifests vs p q g h → Visits manifests v q r h k → ServesVisits manifests (vs ++ v ∷ []) p r g k
serves_more manifests [] v p q r g h k none_came visits = ServesVisits.one_first visits ServesVisits.none_came
serves_more manifests (w ∷ ws) v p q r g h k (one_first {q = x} {h = y} first rest) visits = ServesVisits.one_first first (serves_more manifests ws v x q r y h k rest visits)

-- Visits that were served keep whole calls, or leave pass and gates as they were.
pub serves_keep : (manifests : Manifests) (vs : List ServedLink) (p q : RealmPass) (g h : GatesView) → ServesVisits manifests vs p q g h → KeepsOrNot manifests p q g h
serves_keep manifests [] p q g h none_came = inl (refl, refl)
serves_keep manifests (v ∷ vs) p r g k (one_first {q = x} {h = y} first rest) = kept_then manifests p x r g y k first.session.keeps (serves_keep manifests vs x r y k rest)
