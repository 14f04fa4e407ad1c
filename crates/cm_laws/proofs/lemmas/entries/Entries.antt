-- What is shown of an entry in the world that the entries before it leave, each entry of a legal history has.
use Rattle.std.proofs.Common.{List, ◌∷◌, subst}
use Rattle.cm_world.specs.declared.reply.Entry.{Entry}
use Rattle.cm_world.specs.World.{World}
use Rattle.cm_world.specs.Legal.{IsStep, Legal, replay}
use Rattle.cm_world.proofs.lemmas.trees.Histories.{Legal-split}
use Rattle.cm_laws.specs.Lasting.{OfEachEntry}

-- What holds of each entry that a legal history allows holds of each entry of that history.
pub of_each_entry : (P : List Entry → Entry → Type 0) (w : World) (es : List Entry) → Legal w es → ((prefix : List Entry) (e : Entry) → Legal w prefix → IsStep (replay w prefix) e → P prefix e) → OfEachEntry P es
of_each_entry P w es legal show prefix rest e whole =
    let both : Legal w prefix × Legal (replay w prefix) (e ∷ rest) = Legal-split w prefix (e ∷ rest) (subst (Legal w) whole legal) in
    show prefix e both.0 both.1.0
