use Rattle.std.proofs.Common.{sym, subst}
use Rattle.cm_laws.specs.Story.{Story}
use Rattle.cm_cache.specs.Keeping.{IsKeptNumber}
use Rattle.cm_cache.proofs.lemmas.histories.Going.{beside_is_number}
use Rattle.cm_steps.proofs.realm.Realm.kept.Goals as goal

pub returns : goal.returns
returns c =
    subst (IsKeptNumber c.args.self.now.frame c.args.self.now.entries) (sym c.number.ensures)
    (subst (λ (s : Story). IsKeptNumber s.frame s.entries c.self.inside.records.keeper.number) c.self.view_is
    (beside_is_number c.self.inside.frame c.self.inside.records.book.entries c.self.inside.records.keeper c.self.invariant.beside))
