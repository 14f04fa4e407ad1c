use Rattle.std.proofs.Common.{◌≡◌, ℕ, arith}
use Rattle.cm_world.specs.declared.action.Finish.TheVariants as finish
use Rattle.cm_world.specs.declared.action.Outcome.TheVariants as outcome
use Rattle.cm_world.specs.declared.event.Event.TheVariants.{End}
use Rattle.cm_laws.proofs.lemmas.actions.Beginners.{still_joined}
use Rattle.realm_tests.proofs.meanwhile.decline.Goals as goal

zero_not_one : ◌≡◌ {A = ℕ} 0 1 → ⊥
zero_not_one e = absurd (omega arith)

pub end-requires : goal.end-requires
end-requires c = record { may = c.requires }

pub returns : goal.returns
returns c = λ a joined.
    still_joined c.args.realm.now c.end.new.self 0 1 a (End c.args.begun (finish.Other outcome.Declined))
    c.end.result c.end.ensures.step zero_not_one joined
