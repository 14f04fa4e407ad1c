use Rattle.std.proofs.Common.{rules, ◌≡◌, ℕ, false, inl}
use Rattle.cm_facts.proofs.Booleans.{true_and_false}
use Rattle.cm_order.specs.Glances.{is_in_set}
use Rattle.cm_order.proofs.lemmas.levels.Real.{none_listed}
use Rattle.cm_order.proofs.dependents.Dependents.of.Goals as goal

pub returns : goal.returns
returns g c =
    let none : (z : ℕ) → is_in_set c.new-3.result z ≡ false = search rules in
    record {
      clients = λ z x other strong. inl (c.in_ok-put_level.ensures.all z x other strong);
      strong = c.in_ok-put_level.ensures.real (none_listed (g.V.View.rows c.args.view.now) c.args.parent c.new.result c.new.ensures.empty);
      closed = λ z x other strong there. absurd (true_and_false (is_in_set c.new-3.result x) there (none x));
      cleared = λ z there. absurd (true_and_false (is_in_set c.new-3.result z) there (none z));
    }
