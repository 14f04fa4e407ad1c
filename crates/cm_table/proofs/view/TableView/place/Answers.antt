use Rattle.std.proofs.Common.{◌≡◌, is_some, sym, ap, ◌∙◌, subst}
use Rattle.std.specs.Prelude.{option_map}
use Rattle.std.specs.Option.{option_copied}
use Rattle.cm_world.specs.declared.row.Row.{Row}
use Rattle.cm_table.specs.Tree.{Tree}
use Rattle.cm_world.specs.Sound.{IsOrderly}
use Rattle.cm_table.proofs.lemmas.tree.Standing.{root_bare, parent_named}
use Rattle.cm_table.proofs.view.TableView.place.Goals as goal

pub place_of-requires : goal.place_of-requires
place_of-requires c =
    subst (λ (r : Row). is_some r.parent ≡ is_some r.name) (sym c.get.ensures)
    (parent_named c.args.self.now.rows c.args.self.now.next_inc c.args.inc c.in-Some.slot.now.row c.slot.ensures.orderly
    (sym (sym (ap (λ o. option_map (λ s. s.row) (option_copied o)) c.in-Some.is) ∙ c.slot.ensures.row)))

pub returns-then-inc-eq0-clause-orderly : goal.returns-then-inc-eq0-clause-orderly
returns-then-inc-eq0-clause-orderly c = subst (λ (t : Tree). IsOrderly t.rows t.next_inc) c.self.view_is c.self.invariant.orderly

pub returns-then-inc-eq0-clause-parent : goal.returns-then-inc-eq0-clause-parent
returns-then-inc-eq0-clause-parent c =
    (root_bare c.args.self.now.rows c.args.self.now.next_inc c.args.inc
    (subst (λ (t : Tree). IsOrderly t.rows t.next_inc) c.self.view_is c.self.invariant.orderly) c.if-inc-eq0.true).0

pub returns-then-inc-eq0-clause-name : goal.returns-then-inc-eq0-clause-name
returns-then-inc-eq0-clause-name c =
    (root_bare c.args.self.now.rows c.args.self.now.next_inc c.args.inc
    (subst (λ (t : Tree). IsOrderly t.rows t.next_inc) c.self.view_is c.self.invariant.orderly) c.if-inc-eq0.true).1
