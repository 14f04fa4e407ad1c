use Rattle.std.proofs.Common.{◌^◌, ◌∙◌, sym, ap}
use Rattle.std.specs.Prelude.{option_map}
use Rattle.std.specs.Option.{option_copied}
use Rattle.cm_table.proofs.lemmas.indexes.Told.{child_none, child_told, child_fits}
use Rattle.cm_table.proofs.view.TableView.child.Goals as goal

pub returns-in-None : goal.returns-in-None
returns-in-None c =
    child_none c.args.self.now.rows c.args.self.now.next_inc c.args.parent c.args.name.now c.slot.ensures.orderly
    (sym (ap (λ o. option_map (λ s. s.row) (option_copied o)) c.in-None.is) ∙ c.slot.ensures.row)

pub returns-in-Some : goal.returns-in-Some
returns-in-Some c =
    c.child_in.ensures ∙ child_told c.args.self.now.rows c.args.self.now.next_inc c.args.parent c.in-Some.slot.now c.slot.ensures.orderly c.in-Some.ensures.index
    (sym (ap (λ o. option_map (λ s. s.row) (option_copied o)) c.in-Some.is) ∙ c.slot.ensures.row) c.args.name.now

pub child_in-requires : goal.child_in-requires
child_in-requires c = λ n e.
    child_fits c.args.self.now.rows c.args.self.now.next_inc c.args.parent c.in-Some.slot.now c.slot.ensures.orderly c.in-Some.ensures.index
    (sym (ap (λ o. option_map (λ s. s.row) (option_copied o)) c.in-Some.is) ∙ c.slot.ensures.row) (2 ^ 64) c.slot.ensures.fits c.args.name.now n e
