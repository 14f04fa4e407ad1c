use Rattle.std.proofs.Common.{◌^◌, ◌∙◌, sym, ap}
use Rattle.std.specs.Prelude.{option_map}
use Rattle.std.specs.Option.{option_copied}
use Rattle.cm_table.proofs.lemmas.indexes.Told.{next_none, next_told, rises_told, kids_fit}
use Rattle.cm_table.proofs.view.TableView.next_child.Goals as goal

pub returns-in-None : goal.returns-in-None
returns-in-None c =
    next_none c.args.self.now.rows c.args.self.now.next_inc c.args.parent c.args.after c.slot.ensures.orderly
    (sym (ap (λ o. option_map (λ s. s.row) (option_copied o)) c.in-None.is) ∙ c.slot.ensures.row)

pub returns-in-Some : goal.returns-in-Some
returns-in-Some c =
    c.next_in.ensures ∙ next_told c.args.self.now.rows c.args.self.now.next_inc c.args.parent c.in-Some.slot.now c.slot.ensures.orderly c.in-Some.ensures.index
    (sym (ap (λ o. option_map (λ s. s.row) (option_copied o)) c.in-Some.is) ∙ c.slot.ensures.row) c.args.after

pub next_in-requires-clause-rises : goal.next_in-requires-clause-rises
next_in-requires-clause-rises c =
    rises_told c.args.self.now.rows c.args.self.now.next_inc c.args.parent c.in-Some.slot.now c.slot.ensures.orderly c.in-Some.ensures.index
    (sym (ap (λ o. option_map (λ s. s.row) (option_copied o)) c.in-Some.is) ∙ c.slot.ensures.row)

pub next_in-requires-clause-fits : goal.next_in-requires-clause-fits
next_in-requires-clause-fits c =
    kids_fit c.args.self.now.rows c.args.self.now.next_inc c.args.parent c.in-Some.slot.now c.slot.ensures.orderly c.in-Some.ensures.index
    (sym (ap (λ o. option_map (λ s. s.row) (option_copied o)) c.in-Some.is) ∙ c.slot.ensures.row) (2 ^ 64) c.slot.ensures.fits
