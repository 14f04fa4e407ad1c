use Rattle.std.proofs.Common.{◌^◌, ◌∙◌, None, sym, ap}
use Rattle.std.specs.Prelude.{option_map}
use Rattle.std.specs.Option.{option_copied}
use Rattle.cm_table.proofs.lemmas.indexes.Told.{next_none, kids_fit, last_if_none, last_if_some}
use Rattle.cm_table.proofs.table.Table.last_child.Goals as goal

pub returns-in-None-clause-none : goal.returns-in-None-clause-none
returns-in-None-clause-none c =
    sym (next_none c.args.self.now.rows c.args.self.now.next_inc c.args.parent None c.slot.ensures.orderly
    (sym (ap (λ o. option_map (λ s. s.row) (option_copied o)) c.in-None.is) ∙ c.slot.ensures.row))

pub last_in-requires : goal.last_in-requires
last_in-requires c =
    kids_fit c.args.self.now.rows c.args.self.now.next_inc c.args.parent c.in-Some.slot.now c.slot.ensures.orderly c.in-Some.ensures.index
    (sym (ap (λ o. option_map (λ s. s.row) (option_copied o)) c.in-Some.is) ∙ c.slot.ensures.row) (2 ^ 64) c.slot.ensures.fits

pub returns-in-Some-clause-none : goal.returns-in-Some-clause-none
returns-in-Some-clause-none c =
    last_if_none c.args.self.now.rows c.args.self.now.next_inc c.args.parent c.in-Some.slot.now c.slot.ensures.orderly c.in-Some.ensures.index
    (sym (ap (λ o. option_map (λ s. s.row) (option_copied o)) c.in-Some.is) ∙ c.slot.ensures.row) c.last_in.result c.last_in.ensures

pub returns-in-Some-clause-some : goal.returns-in-Some-clause-some
returns-in-Some-clause-some c =
    last_if_some c.args.self.now.rows c.args.self.now.next_inc c.args.parent c.in-Some.slot.now c.slot.ensures.orderly c.in-Some.ensures.index
    (sym (ap (λ o. option_map (λ s. s.row) (option_copied o)) c.in-Some.is) ∙ c.slot.ensures.row) c.last_in.result c.last_in.ensures
