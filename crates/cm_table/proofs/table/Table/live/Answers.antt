use Rattle.std.proofs.Common.{◌∙◌, sym, ap}
use Rattle.std.specs.Prelude.{option_map}
use Rattle.std.specs.Option.{option_copied}
use Rattle.cm_table.proofs.lemmas.tree.Removing.{start}
use Rattle.cm_table.proofs.table.Table.live.Goals as goal

pub returns-in-None : goal.returns-in-None
returns-in-None c = sym c.slot.ensures.row ∙ ap (λ o. option_map (λ s. s.row) (option_copied o)) c.in-None.is

pub returns-in-Some : goal.returns-in-Some
returns-in-Some c =
    start c.args.self.now.rows c.args.self.now.next_inc c.args.inc _ c.slot.ensures.orderly
    (sym c.slot.ensures.row ∙ ap (λ o. option_map (λ s. s.row) (option_copied o)) c.in-Some.is)
