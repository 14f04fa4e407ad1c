use Rattle.std.proofs.Common.{◌∙◌, ap, map}
use Rattle.cm_world.specs.End.{child_row}
use Rattle.cm_table.proofs.prepared.made_for.Goals as goal

pub returns-clause-rows : goal.returns-clause-rows
returns-clause-rows c = c.in_ok-children.ensures.rows ∙ ap (map (child_row 0 0)) (c.as_slice.ensures ∙ ap (λ d. d.children) c.get.ensures)
