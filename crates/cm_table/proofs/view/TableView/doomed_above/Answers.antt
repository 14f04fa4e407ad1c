use Rattle.cm_table.specs.declared.marks.MarkKind.TheVariants.{Doomed}
use Rattle.cm_table.proofs.view.TableView.doomed_above.Goals as goal

pub returns : goal.returns
returns c = c.marks_above.ensures Doomed
