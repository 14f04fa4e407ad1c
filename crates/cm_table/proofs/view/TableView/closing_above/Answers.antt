use Rattle.cm_table.specs.declared.marks.MarkKind.TheVariants.{Closing}
use Rattle.cm_table.proofs.view.TableView.closing_above.Goals as goal

pub returns : goal.returns
returns c = c.marks_above.ensures Closing
