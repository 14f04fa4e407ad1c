use Rattle.std.proofs.Common.{sym, subst}
use Rattle.cm_plain.specs.JsonTree.{view}
use Rattle.cm_read.specs.ReadingInside.{GivesReading}
use Rattle.cm_read.proofs.lemmas.Text.{relaxed_decl}
use Rattle.cm_read.proofs.lemmas.reading.DeclRead.{is_of_data}
use Rattle.cm_read.proofs.manifest.decl_of_text.Goals as goal

pub returns-in-Some-clause-decl : goal.returns-in-Some-clause-decl
returns-in-Some-clause-decl c =
    let same = relaxed_decl c.args.text.now (view c.in-Some.tree) c.in-Some.ensures in
    subst (GivesReading c.decl_of.result) (sym same) c.decl_of.ensures

pub returns-in-Some-clause-readable : goal.returns-in-Some-clause-readable
returns-in-Some-clause-readable c = (is_of_data c.decl_of.result (view c.in-Some.tree) c.decl_of.ensures).readable

pub returns-in-Some-clause-formed : goal.returns-in-Some-clause-formed
returns-in-Some-clause-formed c = (is_of_data c.decl_of.result (view c.in-Some.tree) c.decl_of.ensures).formed
