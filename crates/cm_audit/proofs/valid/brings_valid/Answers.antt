use Rattle.std.proofs.Common.{◌↔◌, IfOk, IsTrue, refl, subst}
use Rattle.cm_decl.specs.declared.decl.Decl.{Decl}
use Rattle.cm_decl.specs.Valid.{IsValid}
use Rattle.cm_audit.proofs.lemmas.Judged.{brings_by}
use Rattle.cm_audit.proofs.valid.brings_valid.Goals as goal

pub returns : goal.returns
returns c =
    brings_by c.args.event.now _ c.in-End.finish _ c.in-Resolved.decl c.is_valid.result c.in-End.is c.in-Resolved.is
    (subst (λ (d : Decl). IfOk c.is_valid.result (λ b. IsTrue b ↔ IsValid d)) c.get.ensures c.is_valid.ensures)
