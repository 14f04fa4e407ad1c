use Rattle.std.proofs.Common.{◌∙◌, sym, subst, IsTrue}
use Rattle.cm_names.specs.Path.{is_path}
use Rattle.cm_reply.proofs.lemmas.back.Cuts.{word_faults}
use Rattle.cm_reply.proofs.entry_words.path.Goals as goal

pub returns-in-Ok-clause-finds : goal.returns-in-Ok-clause-finds
returns-in-Ok-clause-finds c t is e = c.in-Ok.ensures.0 ∙ e

pub returns-in-Err-clause-finds : goal.returns-in-Err-clause-finds
returns-in-Err-clause-finds c t is e =
    word_faults (λ x. IsTrue (is_path x)) c.args.word.now c.in-Err.fault c.fault_of.result (subst (λ x. IsTrue (is_path x)) (sym e) is) c.in-Err.ensures c.fault_of.ensures
