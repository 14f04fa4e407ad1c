use Rattle.std.proofs.Common.{rules, List, ℕ, subst}
use Rattle.cm_steps.specs.Ends.{finish_of}
use Rattle.cm_manager.specs.Doing.{EndsBy}
use Rattle.cm_manager.proofs.lemmas.calling.Doings.{did_kept}
use Rattle.cm_manager.proofs.manager.Manager.find_manifest.Goals as goal

pub returns-in-Some-clause-did : goal.returns-in-Some-clause-did
returns-in-Some-clause-did g c = λ w at.
    did_kept c.args.self.now.manifests w c.args.resolved.url c.in-Some.bytes.now (finish_of c.ending_by.result) _ at (search rules)
    (subst (λ (bytes : List ℕ). EndsBy c.args.resolved.url bytes (finish_of c.ending_by.result)) c.as_slice.ensures c.ending_by.ensures.ends)
