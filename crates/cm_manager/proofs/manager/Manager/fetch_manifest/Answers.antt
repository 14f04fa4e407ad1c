use Rattle.std.proofs.Common.{List, ℕ, subst}
use Rattle.cm_steps.specs.Ends.{finish_of}
use Rattle.cm_manager.specs.Doing.{EndsBy}
use Rattle.cm_manager.proofs.lemmas.calling.Doings.{did_nothing, did_fetch, did_absent, did_want, did_fail, fetched_for}
use Rattle.cm_manager.proofs.manager.Manager.fetch_manifest.Goals as goal

pub returns-in_default-clause-did : goal.returns-in_default-clause-did
returns-in_default-clause-did g c = λ w at. did_nothing c.args.self.now.manifests w _

pub returns-in-Found-clause-did : goal.returns-in-Found-clause-did
returns-in-Found-clause-did g c = λ w at. did_fetch c.args.self.now.manifests w c.args.url c.in-Found.bytes _ _ _ at c.requires
    (fetched_for c.args.self.now.manifests c.args.url c.in-Ok.what _ _ _ c.in-Ok.ensures (rw c.in-Found.is at c.fetch-answer.ensures.log)) c.fetch-answer.ensures.later
    (subst (λ (bytes : List ℕ). EndsBy c.args.url bytes (finish_of c.ending_by.result)) c.as_slice.ensures c.ending_by.ensures.ends)

pub returns-in-Absent-clause-did : goal.returns-in-Absent-clause-did
returns-in-Absent-clause-did g c = λ w at. did_absent c.args.self.now.manifests w c.args.url _ _ at c.requires
    (fetched_for c.args.self.now.manifests c.args.url c.in-Ok.what _ _ _ c.in-Ok.ensures (rw c.in-Absent.is at c.fetch-answer.ensures.log)) c.fetch-answer.ensures.later

pub returns-in-Failed-clause-did : goal.returns-in-Failed-clause-did
returns-in-Failed-clause-did g c = λ w at. did_fail c.args.self.now.manifests w c.args.url _ _ at c.requires
    (fetched_for c.args.self.now.manifests c.args.url c.in-Ok.what _ _ _ c.in-Ok.ensures (rw c.in-Failed.is at c.fetch-answer.ensures.log)) c.fetch-answer.ensures.later (c.fetch-answer.ensures.fault c.in-Failed.is)

pub returns-in-Memory-clause-did : goal.returns-in-Memory-clause-did
returns-in-Memory-clause-did g c = λ w at. did_want c.args.self.now.manifests w c.args.url _ _ at c.requires
    (fetched_for c.args.self.now.manifests c.args.url c.in-Ok.what _ _ _ c.in-Ok.ensures (rw c.in-Memory.is at c.fetch-answer.ensures.log)) c.fetch-answer.ensures.later
