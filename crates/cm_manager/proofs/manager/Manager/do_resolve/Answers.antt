use Rattle.cm_manager.proofs.lemmas.calling.Doings.{fits_bad_url, did_nothing, did_bad_url, refused_url}
use Rattle.cm_manager.proofs.manager.Manager.do_resolve.Goals as goal

pub returns-in-Memory-clause-did : goal.returns-in-Memory-clause-did
returns-in-Memory-clause-did g c = did_nothing c.args.self.now.manifests c.args.work.now _

pub returns-in_default : goal.returns-in_default
returns-in_default g c = record {
  did = did_bad_url c.args.self.now.manifests c.args.work.now _ c.in-Err.fault (refused_url c.args.work.now.base c.args.work.now.url c.as_str.result.now c.as_str-2.result.now c.in-Err.fault c.as_str.ensures c.as_str-2.ensures c.in-Err.ensures.err c.in_default.not-Memory);
  fits = fits_bad_url;
}
