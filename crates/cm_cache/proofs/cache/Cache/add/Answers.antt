use Rattle.std.proofs.Common.{◌≤◌, ◌<◌, length, ap, arith}
use Rattle.cm_cache.specs.Answers.{most}
use Rattle.cm_cache.proofs.lemmas.puts.Caching.{put_full, put_joined}
use Rattle.cm_cache.proofs.cache.Cache.add.Goals as goal

pub returns-then-count-ge-MOST-clause-ok : goal.returns-then-count-ge-MOST-clause-ok
returns-then-count-ge-MOST-clause-ok c =
    let long : most ≤ length c.args.self.now = omega (arith, c.if-count-ge-MOST.true, c.len-count.ensures, c.self.inside.answers.ok.0, ap length c.self.view_is) in
    put_full c.begin_with.result c.args.self.now c.begin_with.new.self c.args.inc c.args.path c.args.walked c.requires long c.begin_with.ensures.ok

pub returns-clause-ok : goal.returns-clause-ok
returns-clause-ok c =
    let short : length c.args.self.now < most = omega (arith, c.if-count-ge-MOST.false, c.len-count.ensures, c.self.inside.answers.ok.0, ap length c.self.view_is) in
    put_joined c.join.result c.args.self.now c.join.new.self c.args.inc c.args.path c.args.walked c.requires short c.join.ensures.ok
