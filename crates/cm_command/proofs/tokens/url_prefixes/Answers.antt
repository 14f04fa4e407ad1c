use Rattle.std.proofs.Common.{rules}
use Rattle.cm_command.proofs.lemmas.counts.Url.{url_counts, url_whole}
use Rattle.cm_command.proofs.tokens.url_prefixes.Goals as goal

pub returns : goal.returns
returns c = record {
  prefixes = url_counts c.args.word.now c.url_bytes-bytes.result c.min.result c.url_bytes-bytes.ensures (search rules);
  whole = url_whole c.args.word.now c.url_bytes-bytes.result c.min.result c.url_bytes-bytes.ensures (search rules);
}
