use Rattle.std.proofs.Common.{rules}
use Rattle.cm_command.proofs.lemmas.counts.Url.{not_whole, nothing_is_no_url, url_utf8}
use Rattle.cm_command.proofs.tokens.read_url.Goals as goal

pub returns-then-is_empty : goal.returns-then-is_empty
returns-then-is_empty c = (nothing_is_no_url c.args.word.now (search rules), c.url_prefixes-prefixes.ensures.prefixes)

pub returns-then-prefixes-word : goal.returns-then-prefixes-word
returns-then-prefixes-word c =
    (not_whole c.args.word.now c.url_prefixes-prefixes.result c.url_prefixes-prefixes.ensures.prefixes (search rules), c.url_prefixes-prefixes.ensures.prefixes)

pub returns-in_default : goal.returns-in_default
returns-in_default c = (λ url. c.in_default.ensures (url_utf8 c.args.word.now url), c.url_prefixes-prefixes.ensures.prefixes)
