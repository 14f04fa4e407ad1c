use Rattle.std.proofs.Common.{◌≡◌, ◌<◌, ◌∙◌, length, take, get_or, true, arith, rules}
use Rattle.std.specs.Str.{bytes_eq}
use Rattle.std.proofs.lemmas.Slice.Eq.{bytes_eq-Decides}
use Rattle.cm_repo.proofs.lemmas.Alike.{behind}
use Rattle.cm_repo.proofs.alike.fragment_behind.Goals as goal

pub returns : goal.returns
returns c =
    let bytes = c.as_bytes-bytes.result.now in
    let prefix = c.args.prefix.now in
    let inside : length prefix < length bytes = grind (arith, rules) in
    let hash : get_or bytes (length prefix) 0 ≡ 35 = search rules in
    let same : bytes_eq (take (length prefix) bytes) c.as_bytes.result.now ≡ true = search rules in
    let begin : take (length prefix) bytes ≡ prefix = (bytes_eq-Decides _ _).0 same ∙ c.as_bytes.ensures.value in
    behind bytes c.args.text.now prefix c.as_bytes-bytes.ensures.value inside hash begin
