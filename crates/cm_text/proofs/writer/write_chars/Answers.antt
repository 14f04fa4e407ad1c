use Rattle.std.proofs.Common.{◌≡◌, ◌++◌, ◌∙◌, true, sym, string_bytes, rules}
use Rattle.cm_text.proofs.lemmas.Json.{same_written}
use Rattle.cm_text.proofs.writer.write_chars.Goals as goal

pub returns-then-are_same : goal.returns-then-are_same
returns-then-are_same c =
    let all : c.are_same.result ≡ true = search rules in
    let written : string_bytes c.push_str.new.self ≡ string_bytes c.args.json.now ++ c.args.inside.now = search rules in
    same_written (string_bytes c.args.json.now) (string_bytes c.push_str.new.self) c.as_bytes.result.now
    c.args.inside.now c.as_bytes.ensures.value (sym c.are_same.ensures ∙ all) written
