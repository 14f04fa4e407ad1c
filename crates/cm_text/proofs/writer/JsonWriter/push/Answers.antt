use Rattle.std.proofs.Common.{◌∙◌, ◌++◌, Some, option_map, ap, string_bytes}
use Rattle.cm_text.specs.Scan.{token_of}
use Rattle.cm_text.specs.Writing.{json_pending}
use Rattle.cm_text.proofs.lemmas.Json.{pushed}
use Rattle.cm_text.proofs.writer.JsonWriter.push.Goals as goal

pub returns : goal.returns
returns c ts =
    let written = c.in_ok-write_pending.ensures in
    ap (λ p. string_bytes c.write_pending.new.self.json ++ json_pending (option_map token_of p) (Some (token_of c.args.token)) ts) written.pending
    ∙ pushed (string_bytes c.args.self.now.json) (string_bytes c.write_pending.new.self.json) c.args.self.now.before c.args.self.now.pending (token_of c.args.token) ts c.args.self.now.is_spelled written.json
