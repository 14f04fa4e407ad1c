use Rattle.std.proofs.Common.{◌≡◌, ◌++◌, List, ℕ, subst, OnOk, string_bytes}
use Rattle.cm_text.proofs.lemmas.Json.{quoted_json}
use Rattle.cm_text.proofs.writer.write_quoted.Goals as goal

pub returns-else-quote-eq39 : goal.returns-else-quote-eq39
returns-else-quote-eq39 c =
    let P : List ℕ → Type 0 = λ xs. OnOk c.write_in_quotes.result (string_bytes c.write_in_quotes.new.json ≡ string_bytes c.args.json.now ++ xs) in
    subst P (quoted_json c.args.quote c.args.inside.now c.requires c.if-quote-eq39.false) c.write_in_quotes.ensures
