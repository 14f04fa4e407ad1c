use Rattle.std.proofs.Common.{◌≡◌, true, map, ◌∙◌, map-id}
use Rattle.clap.specs.Words.{app_of, found_of}
use Rattle.clap.specs.Walk.{rows_of}
use Rattle.clap.specs.Simple.{is_simple}
use Rattle.std.specs.Cmp.{first_so}
use Rattle.cm_call.proofs.lemmas.texts.Word.{rows_ok, rows_err}
use Rattle.cm_call.proofs.call.parsed.Goals as goal

pub returns-in-Ok : goal.returns-in-Ok
returns-in-Ok c =
    let same : map (λ t. t) c.args.words.now ≡ c.args.words.now = map-id c.args.words.now in
    let simple : is_simple (app_of c.args.command) ≡ true = first_so _ _ c.requires in
    rows_ok (app_of c.args.command) c.args.words.now (rows_of (found_of c.in-Ok.matches)) (rw same at (c.in-Ok.ensures.kinds c.requires)) (rw same at (c.in-Ok.ensures.matches simple).0)

pub returns : goal.returns
returns c =
    let same : map (λ t. t) c.args.words.now ≡ c.args.words.now = map-id c.args.words.now in
    rows_err (app_of c.args.command) c.args.words.now c.in-Err.error (rw same at (c.in-Err.ensures.kinds c.requires)) (λ e. c.in_default.not-OutOfMemory (c.kind.ensures ∙ e))
