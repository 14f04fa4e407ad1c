use Rattle.std.proofs.Common.{◌≡◌, true, sym, ap, ◌∙◌, rules}
use Rattle.cm_text.specs.Bytes.{is_space, begins_with}
use Rattle.cm_plain.proofs.lemmas.Piece.{passes_space}
use Rattle.cm_plain.proofs.lemmas.Plain.{space_cut, space_passed}
use Rattle.cm_plain.proofs.plain.behind_one_space.Goals as goal

pub range_from-requires : goal.range_from-requires
range_from-requires c =
    let there : c.begins_space.result ≡ true = search rules in
    let h : begins_with is_space c.args.text.now ≡ true =
    ap (begins_with is_space) (sym c.as_bytes.ensures.value) ∙ sym c.begins_space.ensures ∙ there in
    λ _. space_cut c.args.text.now c.utf8.text h

pub returns-clause-lexed : goal.returns-clause-lexed
returns-clause-lexed c =
    let there : c.begins_space.result ≡ true = search rules in
    let h : begins_with is_space c.args.text.now ≡ true =
    ap (begins_with is_space) (sym c.as_bytes.ensures.value) ∙ sym c.begins_space.ensures ∙ there in
    (space_passed c.args.text.now c.range_from.result.now h c.range_from.ensures.value).0

pub returns-clause-passed : goal.returns-clause-passed
returns-clause-passed c =
    let there : c.begins_space.result ≡ true = search rules in
    let h : begins_with is_space c.args.text.now ≡ true =
    ap (begins_with is_space) (sym c.as_bytes.ensures.value) ∙ sym c.begins_space.ensures ∙ there in
    λ b. passes_space b c.args.text.now c.range_from.result.now h c.range_from.ensures.value
