use Rattle.std.proofs.Common.{◌≡◌, ◌∙◌, All, IfSome, map, subst, sym, ap, rules}
use Rattle.cm_names.specs.Child.{child_text}
use Rattle.cm_names.specs.Moniker.{IsChildName, IsMonikerTextOf}
use Rattle.cm_names.specs.Path.{parts_of}
use Rattle.cm_names.proofs.lemmas.texts.MonikerParts.{made}
use Rattle.cm_command.proofs.tokens.read_moniker.Goals as goal

pub returns-in_ok-new-in-Some : goal.returns-in_ok-new-in-Some
returns-in_ok-new-in-Some c =
    let read = subst (λ found. IfSome found (λ parts. All IsChildName parts × (map child_text parts ≡ parts_of c.behind_slash.result.now))) c.in-Some.is c.in_ok-parts.ensures in
    let given = made c.args.word.now c.in-Some.parts read.0 (read.1 ∙ ap parts_of c.behind_slash.ensures) in
    (subst (λ names. IsMonikerTextOf c.args.word.now (record { parts = names })) (sym (c.from_list.ensures ∙ c.in_ok-new-in-Some.ensures)) given, search rules)
