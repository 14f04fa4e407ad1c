use Rattle.cm_text.proofs.lemmas.found.Outline.{found_cut}
use Rattle.cm_text.proofs.lemmas.found.Loop.{some_token_of}
use Rattle.cm_text.proofs.lemmas.found.Next.{blank_passed, no_token}
use Rattle.cm_text.proofs.next.behind_blank.Goals as goal

pub range_from-requires : goal.range_from-requires
range_from-requires c =
    λ _. found_cut c.args.text.now (some_token_of c.in-Ok.piece.token) 0 c.in-Ok.piece.len c.utf8.text c.in-Ok.ensures

pub returns-in-None-clause-blank : goal.returns-in-None-clause-blank
returns-in-None-clause-blank c =
    blank_passed c.args.text.now c.range_from.result.now (some_token_of c.in-Ok.piece.token) c.in-Ok.piece.len
    c.range_from.ensures.value (no_token c.in-Ok.piece.token c.in-None.is) c.in-Ok.ensures
