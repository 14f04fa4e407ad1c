use Rattle.std.proofs.Common.{◌≡◌, [], ◌∷◌, ◌++◌, sym, ◌∙◌}
use Rattle.std.proofs.lemmas.Result.{on_ok_weaker}
use Rattle.cm_deps.specs.Sources.{ListsMore}
use Rattle.cm_deps.proofs.lemmas.given.Sourcing.{source_absent, added_none, added_number}
use Rattle.cm_deps.proofs.sources.add_source.Goals as goal

pub returns-in-None : goal.returns-in-None
returns-in-None c =
    added_none c.args.nodes.now c.args.source.now c.args.numbers.now
    (source_absent c.args.nodes.now c.args.source.now c.in-Some.node (sym c.in_ok-node.ensures ∙ c.in-Some.is) (c.in-None.ensures.none c.requires))

pub returns : goal.returns
returns c =
    on_ok_weaker {P = (c.push.new.self ≡ c.args.numbers.now ++ c.in-Some-number.place ∷ [])} {Q = (ListsMore c.args.nodes.now (c.args.source.now ∷ []) c.args.numbers.now c.push.new.self)} c.push.result
    (λ pushed. added_number c.args.nodes.now c.args.source.now c.in-Some.node c.in-Some-number.place c.args.numbers.now c.push.new.self c.requires (sym c.in_ok-node.ensures ∙ c.in-Some.is) c.in-Some-number.ensures.some pushed)
    c.push.ensures.ok
