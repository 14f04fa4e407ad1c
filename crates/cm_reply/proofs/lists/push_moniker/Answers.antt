use Rattle.std.proofs.Common.{OnOk, map, ap, ◌∙◌, subst}
use Rattle.cm_reply.specs.ListsInside.{GainsText}
use Rattle.cm_reply.proofs.lemmas.Monikers.{moniker_so}
use Rattle.cm_reply.proofs.lists.push_moniker.Goals as goal

pub returns-in-Some : goal.returns-in-Some
returns-in-Some c =
    let same = moniker_so c.in-Some.names.now c.args.moniker.now c.in-Some.ensures in
    subst (λ bytes. OnOk c.push_listed.result (GainsText c.args.text.now c.push_listed.new.text bytes)) same c.push_listed.ensures

pub returns : goal.returns
returns c =
    let same = moniker_so (map (λ x. x.now) c.as_slice.result.now) c.args.moniker.now
    (ap (map (λ x. x.now)) c.as_slice.ensures.value ∙ c.in_ok-parts.ensures) in
    subst (λ bytes. OnOk c.push_parts.result (GainsText c.args.text.now c.push_parts.new.text bytes)) same c.push_parts.ensures
