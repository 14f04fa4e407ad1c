use Rattle.std.proofs.Common.{◌≡◌, ◌-◌, length, map, take, drop, sym, ap, ◌∙◌, arith}
use Rattle.std.proofs.lemmas.Grind.{common_steps}
use Rattle.std.proofs.lemmas.List.{drop-map}
use Rattle.cm_storage.proofs.parts.behind.Goals as goal

pub returns : goal.returns
returns c =
    let names = c.args.names.now in
    let cut : take (length names - c.min.result) (drop c.min.result names) ≡ drop c.args.count names = grind (arith, common_steps) in
    ap (map (λ x. x.now)) cut ∙ sym (drop-map (λ x. x.now) c.args.count names)
