use Rattle.std.proofs.Common.{rules, ◌≡◌, ◌∙◌, sym, ap, length, true, false, ◌&&◌, get_or, ◌==◌}
use Rattle.std.specs.Prelude.{nat_eq}
use Rattle.std.specs.List.{starts_with}
use Rattle.std.proofs.lemmas.Bool.{eq-eqb}
use Rattle.cm_valid.proofs.lemmas.Near.{covers_is, covers_same}
use Rattle.cm_valid.proofs.near.covers.Goals as goal

pub returns-then-not-starts_with : goal.returns-then-not-starts_with
returns-then-not-starts_with c =
    let prefix : starts_with nat_eq c.args.inner.now c.args.outer.now ≡ false = search rules in
    sym (covers_is c.args.outer.now c.args.inner.now ∙ ap (λ v. v && (get_or c.args.inner.now (length c.args.outer.now) 0 == 0)) prefix)

pub returns-then-inner-outer : goal.returns-then-inner-outer
returns-then-inner-outer c =
    let prefix : starts_with nat_eq c.args.inner.now c.args.outer.now ≡ true = search rules in
    eq-eqb (length c.args.inner.now) (length c.args.outer.now) c.if-inner-outer.true ∙ sym (covers_same c.args.outer.now c.args.inner.now prefix (search rules))

pub returns-else-inner-outer : goal.returns-else-inner-outer
returns-else-inner-outer c =
    let prefix : starts_with nat_eq c.args.inner.now c.args.outer.now ≡ true = search rules in
    sym (covers_is c.args.outer.now c.args.inner.now ∙ ap (λ v. v && (get_or c.args.inner.now (length c.args.outer.now) 0 == 0)) prefix)
