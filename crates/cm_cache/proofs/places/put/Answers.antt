use Rattle.std.proofs.Common.{◌≡◌, Some, sym, ◌∙◌, ap}
use Rattle.std.specs.Option.{option_copied_mut, is_some}
use Rattle.std.specs.Ordering.{nat_cmp}
use Rattle.std.specs.BTreeMap.{get}
use Rattle.std.proofs.lemmas.Result.{on_err_weaker}
use Rattle.cm_cache.proofs.lemmas.puts.Placing.{written_back}
use Rattle.cm_cache.proofs.places.put.Goals as goal

pub returns-in-Some-clause-err : goal.returns-in-Some-clause-err
returns-in-Some-clause-err c =
    let there : get nat_cmp c.args.places.now c.args.inc ≡ Some c.in-Some.paths.now = sym c.get_mut.ensures.value ∙ ap option_copied_mut c.in-Some.is in
    on_err_weaker c.number.result
    (written_back c.args.places.now (c.get_mut.follows.lender c.number.new.paths) c.args.inc c.in-Some.paths.now c.number.new.paths there
    ((c.get_mut.follows.holds c.number.new.paths).3 (ap is_some there)).0)
    c.number.ensures.err
