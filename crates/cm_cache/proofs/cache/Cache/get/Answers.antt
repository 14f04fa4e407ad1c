use Rattle.std.proofs.Common.{sym, ◌∙◌, ap, arith}
use Rattle.cm_cache.specs.AnswersInside.{is_of, kept_at}
use Rattle.cm_cache.proofs.lemmas.puts.Placing.{IsAt}
use Rattle.cm_cache.proofs.lemmas.puts.Caching.{placed_is, kept_none, kept_some}
use Rattle.cm_cache.proofs.cache.Cache.get.Goals as goal

pub index-requires : goal.index-requires
index-requires c =
    let at : IsAt (is_of c.args.inc c.args.path.now) c.self.inside.answers.items c.in-Some.place = placed_is c.self.inside.places c.self.inside.answers.items c.args.inc c.args.path.now c.in-Some.place c.self.invariant.each (sym c.find.ensures ∙ c.in-Some.is) in
    omega (arith, at.bound, c.self.inside.answers.ok.0)

pub returns-in-None : goal.returns-in-None
returns-in-None c =
    sym (kept_none c.self.inside.places c.self.inside.answers.items c.args.inc c.args.path.now c.self.invariant.each (sym c.find.ensures ∙ c.in-None.is))
    ∙ ap (λ xs. kept_at xs c.args.inc c.args.path.now) c.self.view_is

pub returns-in-Some : goal.returns-in-Some
returns-in-Some c =
    let at : IsAt (is_of c.args.inc c.args.path.now) c.self.inside.answers.items c.in-Some.place = placed_is c.self.inside.places c.self.inside.answers.items c.args.inc c.args.path.now c.in-Some.place c.self.invariant.each (sym c.find.ensures ∙ c.in-Some.is) in
    sym (kept_some c.self.inside.answers.items c.args.inc c.args.path.now c.in-Some.place c.index.result.now at c.index.ensures)
    ∙ ap (λ xs. kept_at xs c.args.inc c.args.path.now) c.self.view_is
