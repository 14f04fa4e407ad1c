use Rattle.std.proofs.Common.{sym, ◌∙◌, ap, arith}
use Rattle.cm_cache.specs.AnswersInside.{is_of, kept_at, put_in}
use Rattle.cm_cache.proofs.lemmas.puts.Placing.{IsAt}
use Rattle.cm_cache.proofs.lemmas.puts.Caching.{on_err_of, placed_is, kept_none, placed_rewritten, put_rewritten}
use Rattle.cm_cache.proofs.cache.Cache.put.Goals as goal

pub index_mut-requires : goal.index_mut-requires
index_mut-requires c =
    let at : IsAt (is_of c.args.inc c.args.path) c.self.inside.answers.items c.in-Some.place = placed_is c.self.inside.places c.self.inside.answers.items c.args.inc c.args.path c.in-Some.place c.self.invariant.each (sym c.find.ensures ∙ c.in-Some.is) in
    omega (arith, at.bound, c.self.inside.answers.ok.0)

pub invariant_of-self : goal.invariant_of-self
invariant_of-self c = record {
  each = placed_rewritten c.self.inside.places c.self.inside.answers.items c.args.inc c.args.path c.args.walked c.in-Some.place c.index_mut.result.now c.self.invariant.each
      (sym c.find.ensures ∙ c.in-Some.is) c.index_mut.ensures.value;
}

pub add-requires : goal.add-requires
add-requires c =
    sym (ap (λ xs. kept_at xs c.args.inc c.args.path) c.self.view_is)
    ∙ kept_none c.self.inside.places c.self.inside.answers.items c.args.inc c.args.path c.self.invariant.each (sym c.find.ensures ∙ c.in-None.is)

pub returns-in-Some-clause-ok : goal.returns-in-Some-clause-ok
returns-in-Some-clause-ok c =
    put_rewritten c.self.inside.places c.self.inside.answers.items c.args.inc c.args.path c.args.walked c.in-Some.place c.index_mut.result.now c.self.invariant.each
    (sym c.find.ensures ∙ c.in-Some.is) c.index_mut.ensures.value
    ∙ ap (λ xs. put_in xs c.args.inc c.args.path c.args.walked) c.self.view_is

pub returns-in-None-clause-absent : goal.returns-in-None-clause-absent
returns-in-None-clause-absent c =
    on_err_of c.add.result
    (sym (ap (λ xs. kept_at xs c.args.inc c.args.path) c.self.view_is)
    ∙ kept_none c.self.inside.places c.self.inside.answers.items c.args.inc c.args.path c.self.invariant.each (sym c.find.ensures ∙ c.in-None.is))
