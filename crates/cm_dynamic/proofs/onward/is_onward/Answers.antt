use Rattle.std.proofs.Common.{IsTrue, sym, ◌∙◌}
use Rattle.std.specs.List.{list_all}
use Rattle.std.specs.Cmp.{first_so, second_so}
use Rattle.cm_dynamic.specs.Apart.{is_plain_offer, is_plain_use}
use Rattle.cm_dynamic.proofs.lemmas.graphs.Walking.{if_any}
use Rattle.cm_dynamic.proofs.onward.is_onward.Goals as goal

pub returns-clause-offers : goal.returns-clause-offers
returns-clause-offers g c =
    if_any (λ told. IsTrue told → IsTrue (list_all is_plain_offer c.args.decl.now.offers)) c.leads_onward.result
    (λ told is. first_so (list_all is_plain_offer c.args.decl.now.offers) (list_all is_plain_use c.args.decl.now.uses) (sym c.are_declared_plain.ensures ∙ c.if-not-are_declared_plain.false))

pub returns-clause-usages : goal.returns-clause-usages
returns-clause-usages g c =
    if_any (λ told. IsTrue told → IsTrue (list_all is_plain_use c.args.decl.now.uses)) c.leads_onward.result
    (λ told is. second_so (list_all is_plain_offer c.args.decl.now.offers) (list_all is_plain_use c.args.decl.now.uses) (sym c.are_declared_plain.ensures ∙ c.if-not-are_declared_plain.false))

pub returns-then-is_unwanted-clause-offers : goal.returns-then-is_unwanted-clause-offers
returns-then-is_unwanted-clause-offers g c = λ is.
    first_so (list_all is_plain_offer c.args.decl.now.offers) (list_all is_plain_use c.args.decl.now.uses) (sym c.are_declared_plain.ensures ∙ c.if-not-are_declared_plain.false)

pub returns-then-is_unwanted-clause-usages : goal.returns-then-is_unwanted-clause-usages
returns-then-is_unwanted-clause-usages g c = λ is.
    second_so (list_all is_plain_offer c.args.decl.now.offers) (list_all is_plain_use c.args.decl.now.uses) (sym c.are_declared_plain.ensures ∙ c.if-not-are_declared_plain.false)

pub returns-then-is_unwanted-clause-ways : goal.returns-then-is_unwanted-clause-ways
returns-then-is_unwanted-clause-ways g c = λ is. c.is_unwanted.ensures c.if-is_unwanted.true
