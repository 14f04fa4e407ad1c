use Rattle.std.proofs.Common.{◌≡◌, ℕ, MatchResult, sym, subst, ◌∙◌, codes, ◌++◌}
use Rattle.cm_world.specs.declared.event.Target.TheVariants.{Inc}
use Rattle.cm_command.specs.Grammar.{CommandText}
use Rattle.cm_reply.specs.Reading.{IsCreatedIn}
use Rattle.cm_reply.proofs.lemmas.back.Created.{command_of, told_created, created_is_legible, created_found}
use Rattle.cm_reply.proofs.reading.create.Goals as goal

pub returns-in-Err-clause-finds : goal.returns-in-Err-clause-finds
returns-in-Err-clause-finds c x h e = c.in-Err.ensures.finds (command_of x) (told_created c.args.rest.now x h e)

pub returns-in_ok-child-in-Create-clause-legible : goal.returns-in_ok-child-in-Create-clause-legible
returns-in_ok-child-in-Create-clause-legible c =
    let at = c.in-Create in
    let made =
    subst (λ child. MatchResult c.created.result (IsCreatedIn at.parent child) (λ e. (i : ℕ) → at.parent ≡ Inc i → ⊥)) c.in_ok-child-in-Create.ensures c.created.ensures in
    created_is_legible (codes "create @" ++ c.args.rest.now) at.parent at.coll at.name at.url at.gives c.created.result made
    (subst (CommandText (codes "create @" ++ c.args.rest.now)) at.is c.in-Ok.ensures.read)

pub returns-in_ok-child-in-Create-clause-finds : goal.returns-in_ok-child-in-Create-clause-finds
returns-in_ok-child-in-Create-clause-finds c x h e =
    let at = c.in-Create in
    let made =
    subst (λ child. MatchResult c.created.result (IsCreatedIn at.parent child) (λ e. (i : ℕ) → at.parent ≡ Inc i → ⊥)) c.in_ok-child-in-Create.ensures c.created.ensures in
    created_found at.parent at.coll at.name at.url at.gives c.created.result x made
    (sym at.is ∙ c.in-Ok.ensures.finds (command_of x) (told_created c.args.rest.now x h e))

pub returns-in_default : goal.returns-in_default
returns-in_default c = record {
  legible = tt;
  finds = λ x h e. absurd (c.in_default.not-Create (Inc x.0) x.1.0 x.1.1.0 x.1.1.1.0 x.1.1.1.1 (c.in-Ok.ensures.finds (command_of x) (told_created c.args.rest.now x h e)));
}
