use Rattle.std.proofs.Common.{◌≡◌, ◌++◌, ◌∷◌, [], true, None, Ok, is_some, sym, ap, subst, ◌∙◌, rules, inl}
use Rattle.cm_facts.proofs.Options.{is_some_false}
use Rattle.cm_repo.specs.Blocks.{blocks_of, block_at}
use Rattle.cm_repo.specs.BlocksInside.{FindsAlso}
use Rattle.cm_repo.proofs.lemmas.Block.{is_some-block_at, blocks_of-insert, own-insert, added-repeated, added-new, FindsAlso-push}
use Rattle.cm_repo.proofs.repository.Repository.add.Goals as goal

pub returns-then-contains_key-clause-refused : goal.returns-then-contains_key-clause-refused
returns-then-contains_key-clause-refused c =
    let there : is_some (block_at c.args.self.now c.in_ok-text.field-0.text) ≡ true =
    is_some-block_at c.self.inside.blocks.entries _ _ c.contains_key.result c.self.view_is c.as_str.ensures c.contains_key.ensures ∙ c.if-contains_key.true in
    inl (added-repeated _ _ _ _ c.in_ok-text.ensures.ok there)

pub returns : goal.returns
returns c =
    let key = c.in_ok-text.field-0.text in
    let absent : block_at c.args.self.now key ≡ None =
    is_some_false _ (is_some-block_at c.self.inside.blocks.entries _ _ c.contains_key.result c.self.view_is c.as_str.ensures c.contains_key.ensures ∙ c.if-contains_key.false) in
    let grown : blocks_of c.insert.new.self.entries ≡ c.args.self.now ++ (key, c.args.bytes) ∷ [] =
    blocks_of-insert c.self.inside.blocks c.insert.new.self c.in_ok-text-2.text _ key _ c.self.view_is c.in_ok-text-2.ensures.ok absent c.in_ok-insert.ensures.entries in
    record {
      ok = added-new _ _ _ _ c.in_ok-text.ensures.ok absent ∙ ap Ok (sym grown);
      found = subst (λ blocks. FindsAlso c.args.self.now blocks c.args.url.now c.args.bytes) (sym grown) (FindsAlso-push _ _ _ _ c.in_ok-text.ensures.ok absent);
      refused = search rules;
      unchanged = search rules;
    }

pub invariant_of-self-2 : goal.invariant_of-self-2
invariant_of-self-2 c =
    let key = c.in_ok-text.field-0.text in
    let absent : block_at c.args.self.now key ≡ None =
    is_some_false _ (is_some-block_at c.self.inside.blocks.entries _ _ c.contains_key.result c.self.view_is c.as_str.ensures c.contains_key.ensures ∙ c.if-contains_key.false) in
    own-insert c.self.inside.blocks c.insert.new.self c.in_ok-text-2.text _ key _ c.self.view_is c.in_ok-text-2.ensures.ok absent c.in_ok-insert.ensures.entries c.self.invariant c.in_ok-text.ensures.own
