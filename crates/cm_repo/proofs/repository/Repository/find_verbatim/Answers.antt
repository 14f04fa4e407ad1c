use Rattle.std.proofs.Common.{rules, sym, ap, ◌∙◌, IsTrue}
use Rattle.std.specs.Option.{option_copied, option_map}
use Rattle.cm_repo.specs.Blocks.{block_at}
use Rattle.cm_repo.proofs.lemmas.Block.{verbatim_at, block_at-entries}
use Rattle.cm_repo.proofs.repository.Repository.find_verbatim.Goals as goal

pub returns-clause-key : goal.returns-clause-key
returns-clause-key c =
    let is : IsTrue c.in-Some.block.now.verbatim = search rules in
    verbatim_at _ c.args.url.now c.in-Some.block.now c.self.invariant (sym c.get.ensures.value ∙ ap option_copied c.in-Some.is) is

pub returns-clause-found : goal.returns-clause-found
returns-clause-found c =
    sym (ap (option_map (λ b. b.bytes)) (ap option_copied (sym c.in-Some.is) ∙ c.get.ensures.value)
    ∙ sym (block_at-entries _ c.args.url.now) ∙ ap (λ blocks. block_at blocks c.args.url.now) c.self.view_is)
