use Rattle.std.proofs.Common.{sym, ap, ◌∙◌}
use Rattle.std.specs.Option.{option_copied, option_map}
use Rattle.cm_repo.specs.Blocks.{block_at}
use Rattle.cm_repo.proofs.lemmas.Block.{block_at-entries}
use Rattle.cm_repo.proofs.repository.Repository.find.Goals as goal

pub returns-in-Some : goal.returns-in-Some
returns-in-Some c =
    ap (option_map (λ b. b.bytes)) (ap option_copied (sym c.in-Some.is) ∙ c.get.ensures.value)
    ∙ sym (block_at-entries _ c.args.url.now) ∙ ap (λ blocks. block_at blocks c.args.url.now) c.self.view_is

pub returns-in-None : goal.returns-in-None
returns-in-None c =
    ap (option_map (λ b. b.bytes)) (ap option_copied (sym c.in-None.is) ∙ c.get.ensures.value)
    ∙ sym (block_at-entries _ c.args.url.now) ∙ ap (λ blocks. block_at blocks c.args.url.now) c.self.view_is
