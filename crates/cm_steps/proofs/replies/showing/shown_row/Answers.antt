use Rattle.std.proofs.Common.{[], option_map, unwrap_or, ◌∙◌, ap}
use Rattle.cm_world.specs.declared.reply.Reply.TheVariants.{Shown}
use Rattle.cm_world.proofs.lemmas.trees.Finding.{row_of-inc}
use Rattle.cm_steps.proofs.lemmas.read.Reading.{resolved_is}
use Rattle.cm_steps.proofs.replies.showing.shown_row.Goals as goal

pub returns : goal.returns
returns c = λ r lives told.
    ap Shown
    (c.look-look.ensures r (row_of-inc c.args.table.now.rows c.args.inc r lives) told (c.in_ok-url.ensures ∙ ap (λ o. unwrap_or o []) (c.url.ensures ∙ ap (option_map (λ s. s.url)) lives))
    (resolved_is c.args.table.now.rows c.args.inc r c.is_resolved-resolved.result c.is_resolved-resolved.ensures lives))
